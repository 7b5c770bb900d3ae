use Rattle.std.proofs.Common.{◌≡◌, ◌∷◌, ◌++◌, map}
use Rattle.std.specs.List.{AllByRecursion}
use Rattle.utoipa_base.specs.Views.{option_of}
use Rattle.utoipa_components.specs.Components.{components_doc}
use Rattle.utoipa_components.specs.Filled.{AreComponentsInOrder}
use Rattle.utoipa_merging.specs.Merged.{AreComponentsMerged}
use Rattle.utoipa_components.proofs.merging.merge_components.Given as goal

abbrev pub invariant-loop-later : goal.invariant-loop-later
invariant-loop-later l = record {
  passed : l.initial.merged ∷ (l.yielded ++ l.later-iterator.rest.items) ≡ l.fn.all.items;
  merged : AreComponentsMerged (map (option_of components_doc) (l.initial.merged ∷ l.yielded)) (option_of components_doc l.merged);
  in_order : AllByRecursion AreComponentsInOrder (l.initial.merged ∷ l.yielded) → AreComponentsInOrder l.merged;
}
