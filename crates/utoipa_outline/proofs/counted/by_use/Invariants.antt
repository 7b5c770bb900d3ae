use Rattle.std.proofs.Common.{◌≡◌, ◌++◌, drop, not}
use Rattle.std.specs.BTreeSet.{contains_text}
use Rattle.std.specs.List.{flat_map}
use Rattle.utoipa_check.specs.Pointers.{escaped}
use Rattle.utoipa_outline.specs.Counted.{if_so}
use Rattle.utoipa_outline.specs.Views.{texts_of}
use Rattle.utoipa_outline.proofs.counted.by_use.Given as goal

abbrev pub invariant-loop-name : goal.invariant-loop-name
invariant-loop-name l = record {
  used :
      texts_of l.found.used.items ++ flat_map (λ name. if_so (contains_text l.used (escaped name)) name) (texts_of (drop l.name-index l.names))
      ≡ flat_map (λ name. if_so (contains_text l.used (escaped name)) name) (texts_of l.names);
  unused :
      texts_of l.found.unused.items ++ flat_map (λ name. if_so (not (contains_text l.used (escaped name))) name) (texts_of (drop l.name-index l.names))
      ≡ flat_map (λ name. if_so (not (contains_text l.used (escaped name))) name) (texts_of l.names);
}
