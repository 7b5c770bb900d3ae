use Rattle.std.proofs.Common.{◌≡◌, ◌∷◌, [], ◌++◌, ◌∙◌, map, ap, sym, subst}
use Rattle.std.proofs.lemmas.List.{append-nil, append_assoc}
use Rattle.std.specs.List.{AllByRecursion}
use Rattle.utoipa_merging.specs.Merged.{ArePathsMerged, ArePathsInOrder}
use Rattle.utoipa_merging.proofs.ItemWalks.{none_left}
use Rattle.utoipa_paths.specs.Paths.{paths_doc}
use Rattle.utoipa_paths.proofs.PathsViews.{paths_none, paths_more, none_ordered, all_but_last}
use Rattle.utoipa_paths.proofs.merging.merge_paths.Goals as goal

pub loop-paths-init : goal.loop-paths-init
loop-paths-init c =
    record {
      passed = c.into_iter-paths-iterator.ensures.into_iter_gives.0;
      merged = paths_none c.new-merged.result c.new-merged.ensures;
      in_order = λ all. none_ordered c.new-merged.result c.new-merged.ensures;
    }

pub loop-paths-preserved : goal.loop-paths-preserved
loop-paths-preserved c =
    let before = c.loop-paths.invariant in
    let made = c.in_ok-merged.ensures in
    record {
      passed = append_assoc c.loop-paths.yielded (c.in-Some.paths ∷ []) _ ∙ ap (λ l. c.loop-paths.yielded ++ l) (sym c.in-Some.ensures.steps.0) ∙ before.passed;
      merged = paths_more c.loop-paths.yielded c.loop-paths.merged c.in-Some.paths c.in_ok-merged.merged before.merged made.merged;
      in_order = λ all.
          let both = all_but_last (λ paths. ArePathsInOrder (paths_doc paths)) c.loop-paths.yielded c.in-Some.paths all in
          made.ordered (before.in_order both.0) both.1;
    }

pub returns-clause-merged : goal.returns-clause-merged
returns-clause-merged c =
    let rest = c.loop-paths.paths-iterator.rest in
    let none = none_left rest.items rest.len rest.ok.0 c.in-None.ensures.steps.0 in
    let all : c.loop-paths.yielded ≡ c.args.all.items = sym (append-nil c.loop-paths.yielded) ∙ ap (λ l. c.loop-paths.yielded ++ l) (sym none) ∙ c.loop-paths.invariant.passed in
    subst (λ ps. ArePathsMerged (map paths_doc ps) (paths_doc c.loop-paths.merged)) all c.loop-paths.invariant.merged

pub returns-clause-ordered : goal.returns-clause-ordered
returns-clause-ordered c =
    let rest = c.loop-paths.paths-iterator.rest in
    let none = none_left rest.items rest.len rest.ok.0 c.in-None.ensures.steps.0 in
    let all : c.loop-paths.yielded ≡ c.args.all.items = sym (append-nil c.loop-paths.yielded) ∙ ap (λ l. c.loop-paths.yielded ++ l) (sym none) ∙ c.loop-paths.invariant.passed in
    subst (λ ps. AllByRecursion (λ paths. ArePathsInOrder (paths_doc paths)) ps → ArePathsInOrder (paths_doc c.loop-paths.merged)) all c.loop-paths.invariant.in_order
