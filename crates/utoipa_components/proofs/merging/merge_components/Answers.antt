use Rattle.std.proofs.Common.{◌≡◌, ◌∷◌, [], ◌++◌, ◌∙◌, map, ap, sym, subst}
use Rattle.std.specs.List.{AllByRecursion}
use Rattle.std.proofs.lemmas.List.{append-nil, append_assoc, map-append}
use Rattle.utoipa_base.specs.Views.{option_of}
use Rattle.utoipa_merging.specs.Merged.{AreComponentsMerged}
use Rattle.utoipa_merging.proofs.Composition.{components_compose}
use Rattle.utoipa_merging.proofs.ItemWalks.{none_left}
use Rattle.utoipa_components.specs.Components.{components_doc}
use Rattle.utoipa_components.specs.Filled.{AreComponentsInOrder}
use Rattle.utoipa_components.proofs.FilledMaps.{one_merged, none_in_order, all_but_last}
use Rattle.utoipa_components.proofs.merging.merge_components.Goals as goal

pub returns-in_default-clause-ordered : goal.returns-in_default-clause-ordered
returns-in_default-clause-ordered c = λ all. none_in_order

pub loop-later-init : goal.loop-later-init
loop-later-init c = record {
  passed = ap (λ it. c.in-Some.merged ∷ it.rest.items) c.into_iter-later-iterator.ensures.into_iter_gives ∙ sym c.in-Some.ensures.items ∙ c.into_iter-all.ensures.rest;
  merged = one_merged (option_of components_doc c.in-Some.merged);
  in_order = λ all. all.0;
}

pub loop-later-preserved : goal.loop-later-preserved
loop-later-preserved c =
    let before = c.loop-later.invariant in
    let made = c.in_ok-merged.ensures in
    let first = c.in-Some.merged in
    let later = c.in-Some-later.later in
    let f = option_of components_doc in
    record {
      passed = ap (λ l. first ∷ l) (append_assoc c.loop-later.yielded (later ∷ []) _ ∙ ap (λ l. c.loop-later.yielded ++ l) (sym c.in-Some-later.ensures.steps.0)) ∙ before.passed;
      merged =
          subst (λ ds. AreComponentsMerged ds (f c.in_ok-merged.merged)) (sym (map-append f (first ∷ c.loop-later.yielded) (later ∷ [])))
          (components_compose (map f (first ∷ c.loop-later.yielded)) (f later ∷ []) (f c.loop-later.merged) (f later) (f c.in_ok-merged.merged) before.merged (one_merged (f later)) made.merged);
      in_order = λ all.
          let both = all_but_last AreComponentsInOrder (first ∷ c.loop-later.yielded) later all in
          made.ordered (before.in_order both.0) both.1;
    }

pub returns-clause-merged : goal.returns-clause-merged
returns-clause-merged c =
    let rest = c.loop-later.later-iterator.rest in
    let none = none_left rest.items rest.len rest.ok.0 c.in-None.ensures.steps.0 in
    let all : c.in-Some.merged ∷ c.loop-later.yielded ≡ c.args.all.items = ap (λ l. c.in-Some.merged ∷ l) (sym (append-nil c.loop-later.yielded) ∙ ap (λ l. c.loop-later.yielded ++ l) (sym none)) ∙ c.loop-later.invariant.passed in
    λ some. subst (λ cs. AreComponentsMerged (map (option_of components_doc) cs) (option_of components_doc c.loop-later.merged)) all c.loop-later.invariant.merged

pub returns-clause-ordered : goal.returns-clause-ordered
returns-clause-ordered c =
    let rest = c.loop-later.later-iterator.rest in
    let none = none_left rest.items rest.len rest.ok.0 c.in-None.ensures.steps.0 in
    let all : c.in-Some.merged ∷ c.loop-later.yielded ≡ c.args.all.items = ap (λ l. c.in-Some.merged ∷ l) (sym (append-nil c.loop-later.yielded) ∙ ap (λ l. c.loop-later.yielded ++ l) (sym none)) ∙ c.loop-later.invariant.passed in
    subst (λ cs. AllByRecursion AreComponentsInOrder cs → AreComponentsInOrder c.loop-later.merged) all c.loop-later.invariant.in_order

pub returns-clause-none : goal.returns-clause-none
returns-clause-none c =
    let rest = c.loop-later.later-iterator.rest in
    let none = none_left rest.items rest.len rest.ok.0 c.in-None.ensures.steps.0 in
    let all : c.in-Some.merged ∷ c.loop-later.yielded ≡ c.args.all.items = ap (λ l. c.in-Some.merged ∷ l) (sym (append-nil c.loop-later.yielded) ∙ ap (λ l. c.loop-later.yielded ++ l) (sym none)) ∙ c.loop-later.invariant.passed in
    λ e. let some : c.in-Some.merged ∷ c.loop-later.yielded ≡ [] = all ∙ e in cc
