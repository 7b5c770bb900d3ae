use Rattle.std.proofs.Common.{◌≡◌, ◌∷◌, [], ◌++◌, ◌∙◌, ap, sym, subst}
use Rattle.std.specs.Vec.Iter.{into_iter_items}
use Rattle.std.proofs.lemmas.List.{append-nil, append_assoc}
use Rattle.utoipa_merging.proofs.ItemWalks.{none_left}
use Rattle.utoipa.specs.Merging.{ArePartsOf}
use Rattle.utoipa.proofs.bracketing.take_parts.Goals as goal

pub loop-document-init : goal.loop-document-init
loop-document-init c = record {
  passed = ap (λ it. it.rest.items) c.into_iter-document-iterator.ensures.into_iter_gives;
  parts = c.in_ok-take.ensures.parts [];
}

pub loop-document-preserved : goal.loop-document-preserved
loop-document-preserved c =
    let before = c.loop-document.invariant in
    record {
      passed = append_assoc c.loop-document.yielded (c.in-Some.document ∷ []) _ ∙ ap (λ l. c.loop-document.yielded ++ l) (sym c.in-Some.ensures.steps.0) ∙ before.passed;
      parts = λ none. c.in_ok-take_whole.ensures (c.args.first.now ∷ c.loop-document.yielded) (before.parts none);
    }

pub returns-clause-parts : goal.returns-clause-parts
returns-clause-parts c =
    let rest = c.loop-document.document-iterator.rest in
    let none = none_left rest.items rest.len rest.ok.0 c.in-None.ensures.steps.0 in
    let all : c.loop-document.yielded ≡ into_iter_items c.args.others = sym (append-nil c.loop-document.yielded) ∙ ap (λ l. c.loop-document.yielded ++ l) (sym none) ∙ c.loop-document.invariant.passed in
    λ first. subst (λ ds. ArePartsOf (c.args.first.now ∷ ds) c.loop-document.parts) all (c.loop-document.invariant.parts first)

pub returns-clause-fixed : goal.returns-clause-fixed
returns-clause-fixed c = c.in_ok-take.ensures.fixed
