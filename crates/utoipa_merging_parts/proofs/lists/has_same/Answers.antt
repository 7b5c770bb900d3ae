use Rattle.std.proofs.Common.{◌<◌, ◌∙◌, length, true≢false, refl, sym}
use borrow.Author.Tests.{ltb-true}
use Rattle.utoipa_merging_parts.proofs.KnownTexts.{not_known}
use Rattle.utoipa_merging_parts.proofs.Walks.{met}
use Rattle.utoipa_merging_parts.proofs.lists.has_same.Goals as goal

pub returns-in_default : goal.returns-in_default
returns-in_default g c = (
  (λ is. absurd (true≢false (sym is))),
  (λ there. absurd (not_known c.args.places.now _ (g.T.Documented.doc c.args.entry.now.entry) c.as_slice.result.now c.requires.known (c.as_slice.ensures.value ∙ c.requires.written.1) c.in_default.ensures.value there)),
)

pub returns-then-same : goal.returns-then-same
returns-then-same g c =
    let first = c.in-Some-get.first.now in
    let within : c.in-Some.place.now < length c.args.earlier.now = ltb-true _ _ (sym c.in-Some-get.ensures.lookup.0) in
    (λ is. met g.T.Documented.doc c.args.earlier.now c.in-Some.place.now first _ within c.in-Some-get.ensures.lookup.1 (c.same.ensures.0 c.if-same.true), λ there. refl)
