use Rattle.std.proofs.Common.{IsSome, map, sym, subst}
use Rattle.std.proofs.lemmas.List.{take_all}
use Rattle.std.proofs.lemmas.List.Elements.{All-nil}
use Rattle.utoipa_base.specs.WellFormed.{IsPlain}
use Rattle.utoipa_base.proofs.Plain.{write_plain}
use Rattle.utoipa_merging_parts.specs.Lists.{AreKnown, place_of, text_of}
use Rattle.utoipa_merging_parts.proofs.KnownTexts.{all_known}
use Rattle.utoipa_merging_parts.proofs.Walks.{take_item}
use Rattle.utoipa_merging_parts.proofs.lists.places_of.Goals as goal

pub loop-place-init : goal.loop-place-init
loop-place-init g c = All-nil (λ d. IsSome (place_of (text_of d) c.new-places.result))

pub loop-place-preserved : goal.loop-place-preserved
loop-place-preserved g c =
    let f = g.T.Documented.doc in
    let entries = c.args.entries.now in
    let place = c.loop-place.place in
    let entry = c.index-entries-place.result in
    let plain : IsPlain (f entry) = subst (λ x. IsPlain (f x)) (sym c.index-entries-place.is) (c.requires.plain place entry c.loop-place-test.true) in
    subst (AreKnown c.insert.new.self) (sym (take_item f entries place entry c.loop-place-test.true c.index-entries-place.is))
    (all_known c.loop-place.places c.insert.new.self c.in_ok-to_json.field-0 place _ (f entry) c.in_ok-insert.ensures.entries (c.in_ok-to_json.ensures.text (write_plain (f entry) plain)) c.loop-place.invariant)

pub returns : goal.returns
returns g c = subst (λ es. AreKnown c.loop-place.places (map g.T.Documented.doc es)) (take_all c.loop-place.place c.args.entries.now c.loop-place-test.false) c.loop-place.invariant
