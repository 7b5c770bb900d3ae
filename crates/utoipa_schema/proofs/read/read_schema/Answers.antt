use Rattle.std.proofs.Common.{◌≡◌, ◌∷◌, [], ◌++◌, false, ap, ◌∙◌, rules, arith}
use Rattle.std.proofs.lemmas.List.{map-append}
use Rattle.serde_json.specs.View.{view}
use Rattle.utoipa_base.specs.Kinds.{schema}
use Rattle.utoipa_base.specs.Reading.{read}
use Rattle.utoipa_schema.specs.Docs.{schema_doc}
use Rattle.utoipa_schema.specs.Outcomes.{outcome_doc, count_of, own_part, grouped}
use Rattle.utoipa_schema.specs.Places.{Place, place_at, by_itself, places, total}
use Rattle.utoipa_schema.proofs.Fitting.{reads_from, fits_as_well, own_back}
use Rattle.utoipa_schema.proofs.Walks.{total-one}
use Rattle.utoipa_schema.proofs.read.read_schema.Goals as goal

pub returns-in_err-push : goal.returns-in_err-push
returns-in_err-push c = record { ok = search rules; err = search rules; grows = omega arith; at_most = omega arith; at_least = search rules }

pub returns-in_err-filled : goal.returns-in_err-filled
returns-in_err-filled c =
    let place : Place = place_at false by_itself (view c.args.tree.now) in
    let none : c.new-roots.result.items ≡ [] = search rules in
    let roots : places c.push.new.self.items ≡ place ∷ [] = ap places c.in_ok-push.ensures.items ∙ map-append _ c.new-roots.result.items _ ∙ ap (λ xs. places xs ++ place ∷ []) none in
    record { ok = search rules; err = search rules; grows = c.read_places.ensures.grows; at_most = omega (arith, c.read_places.ensures.at_most, ap total roots, total-one place); at_least = search rules }

pub returns : goal.returns
returns c =
    let place : Place = place_at false by_itself (view c.args.tree.now) in
    let none : c.new-roots.result.items ≡ [] = search rules in
    let roots : places c.push.new.self.items ≡ place ∷ [] = ap places c.in_ok-push.ensures.items ∙ map-append _ c.new-roots.result.items _ ∙ ap (λ xs. places xs ++ place ∷ []) none in
    let done = c.take_last.ensures.read false (view c.args.tree.now) [] (c.in_ok-filled.ensures.read ∙ ap grouped roots) in
    reads_from schema_doc c.only_schema.result _ _ _ _ _ _ (fits_as_well _ _ _ _ (count_of (outcome_doc c.take_last.result)) (count_of (outcome_doc c.take_last.result)) c.only_schema.ensures (ap own_part done.0 ∙ own_back (read schema (view c.args.tree.now))) (omega arith)) c.read_places.ensures.grows c.read_places.ensures.at_most
    (omega (arith, ap total roots, total-one place)) (λ below. omega (arith, c.in_ok-filled.ensures.at_least below, c.take_last.ensures.counted))
