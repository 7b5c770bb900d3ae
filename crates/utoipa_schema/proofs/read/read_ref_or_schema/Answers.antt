use Rattle.std.proofs.Common.{◌≡◌, ◌∷◌, [], ◌++◌, Some, Ok, true, sym, ap, ◌∙◌, rules, arith}
use Rattle.std.proofs.lemmas.List.{map-append}
use Rattle.serde_json.specs.View.{view}
use Rattle.utoipa_base.specs.Kinds.{schema, ref_or}
use Rattle.utoipa_base.specs.Reading.{read}
use Rattle.utoipa_base.specs.Refs.{ref_or_doc}
use Rattle.utoipa_base.specs.Values.{schema_count}
use Rattle.utoipa_schema.specs.Docs.{schema_doc}
use Rattle.utoipa_schema.specs.Outcomes.{outcome_doc, count_of, grouped}
use Rattle.utoipa_schema.specs.Places.{Place, place_at, by_itself, places, total}
use Rattle.utoipa_schema.proofs.Fitting.{reads_from, passes_fits}
use Rattle.utoipa_schema.proofs.Walks.{total-one}
use Rattle.utoipa_schema.proofs.read.read_ref_or_schema.Goals as goal

pub returns-in_err-push : goal.returns-in_err-push
returns-in_err-push c = record { ok = search rules; err = search rules; grows = omega arith; at_most = omega arith; at_least = search rules }

pub returns-in_err-filled : goal.returns-in_err-filled
returns-in_err-filled c =
    let place : Place = place_at true by_itself (view c.args.tree.now) in
    let none : c.new-roots.result.items ≡ [] = search rules in
    let roots : places c.push.new.self.items ≡ place ∷ [] = ap places c.in_ok-push.ensures.items ∙ map-append _ c.new-roots.result.items _ ∙ ap (λ xs. places xs ++ place ∷ []) none in
    record { ok = search rules; err = search rules; grows = c.read_places.ensures.grows; at_most = omega (arith, c.read_places.ensures.at_most, ap total roots, total-one place); at_least = search rules }

pub returns-in_err-place : goal.returns-in_err-place
returns-in_err-place c =
    let place : Place = place_at true by_itself (view c.args.tree.now) in
    let none : c.new-roots.result.items ≡ [] = search rules in
    let roots : places c.push.new.self.items ≡ place ∷ [] = ap places c.in_ok-push.ensures.items ∙ map-append _ c.new-roots.result.items _ ∙ ap (λ xs. places xs ++ place ∷ []) none in
    let done = c.take_last.ensures.read true (view c.args.tree.now) [] (c.in_ok-filled.ensures.read ∙ ap grouped roots) in
    let one = passes_fits _ (ref_or_doc schema schema_doc) c.from_residual-in_err-place.result _ _ _ _ (count_of (outcome_doc c.take_last.result)) c.from_residual-in_err-place.ensures.1 c.in_err-place.ensures (λ h. sym done.0 ∙ h) in
    reads_from (ref_or_doc schema schema_doc) c.from_residual-in_err-place.result _ _ _ _ _ _ one c.read_places.ensures.grows c.read_places.ensures.at_most (omega (arith, ap total roots, total-one place)) (λ below. omega (arith, c.in_ok-filled.ensures.at_least below, c.take_last.ensures.counted))

pub returns : goal.returns
returns c =
    let place : Place = place_at true by_itself (view c.args.tree.now) in
    let none : c.new-roots.result.items ≡ [] = search rules in
    let roots : places c.push.new.self.items ≡ place ∷ [] = ap places c.in_ok-push.ensures.items ∙ map-append _ c.new-roots.result.items _ ∙ ap (λ xs. places xs ++ place ∷ []) none in
    let done = c.take_last.ensures.read true (view c.args.tree.now) [] (c.in_ok-filled.ensures.read ∙ ap grouped roots) in
    let held = c.into_inner.ensures in
    let one = c.in_ok-place.ensures in
    reads_from (ref_or_doc schema schema_doc) (Ok c.into_inner.result) (read (ref_or schema) (view c.args.tree.now)) (count_of (outcome_doc c.take_last.result)) _ _ _ _ (record {
      ok = sym done.0 ∙ one.ok ∙ ap (λ p. Some (ref_or_doc schema schema_doc p)) (sym held);
      err = tt;
      counted = omega (arith, one.counted, ap (λ p. schema_count (ref_or_doc schema schema_doc p)) held);
    }) c.read_places.ensures.grows c.read_places.ensures.at_most
    (omega (arith, ap total roots, total-one place)) (λ below. omega (arith, c.in_ok-filled.ensures.at_least below, c.take_last.ensures.counted))
