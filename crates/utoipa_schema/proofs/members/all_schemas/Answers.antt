use Rattle.std.proofs.Common.{◌≡◌, ◌∷◌, [], map, ap, ◌∙◌, rules, length, arith}
use Rattle.utoipa_base.specs.Docs.{own_doc, docs_of}
use Rattle.utoipa_base.specs.Kinds.{schema}
use Rattle.utoipa_base.specs.Refs.{ref_or_doc}
use Rattle.utoipa_base.specs.Values.{docs_schema_count}
use Rattle.utoipa_schema.specs.Docs.{schema_doc}
use Rattle.utoipa_schema.specs.Outcomes.{list_of_own}
use Rattle.utoipa_schema.proofs.Fitting.{own_begun, own_step, own_end, fits_as_well, no_length}
use Rattle.utoipa_schema.proofs.members.all_schemas.Goals as goal

pub loop-place-init : goal.loop-place-init
loop-place-init c = own_begun _ _ (search rules)

pub loop-place-preserved : goal.loop-place-preserved
loop-place-preserved c =
    let f = ref_or_doc schema schema_doc in
    let more = c.next.new.self.rest.items in
    let here : c.loop-place.place-iterator.rest.items ≡ c.in-Some.place ∷ more = search rules in
    let own : f c.in-Some.place ≡ own_doc (schema_doc c.in-T.schema) = ap f c.in-T.is in
    own_step _ _ (map f more) _ _ c.in-T.schema c.loop-place.invariant (ap (map f) here ∙ ap (λ d. d ∷ map f more) own) c.in_ok-push-in-T.ensures.items

pub returns : goal.returns
returns c =
    let f = ref_or_doc schema schema_doc in
    let start : c.into_iter-place-iterator.result.rest.items ≡ c.args.places.items = search rules in
    let rest = c.loop-place.place-iterator.rest in
    let none : length rest.items ≡ 0 = omega (arith, c.in-None.ensures.steps.0) in
    let here : rest.items ≡ [] = no_length rest.items none in
    fits_as_well _ _ _ _ _ _ (own_end _ _ c.loop-place.list c.loop-place.invariant (ap (map f) here)) (ap (λ ps. list_of_own (map f ps)) start) (omega (arith, ap (λ ps. docs_schema_count (docs_of (map f ps))) start))
