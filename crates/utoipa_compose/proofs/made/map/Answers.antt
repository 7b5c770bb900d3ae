use Rattle.std.proofs.Common.{◌∙◌, Some, ap, sym}
use Rattle.utoipa_schema.specs.Builders.{one_object}
use Rattle.utoipa_schema.specs.Docs.{schema_doc, additional_properties_doc}
use Rattle.utoipa_compose.specs.Compositions.{map_by, own_schema, place_doc}
use Rattle.utoipa_compose.specs.Made.{mapped}
use Rattle.utoipa_compose.proofs.MadeDocuments.{map_made}
use Rattle.utoipa_compose.proofs.made.map.Goals as goal

pub returns-clause-ok : goal.returns-clause-ok
returns-clause-ok c =
    let boxes = c.in_ok-keys.ensures in
    let keys = c.in_ok-keys.keys in
    let values = c.in_ok-keys.values in
    (λ i. map_by (own_schema (Some (place_doc (boxes.keys i)))) (Some (place_doc c.args.values))) ∙
    (λ i. Some (mapped (schema_doc keys.value) (additional_properties_doc schema_doc (sym boxes.values i)))) ∙
    ap Some (sym (map_made one_object c.new-object.result c.new-object.ensures (Some values) (Some keys)))
