use Rattle.std.proofs.Common.{◌≡◌, refl, codes, string_bytes, rules}
use Rattle.serde_json.specs.View.{view}
use Rattle.utoipa_schema.specs.Places.{data_of}
use Rattle.utoipa_schema.proofs.Noting.{passed}
use Rattle.utoipa_schema.proofs.inner_members.InnerMembers.note.Goals as goal

pub returns-else-str_eq-9 : goal.returns-else-str_eq-9
returns-else-str_eq-9 c =
    let m = data_of c.args.self.now in
    let name = string_bytes c.args.name.now in
    let d = view c.args.member.now in
    let one_of : name ≡ codes "oneOf" → ⊥ = search rules in
    let all_of : name ≡ codes "allOf" → ⊥ = search rules in
    let any_of : name ≡ codes "anyOf" → ⊥ = search rules in
    let items : name ≡ codes "items" → ⊥ = search rules in
    let prefix_items : name ≡ codes "prefixItems" → ⊥ = search rules in
    let properties : name ≡ codes "properties" → ⊥ = search rules in
    let additional_properties : name ≡ codes "additionalProperties" → ⊥ = search rules in
    let property_names : name ≡ codes "propertyNames" → ⊥ = search rules in
    let content_schema : name ≡ codes "contentSchema" → ⊥ = search rules in
    rw (
      passed (codes "oneOf") name d m.one_of one_of,
      passed (codes "allOf") name d m.all_of all_of,
      passed (codes "anyOf") name d m.any_of any_of,
      passed (codes "items") name d m.items items,
      passed (codes "prefixItems") name d m.prefix_items prefix_items,
      passed (codes "properties") name d m.properties properties,
      passed (codes "additionalProperties") name d m.additional_properties additional_properties,
      passed (codes "propertyNames") name d m.property_names property_names,
      passed (codes "contentSchema") name d m.content_schema content_schema,
    ) refl
