use Rattle.std.proofs.Common.{◌∙◌, Ok, refl, ap, subst}
use Rattle.serde_json.specs.Data.{object}
use Rattle.serde_json.specs.View.{members_view}
use Rattle.utoipa_base.specs.Docs.{doc, no_docs}
use Rattle.utoipa_base.specs.Kinds.{named, schema, components_object}
use Rattle.utoipa_base.specs.Reading.{read}
use Rattle.utoipa_base.specs.Reads.{Reads}
use Rattle.utoipa_base.specs.Values.{values}
use Rattle.utoipa_large_objects.proofs.MembersRead.{read_with_others}
use Rattle.utoipa_large_objects.specs.Members.{with_fields}
use Rattle.utoipa_schema.specs.Docs.{schema_doc}
use Rattle.utoipa_components.specs.Components.{components_doc, places_doc, schemas_alone}
use Rattle.utoipa_components.proofs.components.ComponentsTree.from_tokens.Goals as goal

pub returns-clause-read : goal.returns-clause-read
returns-clause-read c =
    let left = object (members_view c.in_ok-large.others.entries) in
    let both = c.in_ok-large-2.ensures.ok in
    let rest : Reads (read (named components_object) left) components_doc (Ok c.in_ok-large-2.rest) c.members_from_tokens.new.readings c.of_members.new.readings (values left) =
    subst (λ r. Reads (read (named components_object) left) components_doc r c.members_from_tokens.new.readings c.of_members.new.readings (values left)) both.1 c.of_members.ensures in
    let same = c.with_schemas.ensures ∙ ap (λ l. with_fields schemas_alone (doc (places_doc schema schema_doc l.0.0) no_docs) (components_doc c.in_ok-large-2.rest)) both.0 in
    read_with_others components_object schemas_alone _ _ components_doc components_doc _ c.in_ok-large.large c.in_ok-large-2.rest c.with_schemas.result _ _ _ _ _ _ refl
    (refl, (refl, (refl, (refl, (refl, (refl, (refl, (refl, (refl, (refl, (refl, tt))))))))))) c.in_ok-large.ensures.read rest same
