-- For users of the model, and for whoever checks it: which field of a type stands in its document under which name.
-- The page `Members` of utoipa_base says how these theorems are read and cited.
use Rattle.std.specs.Prelude.{◌≡◌, refl, [], ◌∷◌}
use Rattle.utoipa_base.specs.Kinds.{named, schema, example_object, header_object, media_type_object, parameter_object, request_body_object, link_object, response_object, security_scheme}
use Rattle.utoipa_base.specs.Members.{member, members_in}
use Rattle.utoipa_base.specs.Tables.{callback}
use Rattle.utoipa_base.specs.Views.{map_of_docs}
use Rattle.utoipa_leaf.specs.Example.{example_doc}
use Rattle.utoipa_media.specs.Docs.{content_doc, header_doc}
use Rattle.utoipa_media.specs.Link.{link_doc}
use Rattle.utoipa_operation_parts.specs.Parameter.{parameter_doc}
use Rattle.utoipa_operation_parts.specs.RequestBody.{request_body_doc}
use Rattle.utoipa_operation_parts.specs.Response.{response_doc}
use Rattle.utoipa_path.specs.Docs.{callback_doc, path_item_doc}
use Rattle.utoipa_schema.specs.Docs.{schema_doc}
use Rattle.utoipa_security.specs.Schemes.{scheme_doc}
use Rattle.utoipa_components.specs.Components.{places_doc, components_doc}
use Rattle.utoipa_components.specs.declared.components.Components.{Components}

-- Components Object: section 4.8.7
pub components_members : (c : Components) → members_in (components_doc c) ≡
    member "callbacks" (places_doc callback callback_doc c.callbacks)
    ∷ member "examples" (places_doc (named example_object) example_doc c.examples)
    ∷ member "headers" (places_doc (named header_object) header_doc c.headers)
    ∷ member "links" (places_doc (named link_object) link_doc c.links)
    ∷ member "mediaTypes" (places_doc (named media_type_object) content_doc c.media_types)
    ∷ member "parameters" (places_doc (named parameter_object) parameter_doc c.parameters)
    ∷ member "pathItems" (map_of_docs path_item_doc c.path_items)
    ∷ member "requestBodies" (places_doc (named request_body_object) request_body_doc c.request_bodies)
    ∷ member "responses" (places_doc (named response_object) response_doc c.responses)
    ∷ member "schemas" (places_doc schema schema_doc c.schemas)
    ∷ member "securitySchemes" (places_doc security_scheme scheme_doc c.security_schemes) ∷ []
components_members c = refl
