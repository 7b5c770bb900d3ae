-- For users of the model, and for whoever checks it: which field of a type stands in its document under which name.
-- The page `Members` of utoipa_base says how these theorems are read and cited.
use Rattle.std.specs.Prelude.{◌≡◌, refl, [], ◌∷◌}
use Rattle.utoipa_base.specs.Docs.{flag_doc}
use Rattle.utoipa_base.specs.Flags.{deprecated_doc, required_doc}
use Rattle.utoipa_base.specs.Kinds.{named, schema, header_object, media_type_object, link_object}
use Rattle.utoipa_base.specs.Members.{member, members_in}
use Rattle.utoipa_base.specs.Refs.{ref_or_doc}
use Rattle.utoipa_base.specs.Views.{text_of, tree_of, option_of, map_of_docs, ordered_map_of_docs}
use Rattle.utoipa_leaf.specs.Path.{parameter_in_doc, parameter_style_doc}
use Rattle.utoipa_media.specs.Docs.{content_doc, header_doc}
use Rattle.utoipa_media.specs.Link.{link_doc}
use Rattle.utoipa_schema.specs.Docs.{schema_doc}
use Rattle.utoipa_operation_parts.specs.Parameter.{parameter_doc}
use Rattle.utoipa_operation_parts.specs.RequestBody.{request_body_doc}
use Rattle.utoipa_operation_parts.specs.Response.{response_doc}
use Rattle.utoipa_operation_parts.specs.declared.parameter.Parameter.{Parameter}
use Rattle.utoipa_operation_parts.specs.declared.request_body.RequestBody.{RequestBody}
use Rattle.utoipa_operation_parts.specs.declared.response.Response.{Response}

-- Parameter Object: section 4.8.12
pub parameter_members : (p : Parameter) → members_in (parameter_doc p) ≡
    member "allowReserved" (option_of flag_doc p.allow_reserved)
    ∷ member "content" (map_of_docs (ref_or_doc (named media_type_object) content_doc) p.content)
    ∷ member "deprecated" (option_of deprecated_doc p.deprecated)
    ∷ member "description" (option_of text_of p.description)
    ∷ member "example" (option_of tree_of p.example)
    ∷ member "explode" (option_of flag_doc p.explode)
    ∷ member "in" (parameter_in_doc p.parameter_in)
    ∷ member "name" (text_of p.name)
    ∷ member "required" (required_doc p.required)
    ∷ member "schema" (option_of (ref_or_doc schema schema_doc) p.schema)
    ∷ member "style" (option_of parameter_style_doc p.style) ∷ []
parameter_members p = refl

-- Request Body Object: section 4.8.13
pub request_body_members : (b : RequestBody) → members_in (request_body_doc b) ≡
    member "content" (map_of_docs (ref_or_doc (named media_type_object) content_doc) b.content)
    ∷ member "description" (option_of text_of b.description)
    ∷ member "required" (option_of required_doc b.required) ∷ []
request_body_members b = refl

-- Response Object: section 4.8.17
pub response_members : (r : Response) → members_in (response_doc r) ≡
    member "content" (ordered_map_of_docs (ref_or_doc (named media_type_object) content_doc) r.content)
    ∷ member "description" (text_of r.description)
    ∷ member "headers" (map_of_docs (ref_or_doc (named header_object) header_doc) r.headers)
    ∷ member "links" (map_of_docs (ref_or_doc (named link_object) link_doc) r.links)
    ∷ member "summary" (option_of text_of r.summary) ∷ []
response_members r = refl
