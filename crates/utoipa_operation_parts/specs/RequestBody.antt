-- The documents of request bodies.
use Rattle.std.specs.Prelude.{◌≡◌, [], None, option_map}
use Rattle.utoipa_base.specs.Docs.{Doc, table_doc, no_docs, doc}
use Rattle.utoipa_base.specs.Extensions.{extensions_view}
use Rattle.utoipa_base.specs.Flags.{required_doc}
use Rattle.utoipa_base.specs.Kinds.{flag, text, named, ref_or, media_type_object, request_body_object}
use Rattle.utoipa_base.specs.OfKind.{text_of_kind, required_of_kind, option_of_kind, map_of_kind, ref_or_of_kind, extends_of_kind, no_rows, next_row, table_of_kind}
use Rattle.utoipa_base.specs.Refs.{ref_or_doc}
use Rattle.utoipa_base.specs.Shape.{IsOf, value_of}
use Rattle.utoipa_base.specs.Views.{text_of, option_of, map_of_docs}
use Rattle.utoipa_media.specs.Docs.{content_doc}
use Rattle.utoipa_media.specs.OfKind.{content_of_kind}
use Rattle.utoipa_operation_parts.specs.declared.request_body.RequestBody.{RequestBody}
use Rattle.utoipa_operation_parts.specs.declared.request_body.RequestBodyBuilder.{RequestBodyBuilder}

-- the body of a builder so far
abbrev pub built_request_body : RequestBodyBuilder → RequestBody
built_request_body b = b.request_body

-- the body has no content, and nothing else is said of it
abbrev pub IsEmptyRequestBody : RequestBody → Type 0
IsEmptyRequestBody b =
    (b.description ≡ None)
    × (b.content.entries ≡ [])
    × (b.required ≡ None)
    × (b.extensions ≡ None)

-- a request body as a document
abbrev pub request_body_doc : RequestBody → Doc
request_body_doc b =
    table_doc request_body_object
    (doc (map_of_docs (ref_or_doc (named media_type_object) content_doc) b.content)
    (doc (option_of text_of b.description)
    (doc (option_of required_doc b.required) no_docs)))
    (option_map extensions_view b.extensions)

-- why a request body is of its kind
pub request_body_of_kind : (b : RequestBody) → IsOf (request_body_doc b) (value_of (named request_body_object))
request_body_of_kind b =
    table_of_kind _ _
    (next_row (map_of_kind (ref_or_doc (named media_type_object) content_doc) (ref_or (named media_type_object)) (ref_or_of_kind content_doc (named media_type_object) content_of_kind) b.content)
    (next_row (option_of_kind text_of text text_of_kind b.description)
    (next_row (option_of_kind required_doc flag required_of_kind b.required) no_rows)))
    (extends_of_kind (option_map extensions_view b.extensions))
