-- The documents of responses.
use Rattle.std.specs.Prelude.{◌≡◌, [], None, option_map, String, string_bytes}
use Rattle.std.specs.BTreeMap.{BTreeMap}
use Rattle.std.specs.declared.alloc.Global.{Global}
use Rattle.indexmap.specs.IndexMap.{IndexMap}
use Rattle.utoipa_base.specs.Docs.{Doc, table_doc, no_docs, doc}
use Rattle.utoipa_base.specs.Extensions.{extensions_view}
use Rattle.utoipa_base.specs.Kinds.{text, named, ref_or, media_type_object, header_object, link_object, response_object}
use Rattle.utoipa_base.specs.OfKind.{text_of_kind, option_of_kind, map_of_kind, ordered_map_of_kind, ref_or_of_kind, extends_of_kind, no_rows, next_row, table_of_kind}
use Rattle.utoipa_base.specs.Refs.{ref_or_doc}
use Rattle.utoipa_base.specs.Shape.{IsOf, value_of}
use Rattle.utoipa_base.specs.Views.{text_of, option_of, map_of_docs, ordered_map_of_docs}
use Rattle.utoipa_base.specs.declared.name_hasher.NameHasher.{NameHasher}
use Rattle.utoipa_base.specs.declared.refs.RefOr.{RefOr}
use Rattle.utoipa_base.specs.declared.refs.RefOr.TheVariants as places
use Rattle.utoipa_media.specs.Docs.{content_doc, header_doc}
use Rattle.utoipa_media.specs.Link.{link_doc, link_of_kind}
use Rattle.utoipa_media.specs.OfKind.{content_of_kind, header_of_kind}
use Rattle.utoipa_media.specs.declared.link.Link.{Link}
use Rattle.utoipa_media.specs.declared.types.Content.{Content}
use Rattle.utoipa_operation_parts.specs.declared.response.Response.{Response}
use Rattle.utoipa_operation_parts.specs.declared.response.ResponseBuilder.{ResponseBuilder}

-- contents and references to such by their media types, in the order in which they were put
abbrev pub OrderedContents : Type 0
OrderedContents = IndexMap (String Global) (RefOr Content) NameHasher

-- links and references to such, by their names
abbrev pub Links : Type 0
Links = BTreeMap (String Global) (RefOr Link)

-- the response of a builder so far
abbrev pub built_response : ResponseBuilder → Response
built_response b = b.response

-- a response, where a reference could stand
abbrev pub response_place : Response → RefOr Response
response_place r = places.T r

-- nothing but a description is said of the response
abbrev pub SaysNoMore : Response → Type 0
SaysNoMore r =
    (r.summary ≡ None)
    × (r.headers.entries ≡ [])
    × (r.content.entries ≡ [])
    × (r.links.entries ≡ [])
    × (r.extensions ≡ None)

-- the response is of this description, and nothing else is said of it
abbrev pub IsResponseOf : String Global → Response → Type 0
IsResponseOf description r = (r.description ≡ description) × SaysNoMore r

-- nothing is said of the response
abbrev pub IsEmptyResponse : Response → Type 0
IsEmptyResponse r = (string_bytes r.description ≡ []) × SaysNoMore r

-- a response as a document
abbrev pub response_doc : Response → Doc
response_doc r =
    table_doc response_object
    (doc (ordered_map_of_docs (ref_or_doc (named media_type_object) content_doc) r.content)
    (doc (text_of r.description)
    (doc (map_of_docs (ref_or_doc (named header_object) header_doc) r.headers)
    (doc (map_of_docs (ref_or_doc (named link_object) link_doc) r.links)
    (doc (option_of text_of r.summary) no_docs)))))
    (option_map extensions_view r.extensions)

-- why a response is of its kind
pub response_of_kind : (r : Response) → IsOf (response_doc r) (value_of (named response_object))
response_of_kind r =
    table_of_kind _ _
    (next_row (ordered_map_of_kind (ref_or_doc (named media_type_object) content_doc) (ref_or (named media_type_object)) (ref_or_of_kind content_doc (named media_type_object) content_of_kind) r.content)
    (next_row (text_of_kind r.description)
    (next_row (map_of_kind (ref_or_doc (named header_object) header_doc) (ref_or (named header_object)) (ref_or_of_kind header_doc (named header_object) header_of_kind) r.headers)
    (next_row (map_of_kind (ref_or_doc (named link_object) link_doc) (ref_or (named link_object)) (ref_or_of_kind link_doc (named link_object) link_of_kind) r.links)
    (next_row (option_of_kind text_of text text_of_kind r.summary) no_rows)))))
    (extends_of_kind (option_map extensions_view r.extensions))
