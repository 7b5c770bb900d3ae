-- For users of the model, and for whoever checks it: which field of a type stands in its document under which name.
-- The page `Members` of utoipa_base says how these theorems are read and cited.
-- A type that holds itself has its fields in `out-NAME x`, as `out-Header h`.
use Rattle.std.proofs.Common.{ap}
use Rattle.std.specs.Prelude.{◌≡◌, refl, [], ◌∷◌}
use Rattle.utoipa_base.specs.Docs.{flag_doc}
use Rattle.utoipa_base.specs.Flags.{deprecated_doc}
use Rattle.utoipa_base.specs.Kinds.{named, schema, example_object, header_object, media_type_object}
use Rattle.utoipa_base.specs.Members.{member, members_in}
use Rattle.utoipa_base.specs.Refs.{ref_or_doc}
use Rattle.utoipa_base.specs.Views.{boxed, text_of, tree_of, option_of, list_of_docs, map_of_docs}
use Rattle.utoipa_leaf.specs.Example.{example_doc}
use Rattle.utoipa_leaf.specs.Path.{parameter_style_doc}
use Rattle.utoipa_leaf.specs.Server.{server_doc}
use Rattle.utoipa_schema.specs.Docs.{schema_doc}
use Rattle.utoipa_media.specs.Docs.{content_doc, encoding_doc, header_doc}
use Rattle.utoipa_media.specs.Folds.{encoding_is}
use Rattle.utoipa_media.specs.Link.{link_doc}
use Rattle.utoipa_media.specs.declared.link.Link.{Link}
use Rattle.utoipa_media.specs.declared.types.Content.{Content, out-Content}
use Rattle.utoipa_media.specs.declared.types.Encoding.{Encoding, out-Encoding}
use Rattle.utoipa_media.specs.declared.types.Header.{Header, out-Header}

-- Media Type Object: section 4.8.14
pub content_members : (c : Content) → members_in (content_doc c) ≡
    member "description" (option_of text_of (out-Content c).description)
    ∷ member "encoding" (map_of_docs encoding_doc (out-Content c).encoding)
    ∷ member "example" (option_of tree_of (out-Content c).example)
    ∷ member "examples" (map_of_docs (ref_or_doc (named example_object) example_doc) (out-Content c).examples)
    ∷ member "itemEncoding" (option_of (boxed encoding_doc) (out-Content c).item_encoding)
    ∷ member "itemSchema" (option_of (ref_or_doc schema schema_doc) (out-Content c).item_schema)
    ∷ member "prefixEncoding" (list_of_docs encoding_doc (out-Content c).prefix_encoding)
    ∷ member "schema" (option_of (ref_or_doc schema schema_doc) (out-Content c).schema) ∷ []
content_members c = refl

-- Encoding Object: section 4.8.15
pub encoding_members : (e : Encoding) → members_in (encoding_doc e) ≡
    member "allowReserved" (option_of flag_doc (out-Encoding e).allow_reserved)
    ∷ member "contentType" (option_of text_of (out-Encoding e).content_type)
    ∷ member "encoding" (map_of_docs encoding_doc (out-Encoding e).encoding)
    ∷ member "explode" (option_of flag_doc (out-Encoding e).explode)
    ∷ member "headers" (map_of_docs (ref_or_doc (named header_object) header_doc) (out-Encoding e).headers)
    ∷ member "itemEncoding" (option_of (boxed encoding_doc) (out-Encoding e).item_encoding)
    ∷ member "prefixEncoding" (list_of_docs encoding_doc (out-Encoding e).prefix_encoding)
    ∷ member "style" (option_of parameter_style_doc (out-Encoding e).style) ∷ []
encoding_members e = ap members_in (encoding_is e)

-- Header Object: section 4.8.21
pub header_members : (h : Header) → members_in (header_doc h) ≡
    member "content" (map_of_docs (ref_or_doc (named media_type_object) content_doc) (out-Header h).content)
    ∷ member "deprecated" (option_of deprecated_doc (out-Header h).deprecated)
    ∷ member "description" (option_of text_of (out-Header h).description)
    ∷ member "example" (option_of tree_of (out-Header h).example)
    ∷ member "examples" (map_of_docs (ref_or_doc (named example_object) example_doc) (out-Header h).examples)
    ∷ member "explode" (option_of flag_doc (out-Header h).explode)
    ∷ member "schema" (option_of (ref_or_doc schema schema_doc) (out-Header h).schema)
    ∷ member "style" (option_of parameter_style_doc (out-Header h).style) ∷ []
header_members h = refl

-- Link Object: section 4.8.20
pub link_members : (l : Link) → members_in (link_doc l) ≡
    member "description" (text_of l.description)
    ∷ member "operationId" (text_of l.operation_id)
    ∷ member "operationRef" (text_of l.operation_ref)
    ∷ member "parameters" (map_of_docs tree_of l.parameters)
    ∷ member "requestBody" (option_of tree_of l.request_body)
    ∷ member "server" (option_of server_doc l.server) ∷ []
link_members l = refl
