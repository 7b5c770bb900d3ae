-- Contents, encodings and headers as documents.
--
-- They hold each other: an encoding holds headers and encodings, a header contents, a content encodings. So the documents of
-- encodings are a fold: a layer for each type gives the document of a value by those of the values in it, and the fold applies the
-- layers from the innermost value outwards. The documents of headers and contents are a layer over those of encodings.
use Rattle.std.specs.Prelude.{option_map}
use Rattle.utoipa_base.specs.Docs.{Doc, flag_doc, table_doc, no_docs, doc}
use Rattle.utoipa_base.specs.Extensions.{extensions_view}
use Rattle.utoipa_base.specs.Flags.{deprecated_doc}
use Rattle.utoipa_base.specs.Kinds.{named, schema, example_object, media_type_object, encoding_object, header_object}
use Rattle.utoipa_base.specs.Refs.{ref_or_doc}
use Rattle.utoipa_base.specs.Views.{boxed, text_of, tree_of, option_of, list_of_docs, map_of_docs}
use Rattle.utoipa_leaf.specs.Example.{example_doc}
use Rattle.utoipa_leaf.specs.Path.{parameter_style_doc}
use Rattle.utoipa_schema.specs.Docs.{schema_doc}
use Rattle.utoipa_media.specs.declared.types.Content.{Content, Content-F, out-Content}
use Rattle.utoipa_media.specs.declared.types.Encoding.{Encoding, Encoding-F, fold-Encoding}
use Rattle.utoipa_media.specs.declared.types.Header.{Header, Header-F, out-Header}

-- ---- a layer of each type, by the documents of the values in it

-- the table of a content, by the documents of its members that hold encodings
abbrev pub content_table : {C E H : Type 0} → Doc → Doc → Doc → Content-F C E H → Doc
content_table encoding prefix_encoding item_encoding c =
    table_doc media_type_object
    (doc (option_of text_of c.description)
    (doc encoding
    (doc (option_of tree_of c.example)
    (doc (map_of_docs (ref_or_doc (named example_object) example_doc) c.examples)
    (doc item_encoding
    (doc (option_of (ref_or_doc schema schema_doc) c.item_schema)
    (doc prefix_encoding
    (doc (option_of (ref_or_doc schema schema_doc) c.schema) no_docs))))))))
    (option_map extensions_view c.extensions)

abbrev pub content_layer : {C E H : Type 0} → (E → Doc) → Content-F C E H → Doc
content_layer f c = content_table (map_of_docs f c.encoding) (list_of_docs f c.prefix_encoding) (option_of (boxed f) c.item_encoding) c

-- the table of an encoding, by the documents of its members that hold headers or encodings
abbrev pub encoding_table : {C E H : Type 0} → Doc → Doc → Doc → Doc → Encoding-F C E H → Doc
encoding_table headers encoding prefix_encoding item_encoding e =
    table_doc encoding_object
    (doc (option_of flag_doc e.allow_reserved)
    (doc (option_of text_of e.content_type)
    (doc encoding
    (doc (option_of flag_doc e.explode)
    (doc headers
    (doc item_encoding
    (doc prefix_encoding
    (doc (option_of parameter_style_doc e.style) no_docs))))))))
    (option_map extensions_view e.extensions)

abbrev pub encoding_layer : {C E H : Type 0} → (H → Doc) → (E → Doc) → Encoding-F C E H → Doc
encoding_layer h f e =
    encoding_table (map_of_docs (ref_or_doc (named header_object) h) e.headers) (map_of_docs f e.encoding) (list_of_docs f e.prefix_encoding) (option_of (boxed f) e.item_encoding) e

-- the table of a header, by the document of its contents
abbrev pub header_table : {C E H : Type 0} → Doc → Header-F C E H → Doc
header_table content h =
    table_doc header_object
    (doc content
    (doc (option_of deprecated_doc h.deprecated)
    (doc (option_of text_of h.description)
    (doc (option_of tree_of h.example)
    (doc (map_of_docs (ref_or_doc (named example_object) example_doc) h.examples)
    (doc (option_of flag_doc h.explode)
    (doc (option_of (ref_or_doc schema schema_doc) h.schema)
    (doc (option_of parameter_style_doc h.style) no_docs))))))))
    (option_map extensions_view h.extensions)

abbrev pub header_layer : {C E H : Type 0} → (C → Doc) → Header-F C E H → Doc
header_layer f h = header_table (map_of_docs (ref_or_doc (named media_type_object) f) h.content) h

-- ---- the documents

abbrev pub as_is : Doc → Doc
as_is d = d

abbrev pub encoding_doc : Encoding → Doc
encoding_doc = fold-Encoding Doc Doc Doc (content_layer as_is) (encoding_layer as_is as_is) (header_layer as_is)

abbrev pub content_doc : Content → Doc
content_doc c = content_layer encoding_doc (out-Content c)

abbrev pub header_doc : Header → Doc
header_doc h = header_layer content_doc (out-Header h)
