-- The documents of tags.
use Rattle.std.specs.Prelude.{None, option_map, String}
use Rattle.std.specs.declared.alloc.Global.{Global}
use Rattle.utoipa_base.specs.Kinds.{named, tag_object, external_docs_object, text}
use Rattle.utoipa_base.specs.Docs.{Doc, table_doc, no_docs, doc}
use Rattle.utoipa_base.specs.Extensions.{extensions_view}
use Rattle.utoipa_base.specs.Views.{text_of, option_of}
use Rattle.utoipa_leaf.specs.declared.tag.Tag.{Tag}
use Rattle.utoipa_leaf.specs.declared.tag.TagBuilder.{TagBuilder}
use Rattle.utoipa_leaf.specs.ExternalDocs.{external_docs_doc, external_docs_of_kind}
use Rattle.utoipa_base.specs.Shape.{IsOf, value_of}
use Rattle.utoipa_base.specs.OfKind.{text_of_kind, option_of_kind, extends_of_kind, no_rows, next_row, table_of_kind}

-- a tag of a name, with nothing else
abbrev pub empty_tag : String Global → Tag
empty_tag name = record { name = name; summary = None; description = None; parent = None; kind = None; external_docs = None; extensions = None }

-- the tag of a builder so far
abbrev pub built_tag : TagBuilder → Tag
built_tag b = b.tag

-- a tag as a document
abbrev pub tag_doc : Tag → Doc
tag_doc t =
    table_doc tag_object
    (doc (option_of text_of t.description)
    (doc (option_of external_docs_doc t.external_docs)
    (doc (option_of text_of t.kind)
    (doc (text_of t.name)
    (doc (option_of text_of t.parent)
    (doc (option_of text_of t.summary) no_docs))))))
    (option_map extensions_view t.extensions)

-- each is a document of its table
pub tag_of_kind : (t : Tag) → IsOf (tag_doc t) (value_of (named tag_object))
tag_of_kind t =
    table_of_kind _ _
    (next_row (option_of_kind text_of text text_of_kind t.description)
    (next_row (option_of_kind external_docs_doc (named external_docs_object) external_docs_of_kind t.external_docs)
    (next_row (option_of_kind text_of text text_of_kind t.kind)
    (next_row (text_of_kind t.name)
    (next_row (option_of_kind text_of text text_of_kind t.parent)
    (next_row (option_of_kind text_of text text_of_kind t.summary) no_rows))))))
    (extends_of_kind (option_map extensions_view t.extensions))
