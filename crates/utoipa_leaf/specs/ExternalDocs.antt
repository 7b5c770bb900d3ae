-- The documents of external documentation.
use Rattle.std.specs.Prelude.{None, option_map, String}
use Rattle.std.specs.declared.alloc.Global.{Global}
use Rattle.utoipa_base.specs.Kinds.{named, external_docs_object, text}
use Rattle.utoipa_base.specs.Docs.{Doc, table_doc, no_docs, doc}
use Rattle.utoipa_base.specs.Extensions.{extensions_view}
use Rattle.utoipa_base.specs.Views.{text_of, option_of}
use Rattle.utoipa_leaf.specs.declared.external_docs.ExternalDocs.{ExternalDocs}
use Rattle.utoipa_leaf.specs.declared.external_docs.ExternalDocsBuilder.{ExternalDocsBuilder}
use Rattle.utoipa_base.specs.Shape.{IsOf, value_of}
use Rattle.utoipa_base.specs.OfKind.{text_of_kind, option_of_kind, extends_of_kind, no_rows, next_row, table_of_kind}

-- external documentation at a URL, with nothing else
abbrev pub empty_external_docs : String Global → ExternalDocs
empty_external_docs url = record { url = url; description = None; extensions = None }

-- the external documentation of a builder so far
abbrev pub built_external_docs : ExternalDocsBuilder → ExternalDocs
built_external_docs b = b.docs

-- external documentation as a document
abbrev pub external_docs_doc : ExternalDocs → Doc
external_docs_doc e =
    table_doc external_docs_object
    (doc (option_of text_of e.description)
    (doc (text_of e.url) no_docs))
    (option_map extensions_view e.extensions)

-- each is a document of its table
pub external_docs_of_kind : (e : ExternalDocs) → IsOf (external_docs_doc e) (value_of (named external_docs_object))
external_docs_of_kind e =
    table_of_kind _ _
    (next_row (option_of_kind text_of text text_of_kind e.description)
    (next_row (text_of_kind e.url) no_rows))
    (extends_of_kind (option_map extensions_view e.extensions))
