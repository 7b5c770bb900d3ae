-- The documents of XML objects.
use Rattle.std.specs.Prelude.{None}
use Rattle.utoipa_base.specs.Kinds.{named, xml_object, text, flag}
use Rattle.utoipa_base.specs.Docs.{Doc, table_doc, no_docs, doc, flag_doc}
use Rattle.utoipa_base.specs.Views.{text_of, option_of}
use Rattle.utoipa_base.specs.Shape.{IsOf, value_of}
use Rattle.utoipa_base.specs.OfKind.{text_of_kind, flag_of_kind, option_of_kind, no_rows, next_row, table_of_kind}
use Rattle.utoipa_schema_parts.specs.declared.xml.Xml.{Xml}
use Rattle.utoipa_schema_parts.specs.declared.xml.XmlBuilder.{XmlBuilder}

-- an XML object that says nothing
abbrev pub empty_xml : Xml
empty_xml = record { name = None; namespace = None; prefix = None; node_type = None; attribute = None; wrapped = None }

-- the XML object of a builder so far
abbrev pub built_xml : XmlBuilder → Xml
built_xml b = b.xml

-- an XML object as a document
abbrev pub xml_doc : Xml → Doc
xml_doc x =
    table_doc xml_object
    (doc (option_of flag_doc x.attribute)
    (doc (option_of text_of x.name)
    (doc (option_of text_of x.namespace)
    (doc (option_of text_of x.node_type)
    (doc (option_of text_of x.prefix)
    (doc (option_of flag_doc x.wrapped) no_docs))))))
    None

-- why an XML object is of its kind
pub xml_of_kind : (x : Xml) → IsOf (xml_doc x) (value_of (named xml_object))
xml_of_kind x =
    table_of_kind _ _
    (next_row (option_of_kind flag_doc flag flag_of_kind x.attribute)
    (next_row (option_of_kind text_of text text_of_kind x.name)
    (next_row (option_of_kind text_of text text_of_kind x.namespace)
    (next_row (option_of_kind text_of text text_of_kind x.node_type)
    (next_row (option_of_kind text_of text text_of_kind x.prefix)
    (next_row (option_of_kind flag_doc flag flag_of_kind x.wrapped) no_rows))))))
    tt
