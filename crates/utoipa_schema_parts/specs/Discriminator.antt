-- The mappings of discriminators, and their documents.
use Rattle.std.specs.Prelude.{List, [], ◌∷◌, option_map, String, string_cmp}
use Rattle.std.specs.BTreeMap.{insert_entry}
use Rattle.std.specs.declared.alloc.Global.{Global}
use Rattle.utoipa_base.specs.Kinds.{named, discriminator_object, text}
use Rattle.utoipa_base.specs.Docs.{Doc, table_doc, no_docs, doc}
use Rattle.utoipa_base.specs.Extensions.{extensions_view}
use Rattle.utoipa_base.specs.OfKind.{text_of_kind, map_of_kind, extends_of_kind, no_rows, next_row, table_of_kind}
use Rattle.utoipa_base.specs.Shape.{IsOf, value_of}
use Rattle.utoipa_base.specs.Views.{text_of, map_of_docs}
use Rattle.utoipa_schema_parts.specs.declared.discriminator.Discriminator.{Discriminator}

-- values of a property, each with its schema
abbrev pub Mapping : Type 0
Mapping = List (String Global × String Global)

-- the mapping, with each of some pairs put in turn, so that the later of two equal values stays
abbrev pub put_mapping : Mapping → Mapping → Mapping
put_mapping [] es = es
put_mapping (p ∷ ps) es = put_mapping ps (insert_entry string_cmp es p.0 p.1)

-- a discriminator as a document
abbrev pub discriminator_doc : Discriminator → Doc
discriminator_doc d =
    table_doc discriminator_object
    (doc (map_of_docs text_of d.mapping)
    (doc (text_of d.property_name) no_docs))
    (option_map extensions_view d.extensions)

-- a discriminator is an object of its type
pub discriminator_of_kind : (d : Discriminator) → IsOf (discriminator_doc d) (value_of (named discriminator_object))
discriminator_of_kind d =
    table_of_kind _ _
    (next_row (map_of_kind text_of text text_of_kind d.mapping)
    (next_row (text_of_kind d.property_name) no_rows))
    (extends_of_kind (option_map extensions_view d.extensions))
