-- The parts of the tables of contents, encodings and headers: their rows, and the documents of a value's fields by the rows.
use Rattle.std.specs.Prelude.{List, [], ◌∷◌, Bool, true, false, map, not, Option, Vec, Box, String}
use Rattle.std.specs.BTreeMap.{BTreeMap}
use Rattle.std.specs.declared.alloc.Global.{Global}
use Rattle.utoipa_base.specs.Docs.{Docs, no_docs, doc}
use Rattle.utoipa_base.specs.Kinds.{Row, media_type_object, encoding_object}
use Rattle.utoipa_base.specs.Rows.{rows_picked}
use Rattle.utoipa_base.specs.Tables.{table}
use Rattle.utoipa_base.specs.Views.{boxed, option_of, list_of_docs, map_of_docs}
use Rattle.utoipa_media.specs.Docs.{encoding_doc}
use Rattle.utoipa_media.specs.declared.types.Encoding.{Encoding}

-- ---- at which rows of its table a value holds no contents, encodings or headers

-- of a content: `description`, `example`, `examples`, `itemSchema` and `schema`
abbrev pub content_order : List Bool
content_order = true ∷ false ∷ true ∷ true ∷ false ∷ true ∷ false ∷ true ∷ []

-- of an encoding: `allowReserved`, `contentType`, `explode` and `style`
abbrev pub encoding_order : List Bool
encoding_order = true ∷ true ∷ false ∷ true ∷ false ∷ false ∷ false ∷ true ∷ []

-- of a header: all after the first
abbrev pub header_order : List Bool
header_order = false ∷ []

-- ---- those rows of a content

abbrev pub content_rows : List Row
content_rows = rows_picked content_order (table media_type_object)

-- ---- the rows that hold encodings, which contents and encodings share

abbrev pub encodings_rows : List Row
encodings_rows = rows_picked (map not content_order) (table media_type_object)

abbrev pub encodings_docs : BTreeMap (String Global) Encoding → Vec Encoding Global → Option (Box Encoding Global) → Docs
encodings_docs by_name prefix item =
    doc (map_of_docs encoding_doc by_name)
    (doc (option_of (boxed encoding_doc) item)
    (doc (list_of_docs encoding_doc prefix) no_docs))

-- where the headers of an encoding stand among its encodings
abbrev pub headers_order : List Bool
headers_order = true ∷ false ∷ []

-- ---- those rows of an encoding that hold neither

abbrev pub encoding_rows : List Row
encoding_rows = rows_picked encoding_order (table encoding_object)
