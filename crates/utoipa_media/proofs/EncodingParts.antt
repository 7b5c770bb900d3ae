-- The parts of the tables of contents, encodings and headers, read one after the other.
use Rattle.std.proofs.Common.{◌≡◌, ◌+◌, ◌≤◌, ℕ, List, [], ◌∷◌, Bool, true, false, map, not, Option, refl, arith, codes, Ok, Box, Global}
use Rattle.serde_json.specs.Data.{Data}
use Rattle.utoipa_base.specs.Docs.{no_docs}
use Rattle.utoipa_base.specs.Fields.{field}
use Rattle.utoipa_base.specs.Kinds.{Row, named, ref_or, list_of, map_of, media_type_object, encoding_object, header_object, optional, defaulted}
use Rattle.utoipa_base.specs.Reads.{Reads}
use Rattle.utoipa_base.specs.Rows.{rows_values, rows_woven, rows_picked}
use Rattle.utoipa_base.specs.Tables.{row, table}
use Rattle.utoipa_base.specs.Values.{values, values_at}
use Rattle.utoipa_base.specs.Views.{boxed, option_of, list_of_docs, map_of_docs}
use Rattle.utoipa_base.proofs.PartsRead.{PartRead, no_part, row_and_part, part_among, parts_fewer, values_woven}
use Rattle.utoipa_media.specs.Builders.{Encodings, ItemEncodings}
use Rattle.utoipa_media.specs.Docs.{encoding_doc}
use Rattle.utoipa_media.specs.Parts.{encoding_order, headers_order, encoding_rows, encodings_rows, encodings_docs}
use Rattle.utoipa_media.specs.declared.types.Encoding.{Encoding}

-- ---- the rows of members that hold contents, encodings or headers

abbrev pub headers_row : Row
headers_row = row (codes "headers") defaulted (map_of (ref_or (named header_object)))

abbrev pub contents_row : Row
contents_row = row (codes "content") defaulted (map_of (ref_or (named media_type_object)))

-- the rows of an encoding that hold headers or encodings
abbrev pub held_rows : List Row
held_rows = rows_woven headers_order encodings_rows (headers_row ∷ [])

-- at which rows of its table an encoding holds encodings, and the other rows
abbrev pub encodings_order : List Bool
encodings_order = false ∷ false ∷ true ∷ false ∷ false ∷ true ∷ true ∷ false ∷ []

abbrev pub other_rows : List Row
other_rows = rows_picked (map not encodings_order) (table encoding_object)

-- the parts of an encoding have together no more values than it
pub encoding_parts_fewer : (d : Data) → rows_values encoding_rows d + (values_at (codes "headers") d + rows_values encodings_rows d) ≤ values d
encoding_parts_fewer d =
    let all : rows_values encoding_rows d + rows_values held_rows d ≤ values d = parts_fewer encoding_object encoding_order encoding_rows held_rows d refl in
    let held : rows_values held_rows d ≡ rows_values encodings_rows d + (values_at (codes "headers") d + 0) = values_woven headers_order encodings_rows (headers_row ∷ []) d in
    omega (arith, all, held)

-- the members that hold encodings
pub encodings_read : (d : Data) (by_name : Encodings) (first : ItemEncodings) (item : Option (Box Encoding Global)) (old mid later new : ℕ)
    → Reads {A = Encodings} (field (row (codes "encoding") defaulted (map_of (named encoding_object))) d) (map_of_docs encoding_doc) (Ok by_name) old mid (values_at (codes "encoding") d)
    → Reads {A = ItemEncodings} (field (row (codes "prefixEncoding") defaulted (list_of (named encoding_object))) d) (list_of_docs encoding_doc) (Ok first) mid later (values_at (codes "prefixEncoding") d)
    → Reads {A = Option (Box Encoding Global)} (field (row (codes "itemEncoding") optional (named encoding_object)) d) (option_of (boxed encoding_doc)) (Ok item) later new (values_at (codes "itemEncoding") d)
    → PartRead encodings_rows d (encodings_docs by_name first item) old new
encodings_read d by_name first item old mid later new one two three =
    let last = row_and_part (list_of_docs encoding_doc) _ [] d first no_docs mid later later two (no_part d later) in
    let alone = row_and_part (option_of (boxed encoding_doc)) _ [] d item no_docs later new new three (no_part d new) in
    row_and_part (map_of_docs encoding_doc) _ _ d by_name _ old mid new one (part_among (true ∷ []) _ _ d _ _ mid later new last alone)
