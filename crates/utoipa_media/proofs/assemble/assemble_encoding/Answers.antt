use Rattle.std.proofs.Common.{[], ◌∷◌, ℕ, Box, Option, Global, Ok, refl, sym, arith, codes}
use Rattle.serde_json.specs.Data.{Data}
use Rattle.serde_json.specs.View.{view}
use Rattle.utoipa_base.specs.Docs.{Doc, Docs, doc, no_docs, docs_woven}
use Rattle.utoipa_base.specs.Fields.{field}
use Rattle.utoipa_base.specs.Kinds.{named, encoding_object, header_object}
use Rattle.utoipa_base.specs.Reads.{Reads}
use Rattle.utoipa_base.specs.Refs.{ref_or_doc}
use Rattle.utoipa_base.specs.Values.{values_at}
use Rattle.utoipa_base.specs.Views.{map_of_docs}
use Rattle.utoipa_base.proofs.PartsRead.{PartRead, no_part, part_among, row_and_part}
use Rattle.utoipa_base.proofs.RowLists.{passes_reads, reads_as}
use Rattle.utoipa_media.specs.Builders.{Encodings, Headers, ItemEncodings}
use Rattle.utoipa_media.specs.Docs.{encoding_doc, header_doc}
use Rattle.utoipa_media.specs.Parts.{encoding_order, headers_order, encodings_docs, encodings_rows}
use Rattle.utoipa_media.specs.declared.types.Encoding.{Encoding}
use Rattle.utoipa_media.proofs.EncodingParts.{headers_row, held_rows}
use Rattle.utoipa_media.proofs.assemble.assemble_encoding.Goals as goal

-- what is kept beside the other rows: the headers and the encodings
abbrev Kept : Type 0
Kept = Headers × (Encodings × ItemEncodings × Option (Box Encoding Global))

abbrev headers_doc : Headers → Doc
headers_doc = map_of_docs (ref_or_doc (named header_object) header_doc)

abbrev held_docs : Kept → Docs
held_docs k = docs_woven headers_order (encodings_docs k.1.0 k.1.1 k.1.2) (doc (headers_doc k.0) no_docs)

held_read : (d : Data) (kept : Kept) (start middle old : ℕ) → Reads {A = Headers} (field headers_row d) headers_doc (Ok kept.0) start middle (values_at (codes "headers") d)
    → PartRead encodings_rows d (encodings_docs kept.1.0 kept.1.1 kept.1.2) middle old → PartRead held_rows d (held_docs kept) start old
held_read d kept start middle old headers encodings =
    let alone = row_and_part headers_doc headers_row [] d kept.0 no_docs start middle middle headers (no_part d middle) in
    part_among headers_order encodings_rows (headers_row ∷ []) d _ _ start middle old alone encodings

pub returns-in_err-rows : goal.returns-in_err-rows
returns-in_err-rows c = λ start middle headers before.
    let held = held_read (view c.args.tree.now) (c.args.headers, c.args.encodings) start middle _ headers before in
    let all = c.in_err-rows.ensures encoding_object encoding_order held_rows held_docs start refl refl held in
    passes_reads _ encoding_doc _ _ _ _ start _ _ _ _ c.from_residual.ensures.1 all (λ h. h) (omega arith) (omega arith)

pub returns : goal.returns
returns c = λ start middle headers before.
    let held = held_read (view c.args.tree.now) (c.args.headers, c.args.encodings) start middle _ headers before in
    let all = c.in_ok-rows.ensures encoding_object encoding_order held_rows held_docs start refl refl held in
    reads_as _ encoding_doc _ _ _ _ _ _ (sym c.encoding_of.ensures) all
