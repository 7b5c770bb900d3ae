use Rattle.std.proofs.Common.{[], ◌∷◌, refl, sym, arith}
use Rattle.serde_json.specs.View.{view}
use Rattle.utoipa_base.specs.Docs.{doc, no_docs}
use Rattle.utoipa_base.specs.Kinds.{named, header_object, media_type_object}
use Rattle.utoipa_base.specs.Refs.{ref_or_doc}
use Rattle.utoipa_base.specs.Views.{map_of_docs}
use Rattle.utoipa_base.proofs.PartsRead.{no_part, row_and_part}
use Rattle.utoipa_base.proofs.RowLists.{passes_reads, reads_as}
use Rattle.utoipa_media.specs.Docs.{content_doc, header_doc}
use Rattle.utoipa_media.specs.Parts.{header_order}
use Rattle.utoipa_media.proofs.EncodingParts.{contents_row}
use Rattle.utoipa_media.proofs.assemble.assemble_header.Goals as goal

pub returns-in_err-rows : goal.returns-in_err-rows
returns-in_err-rows c = λ start before.
    let contents = map_of_docs (ref_or_doc (named media_type_object) content_doc) in
    let last = row_and_part contents contents_row [] (view c.args.tree.now) c.args.content no_docs start _ _ before (no_part _ _) in
    let all = c.in_err-rows.ensures header_object header_order (contents_row ∷ []) (λ content. doc (contents content) no_docs) start refl refl last in
    passes_reads _ header_doc _ _ _ _ start _ _ _ _ c.from_residual.ensures.1 all (λ h. h) (omega arith) (omega arith)

pub returns : goal.returns
returns c = λ start before.
    let contents = map_of_docs (ref_or_doc (named media_type_object) content_doc) in
    let last = row_and_part contents contents_row [] (view c.args.tree.now) c.args.content no_docs start _ _ before (no_part _ _) in
    let all = c.in_ok-rows.ensures header_object header_order (contents_row ∷ []) (λ content. doc (contents content) no_docs) start refl refl last in
    reads_as _ header_doc _ _ _ _ _ _ (sym c.header_of.ensures) all
