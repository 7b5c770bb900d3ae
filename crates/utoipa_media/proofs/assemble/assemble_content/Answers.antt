use Rattle.std.proofs.Common.{refl, sym, arith}
use Rattle.utoipa_base.specs.Kinds.{media_type_object}
use Rattle.utoipa_base.proofs.RowLists.{passes_reads, reads_as}
use Rattle.utoipa_media.specs.Docs.{content_doc}
use Rattle.utoipa_media.specs.Parts.{content_order, encodings_rows, encodings_docs}
use Rattle.utoipa_media.proofs.assemble.assemble_content.Goals as goal

pub returns-in_err-rows : goal.returns-in_err-rows
returns-in_err-rows c = λ start before.
    let all = c.in_err-rows.ensures media_type_object content_order encodings_rows (λ e. encodings_docs e.0 e.1 e.2) start refl refl before in
    passes_reads _ content_doc _ _ _ _ start _ _ _ _ c.from_residual.ensures.1 all (λ h. h) (omega arith) (omega arith)

pub returns : goal.returns
returns c = λ start before.
    let all = c.in_ok-rows.ensures media_type_object content_order encodings_rows (λ e. encodings_docs e.0 e.1 e.2) start refl refl before in
    reads_as _ content_doc _ _ _ _ _ _ (sym c.content_of.ensures) all
