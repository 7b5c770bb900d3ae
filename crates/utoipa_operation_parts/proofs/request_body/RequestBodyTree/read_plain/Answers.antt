use Rattle.std.proofs.Common.{refl, sym, arith}
use Rattle.utoipa_base.specs.Kinds.{request_body_object}
use Rattle.utoipa_base.proofs.RowLists.{passes_reads, reads_as}
use Rattle.utoipa_operation_parts.proofs.request_body.RequestBodyTree.read_plain.Goals as goal

pub returns-in_err-fields : goal.returns-in_err-fields
returns-in_err-fields c = passes_reads _ _ _ _ _ _ _ _ _ _ _ c.from_residual.ensures.1 (c.in_err-fields.ensures request_body_object refl refl) (λ h. h) (omega arith) (omega arith)

pub returns : goal.returns
returns c = reads_as _ _ _ _ _ _ _ _ (sym c.request_body_of.ensures) (c.in_ok-fields.ensures request_body_object refl refl)
