-- Written by tools/answers.py utoipa document OpenApi
use Rattle.std.proofs.Common.{refl, arith}
use Rattle.utoipa_base.specs.Kinds.{open_api_object}
use Rattle.utoipa_base.proofs.RowLists.{passes_reads, reads_as}
use Rattle.utoipa.proofs.document.OpenApiTree.read_plain.Goals as goal

pub returns-in_err-fields : goal.returns-in_err-fields
returns-in_err-fields c = passes_reads _ _ _ _ _ _ _ _ _ _ _ c.from_residual.ensures.1 (c.in_err-fields.ensures open_api_object refl refl) (λ h. h) (omega arith) (omega arith)

pub returns : goal.returns
returns c = reads_as _ _ _ _ _ _ _ _ refl (c.in_ok-fields.ensures open_api_object refl refl)
