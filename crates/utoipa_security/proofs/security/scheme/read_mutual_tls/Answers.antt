use Rattle.std.proofs.Common.{refl, arith}
use Rattle.utoipa_base.specs.Kinds.{mutual_tls_scheme}
use Rattle.utoipa_base.proofs.RowLists.{passes_reads, reads_as}
use Rattle.utoipa_security.proofs.security.scheme.read_mutual_tls.Goals as goal

pub returns-in_err-fields-clause-reads : goal.returns-in_err-fields-clause-reads
returns-in_err-fields-clause-reads c = passes_reads _ _ _ _ _ _ _ _ _ _ _ c.from_residual.ensures.1 (c.in_err-fields.ensures mutual_tls_scheme refl refl) (λ h. h) (omega arith) (omega arith)

pub returns-clause-reads : goal.returns-clause-reads
returns-clause-reads c = reads_as _ _ _ _ _ _ _ _ refl (c.in_ok-fields.ensures mutual_tls_scheme refl refl)
