use Rattle.std.proofs.Common.{arith}
use Rattle.serde_json.specs.View.{view}
use Rattle.utoipa_security.proofs.SchemeTypes.{not_read, scheme_reads, scheme_of_no_type, scheme_absent}
use Rattle.utoipa_security.proofs.security.scheme.SecuritySchemeTree.read_plain.Goals as goal

pub returns-in_err-word : goal.returns-in_err-word
returns-in_err-word c = not_read _ _ _ _ _ _ c.from_residual.ensures.1 c.in_err-word.ensures.err (scheme_absent (view c.args.tree.now) c.in_err-word.ensures.none)

pub returns-in-None : goal.returns-in-None
returns-in-None c =
    record { ok = tt; err = scheme_of_no_type (view c.args.tree.now) _ c.in_ok-word.ensures.ok c.in-None.ensures; grows = omega arith; at_most = omega arith; at_least = tt }

pub returns-in-Some : goal.returns-in-Some
returns-in-Some c =
    scheme_reads c.read_scheme.result (view c.args.tree.now) _ c.in-Some.kind _ _ _ c.in_ok-word.ensures.ok c.in-Some.ensures c.read_scheme.ensures.of_type c.read_scheme.ensures.reads
