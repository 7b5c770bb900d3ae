use Rattle.std.proofs.Common.{arith}
use Rattle.serde_json.specs.View.{view}
use Rattle.utoipa_base.proofs.RowLists.{passes_reads}
use Rattle.utoipa_security.proofs.SchemeTypes.{not_read, tagged_reads, key_fits, key_refused, key_nowhere, key_absent}
use Rattle.utoipa_security.proofs.security.api_key.ApiKeyTree.read_plain.Goals as goal

pub returns-in_err-word : goal.returns-in_err-word
returns-in_err-word c = not_read _ _ _ _ _ _ c.from_residual.ensures.1 c.in_err-word.ensures.err (key_absent (view c.args.tree.now) c.in_err-word.ensures.none)

pub returns-in-None : goal.returns-in-None
returns-in-None c =
    record { ok = tt; err = key_nowhere (view c.args.tree.now) _ c.in_ok-word.ensures.ok c.in-None.ensures; grows = omega arith; at_most = omega arith; at_least = tt }

pub returns-in_err-value-in-Some : goal.returns-in_err-value-in-Some
returns-in_err-value-in-Some c =
    passes_reads _ _ _ _ _ _ _ _ _ _ _ c.from_residual-in_err-value-in-Some.ensures.1 c.in_err-value-in-Some.ensures
    (key_refused (view c.args.tree.now) _ _ c.in_ok-word.ensures.ok c.in-Some.ensures) (omega arith) (omega arith)

pub returns-in_ok-value-in-Some : goal.returns-in_ok-value-in-Some
returns-in_ok-value-in-Some c =
    tagged_reads _ _ _ _ _ _ _ _ _ _ _ c.in_place.ensures
    (key_fits (view c.args.tree.now) _ _ _ _ c.in_ok-word.ensures.ok c.in-Some.ensures c.in_place.ensures) c.in_ok-value-in-Some.ensures
