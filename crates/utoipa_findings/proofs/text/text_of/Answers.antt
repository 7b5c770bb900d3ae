use Rattle.utoipa_findings.proofs.Texts.{no_tree_without}
use Rattle.utoipa_findings.proofs.text.text_of.Goals as goal

pub returns-in_ok-line-in-Err-clause-err : goal.returns-in_ok-line-in-Err-clause-err
returns-in_ok-line-in-Err-clause-err c = (no_tree_without c.args.source.bytes.now c.in-Err.ensures.cases.0, c.in_ok-line-in-Err.ensures)
