use Rattle.utoipa_command.proofs.TextsRead.{read_as, text_passed_on, no_utf8}
use Rattle.utoipa_command.proofs.answer.document_of.Goals as goal

pub returns-in_ok-from_json_text-in-Ok-clause-ok : goal.returns-in_ok-from_json_text-in-Ok-clause-ok
returns-in_ok-from_json_text-in-Ok-clause-ok g c = read_as _ _ _ _ c.in-Ok.ensures.cases.0 c.in-Ok.ensures.cases.1 c.in_ok-from_json_text-in-Ok.ensures.ok

pub returns-in_err-from_json_text-in-Ok-clause-err : goal.returns-in_err-from_json_text-in-Ok-clause-err
returns-in_err-from_json_text-in-Ok-clause-err g c = text_passed_on _ _ _ c.from_residual.result c.in_err-from_json_text-in-Ok.field-0.0 c.from_residual.ensures.1 c.in-Ok.ensures.cases.0 c.in-Ok.ensures.cases.1 c.in_err-from_json_text-in-Ok.ensures.err

pub returns-in-Err-clause-err : goal.returns-in-Err-clause-err
returns-in-Err-clause-err g c = no_utf8 _ c.in-Err.ensures.cases.0
