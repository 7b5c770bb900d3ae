use Rattle.std.proofs.Common.{refl, ap}
use Rattle.utoipa_command.specs.Commands.{server, schema, document, request_of}
use Rattle.utoipa_command.proofs.TextsRead.{input_refused, rewritten_answers}
use Rattle.utoipa_command.proofs.answer.answer.Goals as goal

pub returns-in-Server-clause-ok : goal.returns-in-Server-clause-ok
returns-in-Server-clause-ok c = rewritten_answers _ server _ c.rewritten.result (ap request_of c.in-Server.is) (λ d. refl) c.rewritten.ensures.ok

pub returns-in-Server-clause-err : goal.returns-in-Server-clause-err
returns-in-Server-clause-err c = input_refused _ server _ c.rewritten.result (ap request_of c.in-Server.is) c.rewritten.ensures.err

pub returns-in-Schema-clause-ok : goal.returns-in-Schema-clause-ok
returns-in-Schema-clause-ok c = rewritten_answers _ schema _ c.rewritten-in-Schema.result (ap request_of c.in-Schema.is) (λ d. refl) c.rewritten-in-Schema.ensures.ok

pub returns-in-Schema-clause-err : goal.returns-in-Schema-clause-err
returns-in-Schema-clause-err c = input_refused _ schema _ c.rewritten-in-Schema.result (ap request_of c.in-Schema.is) c.rewritten-in-Schema.ensures.err

pub returns-in-Document-clause-ok : goal.returns-in-Document-clause-ok
returns-in-Document-clause-ok c = rewritten_answers _ document _ c.rewritten-in-Document.result (ap request_of c.in-Document.is) (λ d. refl) c.rewritten-in-Document.ensures.ok

pub returns-in-Document-clause-err : goal.returns-in-Document-clause-err
returns-in-Document-clause-err c = input_refused _ document _ c.rewritten-in-Document.result (ap request_of c.in-Document.is) c.rewritten-in-Document.ensures.err
