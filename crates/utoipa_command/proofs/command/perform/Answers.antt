use Rattle.std.proofs.Common.{sym, ap, ◌∙◌, option_map}
use Rattle.utoipa_command.specs.Commands.{request_of}
use Rattle.utoipa_command.proofs.Served.{answered, refused, for_request}
use Rattle.utoipa_command.proofs.command.perform.Goals as goal

pub returns-in-Ok-clause-served : goal.returns-in-Ok-clause-served
returns-in-Ok-clause-served g c =
    let r = request_of c.in-Some.command in
    let e = c.in-Ok.ensures in
    for_request _ r _ _ _ (sym c.from_words.ensures ∙ ap (option_map request_of) c.in-Some.is) (answered r _ _ e.answered e.end e.all_read e.all_written)

pub returns-in-Err-clause-served : goal.returns-in-Err-clause-served
returns-in-Err-clause-served g c =
    let r = request_of c.in-Some.command in
    let e = c.in-Err.ensures in
    for_request _ r _ _ _ (sym c.from_words.ensures ∙ ap (option_map request_of) c.in-Some.is)
    (refused r c.in-Err.refusal _ _ e.cause e.broken e.failed e.read_on_refusal (λ n. ap g.W.Sink.may_have_failed (e.unwritten n)) e.refused_at_end)
