use Rattle.utoipa_command.proofs.Documents.{if_ok, rewritten_as}
use Rattle.utoipa_command.proofs.answer.rewritten.Goals as goal

pub returns-clause-ok : goal.returns-clause-ok
returns-clause-ok g c =
    let read = c.in_ok-document.ensures.ok in
    if_ok _ _ c.line.result c.line.ensures.ok (λ line printed. (read.tree, read.has, rewritten_as g.T.Documented.kind read.tree _ _ read.reads.0 read.reads.1 printed))
