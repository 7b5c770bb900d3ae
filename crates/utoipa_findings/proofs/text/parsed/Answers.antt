use Rattle.std.proofs.Common.{◌∙◌, None, ap, sym, true≢false}
use Rattle.utoipa_findings.specs.Sources.{text_line, no_tree, tree_of}
use Rattle.utoipa_findings.proofs.Texts.{tree_by_text, said_of_text}
use Rattle.utoipa_findings.proofs.text.parsed.Goals as goal

pub returns-in_ok-line-in-Err-2-clause-err : goal.returns-in_ok-line-in-Err-2-clause-err
returns-in_ok-line-in-Err-2-clause-err c =
    let none = c.in-Err.ensures.err (λ memory. true≢false (sym (c.is_memory.ensures.1 memory) ∙ c.if-is_memory.false)) in
    let same = c.requires.same in
    let said = ap (text_line c.args.source.name.now c.line.result c.column.result) (sym (said_of_text c.args.text.now c.requires.utf8) ∙ ap no_tree same) in
    (ap tree_of (sym same) ∙ tree_by_text c.args.text.now None c.requires.utf8 none, (c.line.result, c.column.result, c.in_ok-line-in-Err-2.ensures ∙ said))
