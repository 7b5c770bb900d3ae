use Rattle.std.proofs.Common.{◌≡◌, ◌∙◌, codes, string_bytes, ap, sym}
use Rattle.std.proofs.lemmas.Result.{IfOk-weaker}
use Rattle.utoipa_findings.specs.Sources.{text_line}
use Rattle.utoipa_findings.proofs.Said.{no_utf8}
use Rattle.utoipa_findings.proofs.text.no_utf8_line.Goals as goal

pub returns : goal.returns
returns c =
    let name = c.args.source.name.now in
    let line = c.position-line.result.0 in
    let column = c.position-line.result.1 in
    IfOk-weaker c.format.result (λ told. string_bytes told ≡ text_line name line column (codes "this is no UTF-8\n")) _ (λ told is. (line, column, is ∙ ap (text_line name line column) (sym (no_utf8 c.args.source.bytes.now c.requires)))) c.format.ensures.ok
