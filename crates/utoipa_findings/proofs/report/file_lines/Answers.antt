use Rattle.std.proofs.Common.{◌∙◌, ap, string_bytes}
use Rattle.serde_json.specs.View.{view}
use Rattle.utoipa_findings.specs.Findings.{text_findings}
use Rattle.utoipa_findings.specs.Lines.{lines_of}
use Rattle.utoipa_findings.specs.Sources.{file_of}
use Rattle.utoipa_findings.proofs.Texts.{told_of_tree}
use Rattle.utoipa_tables.specs.Tables.{kind_of}
use Rattle.utoipa_findings.proofs.report.file_lines.Goals as goal

pub returns-clause-ok : goal.returns-clause-ok
returns-clause-ok g c =
    let k = kind_of c.args.kind in
    let name = c.args.source.name.now in
    let bytes = c.args.source.bytes.now in
    let tree = view c.in_ok-tree.tree in
    let text = c.in_ok-text.ensures.ok in
    told_of_tree (text_findings k bytes) k (file_of c.args.source) (string_bytes c.in_ok-text_lines.field-0) tree c.in_ok-tree.ensures.ok (c.in_ok-text_lines.ensures ∙ ap (λ t. lines_of name (text_findings k t tree)) text.0)
