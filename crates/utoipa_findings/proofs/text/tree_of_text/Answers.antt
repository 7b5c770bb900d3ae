use Rattle.std.proofs.Common.{◌∙◌, Some, ap, sym}
use Rattle.serde_json.specs.View.{view}
use Rattle.utoipa_tables.specs.Tables.{kind_of}
use Rattle.utoipa_findings.specs.Sources.{file_of}
use Rattle.utoipa_findings.proofs.Texts.{seen_by_text}
use Rattle.utoipa_findings.proofs.text.tree_of_text.Goals as goal

pub returns-clause-ok : goal.returns-clause-ok
returns-clause-ok c =
    seen_by_text (kind_of c.args.kind) (file_of c.args.source) c.args.text.now (view c.in_ok-tree.tree) c.requires.same c.requires.utf8 c.in_ok-tree.ensures.ok ∙ ap Some (sym c.in_ok-seen.ensures)
