use Rattle.serde_json.specs.View.{view}
use Rattle.utoipa_tables.specs.Tables.{kind_of}
use Rattle.utoipa_findings.specs.Sources.{file_of}
use Rattle.utoipa_findings.proofs.Fitting.{passed_on, told_of_none, told_of_unfit}
use Rattle.utoipa_findings.proofs.reading.tree_of_document.Goals as goal

pub returns-in_err-tree-clause-err : goal.returns-in_err-tree-clause-err
returns-in_err-tree-clause-err c =
    let refused = c.in_err-tree.field-0.0 in
    passed_on _ c.from_residual.result refused c.from_residual.ensures.1 (told_of_none (kind_of c.args.kind) (file_of c.args.source) refused c.in_err-tree.ensures.err)

pub returns-in_err-refuse_misfits-clause-err : goal.returns-in_err-refuse_misfits-clause-err
returns-in_err-refuse_misfits-clause-err c =
    let refused = c.in_err-refuse_misfits.field-0.0 in
    let residual = c.from_residual-in_err-refuse_misfits in
    passed_on _ residual.result refused residual.ensures.1
    (told_of_unfit (kind_of c.args.kind) (file_of c.args.source) (view c.in_ok-tree.tree) refused c.in_ok-tree.ensures.ok c.in_err-refuse_misfits.ensures.err)
