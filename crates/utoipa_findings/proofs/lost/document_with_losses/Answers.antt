use Rattle.std.proofs.Common.{◌≡◌, ◌∙◌, ◌++◌, ap, sym, string_bytes}
use Rattle.serde_json.specs.View.{view}
use Rattle.utoipa_findings.specs.Findings.{text_losses}
use Rattle.utoipa_findings.specs.Lines.{lines_of}
use Rattle.utoipa_findings.specs.Sources.{file_of, file_tree}
use Rattle.utoipa_findings.specs.Told.{tree_lines}
use Rattle.utoipa_findings.proofs.Fitting.{passed_on, told_of_unfit}
use Rattle.utoipa_tables.specs.Tables.{kind_of}
use Rattle.utoipa_findings.proofs.lost.document_with_losses.Goals as goal

pub returns-in_err-document-clause-err : goal.returns-in_err-document-clause-err
returns-in_err-document-clause-err g c =
    let refused = c.in_err-document.field-0.0 in
    passed_on _ c.from_residual-in_err-document.result refused c.from_residual-in_err-document.ensures.1
    (told_of_unfit (kind_of c.args.kind) (file_of c.args.source) (view c.in_ok-tree.tree) refused c.in_ok-tree.ensures.ok c.in_err-document.ensures.err)

pub returns-clause-ok : goal.returns-clause-ok
returns-clause-ok g c = record {
  tree = view c.in_ok-tree.tree;
  has = ap (λ k. file_tree k (file_of c.args.source)) (sym c.requires) ∙ c.in_ok-tree.ensures.ok;
  reads = (c.in_ok-document.ensures.plain, c.in_ok-document.ensures.ok);
}

pub returns-clause-told : goal.returns-clause-told
returns-clause-told g c =
    let k = kind_of c.args.kind in
    let x = file_of c.args.source in
    let text = c.in_ok-text.ensures.ok in
    let tree = view c.in_ok-tree.tree in
    let lines : string_bytes c.in_ok-lines.lines ≡ tree_lines (text_losses k x.1) x.0 (file_tree k x) =
    c.in_ok-lines.ensures ∙ ap (λ t. lines_of x.0 (text_losses k t tree)) text.0 ∙ sym (ap (tree_lines (text_losses k x.1) x.0) c.in_ok-tree.ensures.ok)
    in
    c.in_ok-push_str.ensures.bytes ∙ ap (λ l. string_bytes c.args.lost.now ++ l) (c.as_str.ensures.value ∙ lines)
