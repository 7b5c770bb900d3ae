use Rattle.std.proofs.Common.{◌∙◌, Err, true≢false, map, ap, sym}
use Rattle.utoipa_base.proofs.Results.{if_is}
use Rattle.utoipa.specs.OpenApi.{openapi_doc}
use Rattle.utoipa_command.specs.Commands.{merge}
use Rattle.utoipa_command.proofs.Documents.{all_plain, answers_merged, if_ok, memory_refused, none_has_fraction, refused}
use Rattle.utoipa_command.proofs.TextsRead.{input_passed_on, tree_refused}
use Rattle.utoipa_command.proofs.answer.merged.Goals as goal

pub returns-in_err-documents-clause-err : goal.returns-in_err-documents-clause-err
returns-in_err-documents-clause-err c = input_passed_on merge _ c.from_residual.result c.in_err-documents.field-0.0 c.from_residual.ensures.1 c.in_err-documents.ensures.err

pub returns-in_err-document-clause-err : goal.returns-in_err-document-clause-err
returns-in_err-document-clause-err c =
    let read = c.in_ok-documents.ensures.ok in
    let documents = map openapi_doc c.in_ok-documents.documents.items in
    let plain = none_has_fraction documents (all_plain read.tree documents read.reads.0 read.reads.1) in
    tree_refused merge _ read.tree c.from_residual-in_err-document.result read.has (refused merge read.tree c.from_residual-in_err-document.result c.in_err-document.field-0.0 c.from_residual-in_err-document.ensures.1
    (λ e. true≢false (sym (c.in_err-document.ensures.fraction.0 (ap Err e)) ∙ plain)))

pub returns-in-Some-clause-ok : goal.returns-in-Some-clause-ok
returns-in-Some-clause-ok c =
    let read = c.in_ok-documents.ensures.ok in
    let merged = c.in_ok-document.ensures in
    let documents = c.in_ok-documents.documents.items in
    if_ok _ _ c.line.result c.line.ensures.ok (λ line printed.
    record {
      tree = read.tree;
      has = read.has;
      answers = answers_merged read.tree (map openapi_doc documents) _ _ read.reads.0 read.reads.1
          (if_is _ _ _ merged.ok c.in-Some.is) (if_is _ _ _ merged.ordered c.in-Some.is) printed;
    })

pub returns-in-Some-clause-err : goal.returns-in-Some-clause-err
returns-in-Some-clause-err c =
    let read = c.in_ok-documents.ensures.ok in
    tree_refused merge _ read.tree c.line.result read.has (memory_refused merge read.tree c.line.result c.line.ensures.err)
