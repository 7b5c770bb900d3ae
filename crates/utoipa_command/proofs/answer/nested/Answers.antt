use Rattle.std.proofs.Common.{◌≡◌, ◌∷◌, ◌∙◌, [], Err, true≢false, ap, sym}
use Rattle.utoipa_merging.proofs.ItemWalks.{none_left}
use Rattle.utoipa.specs.OpenApi.{openapi_doc, openapi_of_kind}
use Rattle.utoipa_command.specs.Commands.{nest}
use Rattle.utoipa_command.proofs.Counts.{has_third, no_first, no_second, none_to_give}
use Rattle.utoipa_command.proofs.Documents.{all_plain, answers_nested, count_refused, if_ok, memory_refused, neither_has_fraction, refused, two_documents}
use Rattle.utoipa_command.specs.declared.refusal.Refusal.TheVariants.{Count}
use Rattle.utoipa_command.proofs.TextsRead.{input_passed_on, tree_refused}
use Rattle.utoipa_findings.proofs.SortedWritten.{text_tree_sorted}
use Rattle.utoipa_command.proofs.Trees.{cause_in_tree}
use Rattle.utoipa_command.proofs.answer.nested.Goals as goal
use Rattle.utoipa_command.proofs.answer.nested.Goals.{in_default-via-in-Some+in-Some+in_default, in_default-via-in-Some+in_default, in_default-via-in_default}

pub returns-in_err-document_of-clause-err : goal.returns-in_err-document_of-clause-err
returns-in_err-document_of-clause-err c = input_passed_on (nest c.args.base.now) _ c.from_residual.result c.in_err-document_of.field-0.0 c.from_residual.ensures.1 c.in_err-document_of.ensures.err

pub returns-in_err-nest-in-Some-Some-None-clause-err : goal.returns-in_err-nest-in-Some-Some-None-clause-err
returns-in_err-nest-in-Some-Some-None-clause-err c =
    let read = c.in_ok-document_of.ensures.ok in
    let two = c.in-Some-Some-None in
    let rest = c.next-2.new.self.rest in
    let none : rest.items ≡ [] = none_left rest.items rest.len rest.ok.0 two.ensures''.cases.0 in
    let both = sym c.into_iter-documents.ensures.rest ∙ two.ensures.items ∙ ap (λ xs. two.own ∷ xs) (two.ensures'.items ∙ ap (λ xs. two.nested ∷ xs) none) in
    let plain = all_plain read.tree (openapi_doc two.own ∷ openapi_doc two.nested ∷ []) read.reads.0 (two_documents openapi_doc read.tree c.in_ok-document_of.field-0 two.own two.nested both read.reads.1) in
    tree_refused (nest c.args.base.now) _ read.tree c.from_residual-in_err-nest-in-Some-Some-None.result read.has (refused (nest c.args.base.now) read.tree c.from_residual-in_err-nest-in-Some-Some-None.result c.in_err-nest-in-Some-Some-None.field-0.0
    c.from_residual-in_err-nest-in-Some-Some-None.ensures.1
    (λ e. true≢false (sym (c.in_err-nest-in-Some-Some-None.ensures.fraction.0 (ap Err e)) ∙ neither_has_fraction _ _ plain.0 plain.1.0)))

pub returns-in-Some-Some-None-clause-ok : goal.returns-in-Some-Some-None-clause-ok
returns-in-Some-Some-None-clause-ok c =
    let read = c.in_ok-document_of.ensures.ok in
    let nested = c.in_ok-nest-in-Some-Some-None.ensures in
    let two = c.in-Some-Some-None in
    let rest = c.next-2.new.self.rest in
    let none : rest.items ≡ [] = none_left rest.items rest.len rest.ok.0 two.ensures''.cases.0 in
    let both = sym c.into_iter-documents.ensures.rest ∙ two.ensures.items ∙ ap (λ xs. two.own ∷ xs) (two.ensures'.items ∙ ap (λ xs. two.nested ∷ xs) none) in
    if_ok _ _ c.line.result c.line.ensures.ok (λ line printed.
    record {
      tree = read.tree;
      has = read.has;
      answers = answers_nested c.args.base.now read.tree (openapi_doc two.own) (openapi_doc two.nested) _ _ read.reads.0 (text_tree_sorted _ read.tree read.has)
          (two_documents openapi_doc read.tree c.in_ok-document_of.field-0 two.own two.nested both read.reads.1)
          (openapi_of_kind two.own) (openapi_of_kind two.nested) nested.ok nested.ordered printed;
    })

pub returns-in-Some-Some-None-clause-err : goal.returns-in-Some-Some-None-clause-err
returns-in-Some-Some-None-clause-err c =
    let read = c.in_ok-document_of.ensures.ok in
    tree_refused (nest c.args.base.now) _ read.tree c.line.result read.has (memory_refused (nest c.args.base.now) read.tree c.line.result c.line.ensures.err)

pub returns-clause-err : goal.returns-clause-err
returns-clause-err c =
    let read = c.in_ok-document_of.ensures.ok in
    let given = c.in_ok-document_of.field-0 in
    let all = sym c.into_iter-documents.ensures.rest in
    let first = c.into_iter-documents.result.rest in
    let second = c.next.new.self.rest in
    cause_in_tree (nest c.args.base.now) _ read.tree Count read.has (count_refused openapi_doc c.args.base.now read.tree given read.reads.0 read.reads.1 (elim c.in_default.branch [
      | in_default-via-in-Some+in-Some+in_default w ↦ has_third _ _ _ _ _ _ _ _ all w.in_default.ensures.items w.in_default.ensures'.items w.in_default.ensures''.items
      | in_default-via-in-Some+in_default w ↦ no_second _ _ _ _ all w.in_default.ensures.items
          (none_to_give _ _ _ second.items second.len second.ok.0 c.next-2.ensures.cases w.in_default.is-1)
      | in_default-via-in_default w ↦ no_first _ _ all (none_to_give _ _ _ first.items first.len first.ok.0 c.next.ensures.cases w.in_default.is-0)
    ]))
