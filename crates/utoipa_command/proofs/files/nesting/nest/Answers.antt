use Rattle.std.proofs.Common.{◌≡◌, ◌∙◌, ◌⊎◌, true, ◌∷◌, [], ap, refl, sym, subst, string_bytes}
use Rattle.utoipa.specs.OpenApi.{openapi_doc, openapi_of_kind}
use Rattle.utoipa_findings.specs.Sources.{IsFileOf, file_of}
use Rattle.utoipa_findings.specs.declared.refusal.Refusal.TheVariants.{Memory}
use Rattle.utoipa_findings.proofs.Fitting.{passed_on}
use Rattle.utoipa_command.specs.Files.{document_kind, lost_by_nesting, AreRefused, AreLossyNested}
use Rattle.utoipa_command.proofs.Documents.{if_ok}
use Rattle.utoipa_command.proofs.EachFile.{lossy_nested_told, nested_lost_is, memory_told}
use Rattle.utoipa_command.proofs.FileDocuments.{nested, ok_is, err_is, passed_beside}
use Rattle.utoipa_command.proofs.files.nesting.nest.Goals as goal

pub returns-in_err-documents-3-clause-err : goal.returns-in_err-documents-3-clause-err
returns-in_err-documents-3-clause-err c =
    let base = c.args.base.now in
    let own = file_of c.args.own in
    let inner = file_of c.args.nested in
    let both = c.in_ok-documents.documents in
    let read = c.in_ok-documents.ensures in
    let dropped = ok_is _ c.dropped_by-dropped.result c.in_ok-documents-2.dropped c.dropped_by-dropped.ensures c.in_ok-documents-2.ensures.ok.1 in
    let lost = nested_lost_is base own inner (openapi_doc both.0) (openapi_doc both.1) _ _ _ _ c.new-lost.ensures.bytes read.told (c.as_str.ensures.value ∙ dropped) refl in
    let refusal = c.in_err-documents-3.field-0.0 in
    let residual = c.from_residual-in_err-documents-3 in
    let told = err_is _ c.with_dropped.result refusal c.with_dropped.ensures.err c.in_err-documents-3.ensures.err in
    passed_on _ residual.result refusal residual.ensures.1
    (lossy_nested_told base own inner (openapi_doc both.0) (openapi_doc both.1) c.args.strict _ refusal read.own read.nested lost told)

pub returns-clause-ok : goal.returns-clause-ok
returns-clause-ok c =
    let base = c.args.base.now in
    let own = file_of c.args.own in
    let inner = file_of c.args.nested in
    let read = c.in_ok-documents.ensures in
    let first = c.in_ok-documents-2.ensures.ok in
    let second = c.in_ok-documents-3.ensures.ok in
    let both = c.in_ok-documents-3.documents in
    let same = second.0 ∙ first.0 in
    let reads = subst (λ d. IsFileOf document_kind (openapi_doc d.0) own) (sym same) read.own in
    let reads_inner = subst (λ d. IsFileOf document_kind (openapi_doc d.1) inner) (sym same) read.nested in
    let made = c.in_ok-document.ensures.ok in
    let nests = ok_is _ c.nest.result c.in_ok-document.document c.nest.ensures.ok made in
    let ordered = ok_is _ c.nest.result c.in_ok-document.document c.nest.ensures.ordered made in
    let dropped = ok_is _ c.dropped_by-dropped.result c.in_ok-documents-2.dropped c.dropped_by-dropped.ensures first.1 in
    let lines = ok_is _ c.with_dropped.result c.in_ok-documents-3.lost c.with_dropped.ensures.ok second.1 in
    let lost = subst (λ d. string_bytes c.in_ok-documents-3.lost ≡ lost_by_nesting base own inner (openapi_doc d.0) (openapi_doc d.1)) (sym same)
    (nested_lost_is base own inner (openapi_doc c.in_ok-documents.documents.0) (openapi_doc c.in_ok-documents.documents.1) _ _ _ _ c.new-lost.ensures.bytes read.told (c.as_str.ensures.value ∙ dropped) lines)
    in
    if_ok _ _ c.with_losses.result c.with_losses.ensures.ok
    (λ w is. nested c.args.layout base own inner (string_bytes w.text) (string_bytes w.lost) (openapi_doc both.0) (openapi_doc both.1) (openapi_doc c.in_ok-document.document) (openapi_of_kind both.0) (openapi_of_kind both.1)
    reads reads_inner nests ordered (ok_is _ c.json_line.result w.text c.json_line.ensures.ok is.0) (ap string_bytes is.1 ∙ lost))

pub returns-clause-kept : goal.returns-clause-kept
returns-clause-kept c =
    if_ok _ _ c.with_losses.result c.with_losses.ensures.ok
    (λ w is strict. ap string_bytes is.1 ∙ ok_is _ c.with_dropped.result c.in_ok-documents-3.lost c.with_dropped.ensures.kept c.in_ok-documents-3.ensures.ok.1 strict)

pub returns-clause-err : goal.returns-clause-err
returns-clause-err c =
    memory_told (λ told. AreRefused (file_of c.args.own ∷ file_of c.args.nested ∷ []) told ⊎ ((c.args.strict ≡ true) × AreLossyNested c.args.base.now (file_of c.args.own) (file_of c.args.nested) told)) c.with_losses.result (passed_beside (λ w. w ≡ Memory) (λ w. w ≡ Memory) c.with_losses.result c.json_line.result c.with_losses.ensures.err c.json_line.ensures.err (λ w is. is))
