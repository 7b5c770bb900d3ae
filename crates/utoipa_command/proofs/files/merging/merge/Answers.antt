use Rattle.std.proofs.Common.{◌≡◌, ◌∙◌, ◌⊎◌, true, ◌++◌, List, ℕ, map, ap, refl, subst, string_bytes}
use Rattle.utoipa_base.proofs.Results.{if_is}
use Rattle.utoipa_findings.specs.declared.refusal.Refusal.TheVariants.{Memory}
use Rattle.utoipa_findings.specs.Sources.{file_of}
use Rattle.utoipa_findings.proofs.Fitting.{passed_on}
use Rattle.utoipa_merging.specs.Merged.{IsMerged}
use Rattle.utoipa.specs.OpenApi.{openapi_doc, openapi_of_kind}
use Rattle.utoipa_command.specs.Files.{AreRefused, AreLossy}
use Rattle.utoipa_command.proofs.Documents.{if_ok}
use Rattle.utoipa_command.proofs.EachFile.{lossy_told, lost_is, memory_told}
use Rattle.utoipa_command.proofs.FileDocuments.{merged, all_of_kind, ok_is, err_is, passed_beside}
use Rattle.utoipa_command.proofs.files.merging.merge.Goals as goal

pub returns-in_err-documents-3-clause-err : goal.returns-in_err-documents-3-clause-err
returns-in_err-documents-3-clause-err c =
    let sources = c.args.sources.now in
    let documents = map openapi_doc c.in_ok-documents.documents.items in
    let dropped = ok_is _ c.dropped_by-dropped.result c.in_ok-documents-2.dropped c.dropped_by-dropped.ensures c.in_ok-documents-2.ensures.ok.1 in
    let lost = lost_is sources documents (map openapi_doc c.deref.result.now) _ _ _ _ c.new-lost.ensures.bytes c.in_ok-documents.ensures.told (c.as_str.ensures.value ∙ dropped) (ap (map openapi_doc) c.deref.ensures.value) refl in
    let refusal = c.in_err-documents-3.field-0.0 in
    let residual = c.from_residual-in_err-documents-3 in
    let told = err_is _ c.with_dropped.result refusal c.with_dropped.ensures.err c.in_err-documents-3.ensures.err in
    passed_on _ residual.result refusal residual.ensures.1 (lossy_told sources documents c.args.strict _ refusal c.in_ok-documents.ensures.ok lost told)

pub returns-in-Some-clause-ok : goal.returns-in-Some-clause-ok
returns-in-Some-clause-ok c =
    let sources = c.args.sources.now in
    let read = c.in_ok-documents.documents in
    let documents = map openapi_doc read.items in
    let d = openapi_doc c.in-Some.document in
    let first = c.in_ok-documents-2.ensures.ok in
    let second = c.in_ok-documents-3.ensures.ok in
    let made = c.in_ok-document.ensures.ok in
    let some_merged = ok_is _ c.merge_all.result c.in_ok-document.field-0 c.merge_all.ensures.ok made in
    let some_ordered = ok_is _ c.merge_all.result c.in_ok-document.field-0 c.merge_all.ensures.ordered made in
    let merges = subst (λ v. IsMerged (map openapi_doc v.items) d) (second.0 ∙ first.0) (if_is _ _ _ some_merged c.in-Some.is) in
    let dropped = ok_is _ c.dropped_by-dropped.result c.in_ok-documents-2.dropped c.dropped_by-dropped.ensures first.1 in
    let lines = ok_is _ c.with_dropped.result c.in_ok-documents-3.lost c.with_dropped.ensures.ok second.1 in
    let lost = lost_is sources documents (map openapi_doc c.deref.result.now) _ _ _ _ c.new-lost.ensures.bytes c.in_ok-documents.ensures.told (c.as_str.ensures.value ∙ dropped) (ap (map openapi_doc) c.deref.ensures.value) lines in
    if_ok _ _ c.with_losses.result c.with_losses.ensures.ok
    (λ w is. merged c.args.layout (map file_of sources) (string_bytes w.text) (string_bytes w.lost) documents d c.in_ok-documents.ensures.ok (all_of_kind openapi_doc openapi_of_kind read.items) merges
    (if_is _ _ _ some_ordered c.in-Some.is) (ok_is _ c.json_line.result w.text c.json_line.ensures.ok is.0) (ap string_bytes is.1 ∙ lost))

pub returns-in-Some-clause-kept : goal.returns-in-Some-clause-kept
returns-in-Some-clause-kept c =
    if_ok _ _ c.with_losses.result c.with_losses.ensures.ok
    (λ w is strict. ap string_bytes is.1 ∙ ok_is _ c.with_dropped.result c.in_ok-documents-3.lost c.with_dropped.ensures.kept c.in_ok-documents-3.ensures.ok.1 strict)

pub returns-in-Some-clause-err : goal.returns-in-Some-clause-err
returns-in-Some-clause-err c =
    memory_told (λ told. AreRefused (map file_of c.args.sources.now) told ⊎ ((c.args.strict ≡ true) × AreLossy (map file_of c.args.sources.now) told)) c.with_losses.result (passed_beside (λ w. w ≡ Memory) (λ w. w ≡ Memory) c.with_losses.result c.json_line.result c.with_losses.ensures.err c.json_line.ensures.err (λ w is. is))
