use Rattle.std.proofs.Common.{◌≡◌, ◌∙◌, ◌⊎◌, true, false, string_bytes, ap, sym, subst}
use Rattle.serde_json.specs.Written.{has_float}
use Rattle.utoipa.specs.OpenApi.{openapi_doc}
use Rattle.utoipa_base.specs.Writing.{write}
use Rattle.utoipa_findings.specs.Sources.{IsFileOf, file_of}
use Rattle.utoipa_findings.specs.Told.{IsRefused}
use Rattle.utoipa_findings.specs.declared.refusal.Refusal.TheVariants.{Memory}
use Rattle.utoipa_command.specs.Files.{document_kind, IsLossy}
use Rattle.utoipa_command.specs.Layouts.{laid_out}
use Rattle.utoipa_command.proofs.Documents.{if_ok}
use Rattle.utoipa_command.proofs.EachFile.{file_lost_is, memory_told}
use Rattle.utoipa_command.proofs.FileDocuments.{formatted, ok_is, passed_beside}
use Rattle.utoipa_command.proofs.files.formatting.format.Goals as goal

pub returns-clause-ok : goal.returns-clause-ok
returns-clause-ok c =
    let file = file_of c.args.source in
    let both = c.in_ok-document-2.ensures.ok in
    let document = c.in_ok-document-2.document in
    let reads = subst (λ d. IsFileOf document_kind (openapi_doc d) (file_of c.args.source)) (sym both.0) c.in_ok-document.ensures.ok in
    let same = ok_is _ c.unless_refused.result c.in_ok-document-2.lost c.unless_refused.ensures.ok both.1 in
    let told = file_lost_is file _ _ _ c.new-lost.ensures.bytes c.in_ok-document.ensures.told same in
    if_ok _ _ c.with_losses.result c.with_losses.ensures.ok
    (λ w is. formatted c.args.layout file (string_bytes w.text) (string_bytes w.lost) (openapi_doc document) reads (ok_is _ c.json_line.result w.text c.json_line.ensures.ok is.0) (ap string_bytes is.1 ∙ told))

pub returns-clause-kept : goal.returns-clause-kept
returns-clause-kept c =
    let both = c.in_ok-document-2.ensures.ok in
    if_ok _ _ c.with_losses.result c.with_losses.ensures.ok
    (λ w is strict. ap string_bytes is.1 ∙ ok_is _ c.unless_refused.result c.in_ok-document-2.lost c.unless_refused.ensures.kept both.1 strict)

pub returns-clause-err : goal.returns-clause-err
returns-clause-err c =
    memory_told (λ told. IsRefused document_kind (file_of c.args.source) told ⊎ ((c.args.strict ≡ true) × IsLossy (file_of c.args.source) told)) c.with_losses.result
    (passed_beside (λ w. w ≡ Memory) (λ w. w ≡ Memory) c.with_losses.result c.json_line.result c.with_losses.ensures.err c.json_line.ensures.err (λ w is. is))
