use Rattle.std.proofs.Common.{string_bytes, ap, ◌∙◌, ◌++◌}
use Rattle.serde_json.specs.View.{view}
use Rattle.utoipa_findings.specs.Sources.{file_of}
use Rattle.utoipa_findings.specs.Told.{IsRefused}
use Rattle.utoipa_command.specs.Files.{document_kind}
use Rattle.utoipa_command.proofs.EachFile.{first_refused, both_refused, told_lines}
use Rattle.utoipa_command.proofs.files.nesting.refused_with.Goals as goal

pub returns-in-Ok : goal.returns-in-Ok
returns-in-Ok c own h =
    let nested = c.in-Ok.ensures.ok in
    first_refused own (file_of c.args.nested) nested.document (string_bytes c.args.lines) h (record { tree = view c.in-Ok._tree; has = nested.has; reads = nested.reads })

pub returns-in-Ok-push_str : goal.returns-in-Ok-push_str
returns-in-Ok-push_str c own h =
    let file = file_of c.args.nested in
    let told = c.in-Err-Told in
    both_refused own file (string_bytes c.args.lines) (string_bytes told.more) _ h (told_lines (IsRefused document_kind file) told.field-0 told.more told.ensures.err told.field-0-is)
    (c.in-Ok-push_str.ensures.bytes ∙ ap (λ x. string_bytes c.args.lines ++ x) c.as_str.ensures.value)
