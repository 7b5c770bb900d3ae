use Rattle.std.proofs.Common.{◌≡◌, ◌++◌, [], OnOk, string_bytes, subst}
use Rattle.utoipa_check.specs.Views.{outwards}
use Rattle.utoipa_findings.specs.Lines.{drop_line, name_at}
use Rattle.utoipa_findings.specs.Views.{names_of}
use Rattle.utoipa_findings.proofs.conflict.put_conflict.Goals as goal

pub returns : goal.returns
returns c =
    let doing = c.args.doing.now in
    let place = outwards c.args.conflict.now.pointer.steps.items [] in
    let names = names_of c.args.sources.now in
    subst (λ d. OnOk c.put_drop.result (string_bytes c.put_drop.new.lines ≡ string_bytes c.args.lines.now ++ drop_line doing d place (name_at names c.args.conflict.now.kept))) c.name_at-dropped.ensures
    (subst (λ k. OnOk c.put_drop.result (string_bytes c.put_drop.new.lines ≡ string_bytes c.args.lines.now ++ drop_line doing c.name_at-dropped.result.now place k)) c.name_at-kept.ensures c.put_drop.ensures)
