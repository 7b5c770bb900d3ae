use Rattle.std.proofs.Common.{ap, sym, ◌∙◌, is_some}
use Rattle.utoipa_meaning.proofs.Origins.{noted_new, noted_old, looked_up}
use Rattle.utoipa_meaning.proofs.origin.note.Goals as goal

pub returns-in_ok-insert : goal.returns-in_ok-insert
returns-in_ok-insert c =
    noted_new c.args.origins.now c.insert.new.self c.args.place c.args.number c.in_ok-insert.ensures.entries
    (ap is_some (sym (looked_up c.args.place c.args.origins.now.entries)) ∙ sym c.contains_key.ensures ∙ c.if-not-contains_key.true)

pub returns-else-not-contains_key : goal.returns-else-not-contains_key
returns-else-not-contains_key c =
    noted_old c.args.origins.now c.args.place c.args.number
    (ap is_some (sym (looked_up c.args.place c.args.origins.now.entries)) ∙ sym c.contains_key.ensures ∙ c.if-not-contains_key.false)
