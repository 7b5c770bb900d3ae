use Rattle.std.proofs.Common.{inl, inr, ap, sym, ◌∙◌, is_some}
use Rattle.utoipa_conflicts.proofs.Noting.{noted_put, noted_kept, looked_up}
use Rattle.utoipa_conflicts.proofs.deciders.note.Goals as goal
use Rattle.utoipa_conflicts.proofs.deciders.note.Goals.{then-last_decides-via-then-last_decides, then-last_decides-via-else-last_decides+then-not-contains_key}

pub returns-in_ok-insert : goal.returns-in_ok-insert
returns-in_ok-insert c =
    noted_put c.args.deciders.now c.insert.new.self c.args.holder c.args.document c.in_ok-insert.ensures.entries
    (elim c.then-last_decides.branch [
      | then-last_decides-via-then-last_decides w ↦ inl (sym c.last_decides.ensures ∙ w.if-last_decides.true)
      | then-last_decides-via-else-last_decides+then-not-contains_key w ↦ inr (ap is_some (sym (looked_up c.args.holder c.args.deciders.now.entries)) ∙ sym w.contains_key.ensures ∙ w.if-not-contains_key.true)
    ])

pub returns-else-not-contains_key : goal.returns-else-not-contains_key
returns-else-not-contains_key c =
    noted_kept c.args.deciders.now c.args.holder c.args.document (sym c.last_decides.ensures ∙ c.if-last_decides.false)
    (ap is_some (sym (looked_up c.args.holder c.args.deciders.now.entries)) ∙ sym c.contains_key.ensures ∙ c.if-not-contains_key.false)
