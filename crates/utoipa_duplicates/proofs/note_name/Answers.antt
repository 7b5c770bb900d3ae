use Rattle.std.proofs.Common.{◌∙◌, ap, sym, ◌++◌}
use Rattle.std.proofs.lemmas.List.{append-nil}
use Rattle.utoipa_duplicates.specs.Views.{places_of}
use Rattle.utoipa_duplicates.proofs.Places.{one_more_name, not_again, stands_again}
use Rattle.utoipa_duplicates.proofs.note_name.Goals as goal

pub returns-then-is_new : goal.returns-then-is_new
returns-then-is_new c names known =
    let name = c.args.name in
    let done = c.in_ok-is_new.ensures in
    let old = places_of c.args.found.now.items in (
      λ q. done.updates.0 q ∙ one_more_name name.now q.now names _ (known q),
      sym (append-nil old) ∙ ap (λ r. old ++ r) (sym (not_again name.now names c.in_ok-is_new.is_new _ done.added (known name) c.if-is_new.true)),
    )
