use Rattle.std.proofs.Common.{◌≡◌, List, ◌++◌}
use Rattle.serde_json.proofs.Views.{Entry}
use Rattle.serde_json.specs.View.{members_view}
use Rattle.utoipa_base.proofs.extensions.copied_members.Given as goal

abbrev pub invariant-loop-name : goal.invariant-loop-name
invariant-loop-name l = (done : List Entry) × (l.initial.name-iterator ≡ done ++ l.name-iterator) × (members_view l.copies.entries ≡ members_view done)
