use Rattle.std.proofs.Common.{◌≡◌, List, ◌++◌}
use Rattle.serde_json.proofs.Views.{Entry}
use Rattle.serde_json.specs.View.{members_view}
use Rattle.utoipa_base.specs.Extensions.{extension_members}
use Rattle.utoipa_base.proofs.extensions.trees.read_extensions.Given as goal

abbrev pub invariant-loop-key : goal.invariant-loop-key
invariant-loop-key l = (done : List Entry) × (l.initial.key-iterator ≡ done ++ l.key-iterator) × (members_view l.entries.entries ≡ extension_members (members_view done))
