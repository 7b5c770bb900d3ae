use Rattle.std.proofs.Common.{◌≡◌, ◌++◌}
use Rattle.serde_json.specs.View.{members_view}
use Rattle.utoipa_check.specs.Places.{visits, members_places}
use Rattle.utoipa_check.specs.Views.{tasks_of, layout_of}
use Rattle.utoipa_check.proofs.task.push_members.Given as goal

abbrev pub invariant-loop-name : goal.invariant-loop-name
invariant-loop-name l = tasks_of l.tasks.items ++ visits (members_places (layout_of l.layout) (members_view l.name-iterator)) ≡ tasks_of l.initial.tasks.items ++ visits (members_places (layout_of l.layout) (members_view l.initial.name-iterator))
