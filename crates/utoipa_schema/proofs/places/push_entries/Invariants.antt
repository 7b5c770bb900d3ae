use Rattle.std.proofs.Common.{◌≡◌, ◌++◌}
use Rattle.serde_json.specs.View.{members_view}
use Rattle.utoipa_schema.specs.Places.{places, next_entries}
use Rattle.utoipa_schema.proofs.places.push_entries.Given as goal

abbrev pub invariant-loop-name : goal.invariant-loop-name
invariant-loop-name l = places l.stack.items ++ next_entries l.may_be_reference (members_view l.name-iterator) ≡ places l.initial.stack.items ++ next_entries l.may_be_reference (members_view l.initial.name-iterator)
