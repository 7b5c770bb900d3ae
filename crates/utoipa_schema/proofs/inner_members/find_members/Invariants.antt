use Rattle.std.proofs.Common.{◌≡◌}
use Rattle.serde_json.specs.View.{members_view}
use Rattle.utoipa_schema.specs.Places.{data_of}
use Rattle.utoipa_schema.proofs.Noting.{noted_all}
use Rattle.utoipa_schema.proofs.inner_members.find_members.Given as goal

abbrev pub invariant-loop-name : goal.invariant-loop-name
invariant-loop-name l = noted_all (members_view l.name-iterator) (data_of l.members) ≡ noted_all (members_view l.initial.name-iterator) (data_of l.initial.members)
