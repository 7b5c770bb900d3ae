use Rattle.std.proofs.Common.{◌≡◌}
use Rattle.serde_json.specs.View.{members_view}
use Rattle.utoipa_base.specs.Extensions.{all_extensions}
use Rattle.utoipa_base.proofs.unambiguous.all_are_extensions.Given as goal

abbrev pub invariant-loop-name : goal.invariant-loop-name
invariant-loop-name l = all_extensions (members_view l.initial.name-iterator) ≡ all_extensions (members_view l.name-iterator)
