use Rattle.std.proofs.Common.{◌≡◌}
use Rattle.utoipa_base.specs.Fill.{put_each}
use Rattle.utoipa_operation_parts.proofs.traits.put_responses.Given as goal

abbrev pub invariant-loop-code : goal.invariant-loop-code
invariant-loop-code l = put_each l.code-iterator l.responses.entries ≡ put_each l.fn.later.entries l.initial.responses.entries
