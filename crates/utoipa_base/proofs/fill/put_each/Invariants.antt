use Rattle.std.proofs.Common.{◌≡◌}
use Rattle.utoipa_base.specs.Fill.{put_each}
use Rattle.utoipa_base.proofs.fill.put_each.Given as goal

abbrev pub invariant-loop-name : goal.invariant-loop-name
invariant-loop-name g l = l.map.entries ≡ put_each l.yielded l.initial.map.entries
