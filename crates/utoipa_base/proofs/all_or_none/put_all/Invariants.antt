use Rattle.std.proofs.Common.{◌≡◌}
use Rattle.utoipa_base.specs.AllOrNone.{undone}
use Rattle.utoipa_base.specs.Fill.{put_each}
use Rattle.utoipa_base.proofs.all_or_none.put_all.Given as goal

abbrev pub invariant-loop-name : goal.invariant-loop-name
invariant-loop-name g l = record {
  taken : put_each l.name-iterator l.map.entries ≡ put_each l.initial.name-iterator l.initial.map.entries;
  undone : undone l.replaced.items l.map.entries ≡ l.initial.map.entries;
}
