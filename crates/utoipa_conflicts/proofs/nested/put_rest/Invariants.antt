use Rattle.std.proofs.Common.{◌≡◌, ◌++◌, [], drop, if◌then◌else◌, Some}
use Rattle.std.specs.List.{flat_map}
use Rattle.serde_json.specs.View.{view}
use Rattle.utoipa_conflicts.specs.Conflicts.{dropped_by}
use Rattle.utoipa_conflicts.specs.Nested.{own_decides}
use Rattle.utoipa_conflicts.specs.Views.{all_conflicts, all_filled}
use Rattle.utoipa_conflicts.proofs.nested.put_rest.Given as goal

abbrev pub invariant-loop-filled : goal.invariant-loop-filled
invariant-loop-filled l =
    all_conflicts l.found.items ++ flat_map (λ s. if own_decides s.0 (view l.own) then dropped_by 1 s (Some (0, view l.own)) else []) (all_filled (drop l.filled-index l.slots.items))
    ≡ all_conflicts l.initial.found.items ++ flat_map (λ s. if own_decides s.0 (view l.own) then dropped_by 1 s (Some (0, view l.own)) else []) (all_filled l.slots.items)
