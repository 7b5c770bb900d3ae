use Rattle.std.proofs.Common.{◌≡◌, ◌++◌, ◌∷◌, []}
use Rattle.serde_json.specs.View.{members_view}
use Rattle.utoipa_base.specs.EachMember.{each_member}
use Rattle.utoipa_conflicts.specs.Conflicts.{additional_operation}
use Rattle.utoipa_conflicts.specs.Views.{all_holders}
use Rattle.utoipa_conflicts.proofs.holder.push_additional.Given as goal

abbrev pub invariant-loop-name : goal.invariant-loop-name
invariant-loop-name l =
    all_holders l.holders.items ++ each_member (λ name e. additional_operation l.path name ∷ []) (members_view l.name-iterator)
    ≡ all_holders l.initial.holders.items ++ each_member (λ name e. additional_operation l.path name ∷ []) (members_view l.initial.name-iterator)
