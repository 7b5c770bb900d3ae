use Rattle.std.proofs.Common.{◌≡◌, ◌++◌}
use Rattle.serde_json.specs.View.{members_view}
use Rattle.utoipa_base.specs.EachMember.{each_member}
use Rattle.utoipa_conflicts.specs.Holders.{EachMember, IsApart, component_holders}
use Rattle.utoipa_conflicts.specs.Views.{all_holders}
use Rattle.utoipa_conflicts.proofs.holder.push_components.Given as goal

abbrev pub invariant-loop-kind : goal.invariant-loop-kind
invariant-loop-kind l = record {
  listed :
      all_holders l.holders.items ++ each_member component_holders (members_view l.kind-iterator)
      ≡ all_holders l.initial.holders.items ++ each_member component_holders (members_view l.initial.kind-iterator);
  apart : EachMember IsApart (members_view l.kind-iterator) → EachMember IsApart (members_view l.initial.kind-iterator);
}
