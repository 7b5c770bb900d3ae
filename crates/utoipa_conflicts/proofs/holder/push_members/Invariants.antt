use Rattle.std.proofs.Common.{◌≡◌, ◌++◌}
use Rattle.serde_json.specs.View.{members_view}
use Rattle.utoipa_base.specs.EachMember.{each_member}
use Rattle.utoipa_conflicts.specs.Holders.{EachMember, IsMemberApart, item_holders}
use Rattle.utoipa_conflicts.specs.Views.{all_holders}
use Rattle.utoipa_conflicts.proofs.holder.push_members.Given as goal

abbrev pub invariant-loop-name : goal.invariant-loop-name
invariant-loop-name l = record {
  listed :
      all_holders l.holders.items ++ each_member (item_holders l.path) (members_view l.name-iterator)
      ≡ all_holders l.initial.holders.items ++ each_member (item_holders l.path) (members_view l.initial.name-iterator);
  apart : EachMember IsMemberApart (members_view l.name-iterator) → EachMember IsMemberApart (members_view l.initial.name-iterator);
}
