use Rattle.std.proofs.Common.{◌≡◌, ◌++◌}
use Rattle.serde_json.specs.View.{members_view}
use Rattle.utoipa_base.specs.EachMember.{each_member}
use Rattle.utoipa_conflicts.specs.Holders.{EachMember, IsItemApart, path_holders}
use Rattle.utoipa_conflicts.specs.Views.{all_holders}
use Rattle.utoipa_conflicts.proofs.holder.push_paths.Given as goal

abbrev pub invariant-loop-path : goal.invariant-loop-path
invariant-loop-path l = record {
  listed :
      all_holders l.holders.items ++ each_member path_holders (members_view l.path-iterator)
      ≡ all_holders l.initial.holders.items ++ each_member path_holders (members_view l.initial.path-iterator);
  apart : EachMember IsItemApart (members_view l.path-iterator) → EachMember IsItemApart (members_view l.initial.path-iterator);
}
