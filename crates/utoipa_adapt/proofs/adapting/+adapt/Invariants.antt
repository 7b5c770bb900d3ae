use Rattle.std.proofs.Common.{◌≡◌, List, ◌++◌, map}
use Rattle.serde_json.specs.View.{view, members_view}
use Rattle.serde_json.proofs.Views.{Entry}
use Rattle.utoipa_adapt.specs.Adapted.{made_members}
use Rattle.utoipa_adapt.specs.Views.{set_of}
use Rattle.utoipa_adapt.proofs.Turns.{each_made}
use Rattle.utoipa_tables.specs.Tables.{kind_of}
use Rattle.utoipa_adapt.proofs.adapting.+adapt.Given as goal

abbrev pub invariant-adapt_items-loop-item : goal.invariant-adapt_items-loop-item
invariant-adapt_items-loop-item l = record {
  passed : l.yielded ++ l.item-iterator.rest.items ≡ l.fn.items.items;
  adapted : map view l.done.items ≡ each_made (set_of l.set) (kind_of l.kind) l.yielded;
}

abbrev pub invariant-adapt_members-loop-name : goal.invariant-adapt_members-loop-name
invariant-adapt_members-loop-name l = record {
  passed : List Entry;
  all : l.fn.members.entries ≡ passed ++ l.name-iterator;
  adapted : members_view l.done.entries ≡ made_members (set_of l.set) (members_view passed) (kind_of l.kind);
}
