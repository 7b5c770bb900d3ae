use Rattle.std.proofs.Common.{◌≡◌, ◌++◌, drop}
use Rattle.serde_json.specs.View.{items_view, members_view}
use Rattle.utoipa_adapt.specs.Adapted.{items_told, members_told}
use Rattle.utoipa_adapt.specs.Views.{set_of, all_told}
use Rattle.utoipa_tables.specs.Tables.{kind_of}
use Rattle.utoipa_adapt.proofs.telling.+told.Given as goal

abbrev pub invariant-told_of_items-loop-item : goal.invariant-told_of_items-loop-item
invariant-told_of_items-loop-item l = record {
  counted : l.index ≡ l.item-index;
  found : all_told l.told.items ++ items_told (set_of l.set) l.item-index (items_view (drop l.item-index l.items.items)) (kind_of l.kind) ≡ items_told (set_of l.set) 0 (items_view l.items.items) (kind_of l.kind);
}

abbrev pub invariant-told_of_members-loop-name : goal.invariant-told_of_members-loop-name
invariant-told_of_members-loop-name l = all_told l.told.items ++ members_told (set_of l.set) (members_view l.name-iterator) (kind_of l.kind) ≡ members_told (set_of l.set) (members_view l.initial.name-iterator) (kind_of l.kind)
