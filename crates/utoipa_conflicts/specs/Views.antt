-- What the values of the program stand for.
use Rattle.std.specs.Prelude.{List, [], map, string_bytes}
use Rattle.serde_json.specs.View.{view}
use Rattle.utoipa_check.specs.Views.{outwards}
use Rattle.utoipa_conflicts.specs.Conflicts as specs
use Rattle.utoipa_conflicts.specs.declared.conflict.Conflict.{Conflict}
use Rattle.utoipa_conflicts.specs.Merged.{Told}
use Rattle.utoipa_conflicts.specs.Nested as specs_nested
use Rattle.utoipa_conflicts.specs.declared.holder.Holder.{Holder}
use Rattle.utoipa_conflicts.specs.declared.holder.Holder.TheVariants as holders
use Rattle.utoipa_conflicts.specs.declared.nested.ItemAt.{ItemAt}
use Rattle.utoipa_conflicts.specs.declared.slot.Filled.{Filled}
use Rattle.utoipa_conflicts.specs.declared.slot.Slot.{Slot}
use Rattle.utoipa_conflicts.specs.declared.slot.Slot.TheVariants as slots
use Rattle.utoipa_conflicts.specs.declared.told.DocumentConflict.{DocumentConflict}

abbrev pub holder_of : Holder → specs.Holder
holder_of holders.Document = specs.document
holder_of (holders.Component kind name) = specs.component kind.now name.now
holder_of (holders.PathEntry path) = specs.path_entry path.now
holder_of (holders.ItemMember path name) = specs.item_member path.now name.now
holder_of (holders.AdditionalOperation path name) = specs.additional_operation path.now name.now

abbrev pub all_holders : List Holder → List specs.Holder
all_holders hs = map holder_of hs

abbrev pub slot_of : Slot → specs.Slot
slot_of (slots.DocumentMember name) = specs.document_member name.now
slot_of (slots.ComponentEntry kind name) = specs.component_entry kind.now name.now
slot_of (slots.ComponentsExtension name) = specs.components_extension name.now
slot_of (slots.PathsExtension name) = specs.paths_extension name.now
slot_of (slots.Operation path method) = specs.operation path.now method.now
slot_of (slots.NamedOperation path name) = specs.named_operation path.now name.now
slot_of (slots.BaseMember path name) = specs.base_member path.now name.now

abbrev pub filled_of : Filled → specs.Filled
filled_of s = (slot_of s.slot, view s.value.now)

abbrev pub all_filled : List Filled → List specs.Filled
all_filled ss = map filled_of ss

abbrev pub conflict_of : Conflict → specs.Conflict
conflict_of c = (outwards c.pointer.steps.items [], c.kept, c.dropped)

abbrev pub all_conflicts : List Conflict → List specs.Conflict
all_conflicts cs = map conflict_of cs

abbrev pub told_of : DocumentConflict → Told
told_of c = (string_bytes c.pointer, c.kept, c.dropped)

abbrev pub all_told : List DocumentConflict → List Told
all_told cs = map told_of cs

abbrev pub item_of : ItemAt → specs_nested.ItemAt
item_of i = (i.path.now, view i.item.now)

abbrev pub all_items : List ItemAt → List specs_nested.ItemAt
all_items is = map item_of is
