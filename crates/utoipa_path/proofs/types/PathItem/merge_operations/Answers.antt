use Rattle.std.proofs.Common.{◌≡◌, [], ◌∷◌, codes, ap, ◌∙◌, sym, subst}
use Rattle.std.specs.Option.{option_or}
use Rattle.std.specs.BTreeMap.{get_by_text}
use Rattle.utoipa_merging.specs.Merged.{IsInOrder, IsItemMerged}
use Rattle.utoipa_merging.specs.Slots.{field_at}
use Rattle.utoipa_path.specs.Builders.{PathItemFields}
use Rattle.utoipa_path.specs.Docs.{operation_doc, path_item_layer}
use Rattle.utoipa_path.specs.Methods.{filled}
use Rattle.utoipa_path.proofs.FilledItem.{filled_item, same_additional, additional_in_order}
use Rattle.utoipa_path.specs.declared.types.PathItem.{out-PathItem, roll-PathItem, out-roll-PathItem}
use Rattle.utoipa_path.proofs.types.PathItem.merge_operations.Goals as goal

pub returns-in-Err-clause-err : goal.returns-in-Err-clause-err
returns-in-Err-clause-err c = ap (path_item_layer operation_doc) (out-roll-PathItem _) ∙ same_additional (out-PathItem c.args.self.now) c.fill_missing.new.map c.in-Err.ensures.err

-- the item, once its additional operations were filled in, and the other one, once it has none
abbrev with_additional : (c : goal.After-drop) → PathItemFields
with_additional c = record (out-PathItem c.args.self.now) { additional_operations = c.fill_missing.new.map }

abbrev without_additional : (c : goal.After-drop) → PathItemFields
without_additional c = record (out-PathItem c.args.other) { additional_operations = c.replace-additional.new.dest }

-- the fields of the item afterwards
merged_fields : (c : goal.After-drop) → out-PathItem c.replace.new.dest ≡ filled (with_additional c) (out-PathItem c.args.other)
merged_fields c =
    ap out-PathItem c.replace.ensures.after
    ∙ c.with_missing_of.ensures
    ∙ ap (λ i. filled (out-PathItem i) (out-PathItem (roll-PathItem (without_additional c)))) c.replace-own.ensures.value
    ∙ ap (λ i. filled i (out-PathItem (roll-PathItem (without_additional c)))) (out-roll-PathItem (with_additional c))
    ∙ ap (filled (with_additional c)) (out-roll-PathItem (without_additional c))

pub returns-in-Ok-clause-ok : goal.returns-in-Ok-clause-ok
returns-in-Ok-clause-ok c =
    subst (λ i. IsItemMerged (path_item_layer operation_doc (out-PathItem c.args.self.now) ∷ path_item_layer operation_doc (out-PathItem c.args.other) ∷ []) (path_item_layer operation_doc i)) (sym (merged_fields c))
    (filled_item (out-PathItem c.args.self.now) (out-PathItem c.args.other) c.fill_missing.new.map
    (λ name. c.in-Ok.ensures.ok name ∙ ap (λ m. option_or (get_by_text (out-PathItem c.args.self.now).additional_operations name) (get_by_text m name)) c.replace-additional.ensures.value))

pub returns-in-Ok-clause-ordered : goal.returns-in-Ok-clause-ordered
returns-in-Ok-clause-ordered c = λ before.
    subst (λ i. IsInOrder (field_at (codes "additionalOperations") (path_item_layer operation_doc i))) (sym (merged_fields c))
    (additional_in_order (out-PathItem c.args.self.now) (out-PathItem c.args.other) c.fill_missing.new.map c.in-Ok.ensures.ordered before)
