use Rattle.std.proofs.Common.{◌∙◌, ◌++◌, Some, map, string_bytes, sym, ap}
use Rattle.utoipa_path.specs.Lists.{items_if_any}
use Rattle.utoipa_path.specs.declared.types.Operation.{Operation, Operation-F, out-Operation, roll-Operation, out-roll-Operation}
use Rattle.utoipa_path.specs.declared.types.PathItem.{PathItem}
use Rattle.utoipa.specs.Tags.{texts_of, or_module, nested_texts}
use Rattle.utoipa.proofs.FurtherTags.{tags_changed, list_of_texts, texts_of_list}
use Rattle.utoipa.proofs.tags.tag_operation.Goals as goal

pub returns : goal.returns
returns c =
    let own = out-Operation c.args.operation.now in
    let without : Operation-F Operation PathItem = record own { tags = c.replace-own.new.dest } in
    let list = c.in_ok-tags_or_module.field-0 in
    let further = texts_of c.args.tags.now.items in
    let path = c.args.module_path.now in
    let behind = c.in_ok-tags.ensures ∙ ap (λ ts. ts ++ further) (ap (λ o. map string_bytes (items_if_any o)) c.replace-own.ensures.value ∙ sym (texts_of_list own.tags)) in
    tags_changed (nested_texts further path) c.args.operation.now _ list
    (out-roll-Operation (record (out-Operation (roll-Operation without)) { tags = Some list }) ∙ ap {A = Operation-F Operation PathItem} (λ i. record i { tags = Some list }) (out-roll-Operation without))
    (list_of_texts list _ (c.in_ok-tags_or_module.ensures ∙ ap (or_module path) behind))
