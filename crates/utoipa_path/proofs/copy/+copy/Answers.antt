-- The answers of the functions that copy operations, path items and callbacks.
use Rattle.std.proofs.Common.{◌≡◌, ◌∙◌, ◌∷◌, ◌++◌, Option, option_map, String, Global, refl, sym, ap, arith, rules}
use Rattle.std.proofs.lemmas.Result.{IfOk-weaker, on_ok_weaker}
use Rattle.utoipa_base.specs.Docs.{own_doc, ref_doc}
use Rattle.utoipa_base.specs.Kinds.{named, path_item_object}
use Rattle.utoipa_base.specs.Refs.{ref_or_doc}
use Rattle.utoipa_base.specs.Tables.{callback}
use Rattle.utoipa_base.specs.Views.{option_of, map_of_docs}
use Rattle.utoipa_base.specs.declared.refs.RefOr.{RefOr}
use Rattle.utoipa_base.specs.declared.refs.RefOr.TheVariants as places
use Rattle.utoipa_base.proofs.TableParts.{same_field}
use Rattle.utoipa_base.proofs.Weights.{weight, lighter_member, lighter_some, lighter_own}
use Rattle.utoipa_base.proofs.WritingMaps.{copied_begun, copied_step, copied_map}
use Rattle.utoipa_path.specs.Docs.{CallbackOf, operation_doc, path_item_doc, callback_doc, callbacks_doc, operations_of}
use Rattle.utoipa_leaf.specs.declared.path.HttpMethod.TheVariants.{Post, Put, Delete, Head, Patch, Trace}
use Rattle.utoipa_path.specs.Builders.{PathItemFields, Operations}
use Rattle.utoipa_path.specs.Methods.{with_method}
use Rattle.utoipa_path.specs.declared.types.Operation.{Operation}
use Rattle.utoipa_path.specs.declared.types.PathItem.{PathItem, out-PathItem, roll-PathItem, out-roll-PathItem}
use Rattle.utoipa_path.proofs.Built.{built_where_done}
use Rattle.utoipa_path.proofs.Weights.{held_by_operation, lighter_operations, among_operations, among_methods}
use Rattle.utoipa_path.proofs.copy.+copy.Goals as goal

pub clone_operation-clone_callback_map-requires : goal.clone_operation-clone_callback_map-requires
clone_operation-clone_callback_map-requires t c = (omega (arith, held_by_operation c.args.operation.now), tt)

pub clone_operation-returns : goal.clone_operation-returns
clone_operation-returns t c = IfOk-weaker c.clone_operation_with.result _ _ (λ copy h. h c.in_ok-callbacks.ensures) c.clone_operation_with.ensures

pub copy_path_item-copy_operations-requires : goal.copy_path_item-copy_operations-requires
copy_path_item-copy_operations-requires t c = (omega (arith, lighter_operations c.args.item.now), tt)

pub copy_path_item-returns : goal.copy_path_item-returns
copy_path_item-returns t c = on_ok_weaker c.copy_beside_operations.result (λ h. h c.in_ok-copy_operations.ensures) c.copy_beside_operations.ensures

pub clone_boxed_path_item-copy_path_item-requires : goal.clone_boxed_path_item-copy_path_item-requires
clone_boxed_path_item-copy_path_item-requires t c = (omega arith, tt)

pub clone_boxed_path_item-returns : goal.clone_boxed_path_item-returns
clone_boxed_path_item-returns t c = built_where_done c.copy_path_item.result _ _ (λ copy. path_item_doc copy.value ≡ path_item_doc c.args.item.now) c.and.ensures c.copy_path_item.ensures

pub put_ref_or_path_item-clone_boxed_path_item-requires : goal.put_ref_or_path_item-clone_boxed_path_item-requires
put_ref_or_path_item-clone_boxed_path_item-requires t c =
    let whole : ref_or_doc (named path_item_object) path_item_doc c.args.place.now ≡ own_doc (path_item_doc c.in-T.item) = ap (ref_or_doc (named path_item_object) path_item_doc) c.in-T.is in
    (omega (arith, ap weight whole, lighter_own (path_item_doc c.in-T.item)), tt)

pub put_ref_or_path_item-returns-in_ok-try_clone-in-Ref : goal.put_ref_or_path_item-returns-in_ok-try_clone-in-Ref
put_ref_or_path_item-returns-in_ok-try_clone-in-Ref t c =
    let copy = c.in_ok-try_clone-in-Ref.field-0 in
    on_ok_weaker c.put_reference.result
    (λ put. (places.Ref copy, ap (ref_doc (named path_item_object)) c.in_ok-try_clone-in-Ref.ensures ∙ sym (ap (ref_or_doc (named path_item_object) path_item_doc) c.in-Ref.is), put))
    c.put_reference.ensures

pub put_ref_or_path_item-returns-in_ok-clone_boxed_path_item-in-T : goal.put_ref_or_path_item-returns-in_ok-clone_boxed_path_item-in-T
put_ref_or_path_item-returns-in_ok-clone_boxed_path_item-in-T t c =
    let copy = c.in_ok-clone_boxed_path_item-in-T.field-0 in
    on_ok_weaker c.put_boxed.result
    (λ put. (places.T copy.value, ap own_doc c.in_ok-clone_boxed_path_item-in-T.ensures ∙ sym (ap (ref_or_doc (named path_item_object) path_item_doc) c.in-T.is), put))
    c.put_boxed.ensures

pub copy_callback-put_ref_or_path_item-requires : goal.copy_callback-put_ref_or_path_item-requires
copy_callback-put_ref_or_path_item-requires t c =
    let e : String Global × RefOr PathItem = (c.in-Some.key.now, c.in-Some.member.now) in
    let all : c.args.callback.now.entries ≡ c.loop-key.invariant.done ++ e ∷ c.next.new.self = c.loop-key.invariant.split ∙ ap (λ es. c.loop-key.invariant.done ++ es) c.in-Some.ensures.steps in
    (omega (arith, lighter_member (ref_or_doc (named path_item_object) path_item_doc) c.args.callback.now.entries c.loop-key.invariant.done e c.next.new.self all), tt)

pub copy_callback-loop-key-init : goal.copy_callback-loop-key-init
copy_callback-loop-key-init t c = copied_begun (ref_or_doc (named path_item_object) path_item_doc) _ _ _ (c.into_iter-key-iterator.ensures.into_iter_gives ∙ c.iter-key-items.ensures.rest) c.requires

pub copy_callback-loop-key-preserved : goal.copy_callback-loop-key-preserved
copy_callback-loop-key-preserved t c =
    let put = c.in_ok-put_ref_or_path_item.ensures in
    copied_step (ref_or_doc (named path_item_object) path_item_doc) _ _ _ _ _ _ _ _ c.loop-key.invariant c.in-Some.ensures.steps c.iter-key-items.ensures.ordered c.in_ok-name.ensures.cases put.1 put.2

pub copy_callback-returns : goal.copy_callback-returns
copy_callback-returns t c = copied_map (ref_or_doc (named path_item_object) path_item_doc) c.args.callback.now c.loop-key.copy _ c.loop-key.invariant c.in-None.ensures.steps.0

pub clone_callback-copy_callback-requires : goal.clone_callback-copy_callback-requires
clone_callback-copy_callback-requires t c = (omega arith, search rules)

pub clone_callback-returns : goal.clone_callback-returns
clone_callback-returns t c = built_where_done c.copy_callback.result _ _ (λ copy. callback_doc copy ≡ callback_doc c.args.callback.now) c.and.ensures c.copy_callback.ensures

pub clone_ref_or_callback-clone_callback-requires : goal.clone_ref_or_callback-clone_callback-requires
clone_ref_or_callback-clone_callback-requires t c =
    let whole : ref_or_doc callback callback_doc c.args.place.now ≡ own_doc (callback_doc c.in-T.value) = ap (ref_or_doc callback callback_doc) c.in-T.is in
    (omega (arith, ap weight whole, lighter_own (callback_doc c.in-T.value)), tt)

pub clone_ref_or_callback-returns-in_ok-try_clone-in-Ref : goal.clone_ref_or_callback-returns-in_ok-try_clone-in-Ref
clone_ref_or_callback-returns-in_ok-try_clone-in-Ref t c = ap (ref_doc callback) c.in_ok-try_clone-in-Ref.ensures ∙ sym (ap (ref_or_doc callback callback_doc) c.in-Ref.is)

pub clone_ref_or_callback-returns-in_ok-clone_callback-in-T : goal.clone_ref_or_callback-returns-in_ok-clone_callback-in-T
clone_ref_or_callback-returns-in_ok-clone_callback-in-T t c = ap own_doc c.in_ok-clone_callback-in-T.ensures ∙ sym (ap (ref_or_doc callback callback_doc) c.in-T.is)

pub clone_callback_map-copy_callback_map-requires : goal.clone_callback_map-copy_callback_map-requires
clone_callback_map-copy_callback_map-requires t c = (omega arith, search rules)

pub clone_callback_map-returns : goal.clone_callback_map-returns
clone_callback_map-returns t c = built_where_done c.copy_callback_map.result _ _ (λ copy. callbacks_doc copy ≡ callbacks_doc c.args.callbacks.now) c.and.ensures c.copy_callback_map.ensures

pub copy_callback_map-clone_ref_or_callback-requires : goal.copy_callback_map-clone_ref_or_callback-requires
copy_callback_map-clone_ref_or_callback-requires t c =
    let e : String Global × RefOr (CallbackOf PathItem) = (c.in-Some.key.now, c.in-Some.member.now) in
    let all : c.args.callbacks.now.entries ≡ c.loop-key.invariant.done ++ e ∷ c.next.new.self = c.loop-key.invariant.split ∙ ap (λ es. c.loop-key.invariant.done ++ es) c.in-Some.ensures.steps in
    (omega (arith, lighter_member (ref_or_doc callback callback_doc) c.args.callbacks.now.entries c.loop-key.invariant.done e c.next.new.self all), tt)

pub copy_callback_map-loop-key-init : goal.copy_callback_map-loop-key-init
copy_callback_map-loop-key-init t c = copied_begun (ref_or_doc callback callback_doc) _ _ _ (c.into_iter-key-iterator.ensures.into_iter_gives ∙ c.iter-key-items.ensures.rest) c.requires

pub copy_callback_map-loop-key-preserved : goal.copy_callback_map-loop-key-preserved
copy_callback_map-loop-key-preserved t c = copied_step (ref_or_doc callback callback_doc) _ _ _ _ _ _ _ _ c.loop-key.invariant c.in-Some.ensures.steps c.iter-key-items.ensures.ordered c.in_ok-name.ensures.cases c.in_ok-value.ensures c.in_ok-put.ensures

pub copy_callback_map-returns : goal.copy_callback_map-returns
copy_callback_map-returns t c = copied_map (ref_or_doc callback callback_doc) c.args.callbacks.now c.loop-key.copy _ c.loop-key.invariant c.in-None.ensures.steps.0

pub clone_operation_map-copy_operation_map-requires : goal.clone_operation_map-copy_operation_map-requires
clone_operation_map-copy_operation_map-requires t c = (omega arith, search rules)

pub clone_operation_map-returns : goal.clone_operation_map-returns
clone_operation_map-returns t c = built_where_done c.copy_operation_map.result _ _ (λ copy. map_of_docs operation_doc copy ≡ map_of_docs operation_doc c.args.operations.now) c.and.ensures c.copy_operation_map.ensures

pub copy_operation_map-clone_operation-requires : goal.copy_operation_map-clone_operation-requires
copy_operation_map-clone_operation-requires t c =
    let e : String Global × Operation = (c.in-Some.key.now, c.in-Some.member.now) in
    let all : c.args.operations.now.entries ≡ c.loop-key.invariant.done ++ e ∷ c.next.new.self = c.loop-key.invariant.split ∙ ap (λ es. c.loop-key.invariant.done ++ es) c.in-Some.ensures.steps in
    (omega (arith, lighter_member operation_doc c.args.operations.now.entries c.loop-key.invariant.done e c.next.new.self all), tt)

pub copy_operation_map-loop-key-init : goal.copy_operation_map-loop-key-init
copy_operation_map-loop-key-init t c = copied_begun operation_doc _ _ _ (c.into_iter-key-iterator.ensures.into_iter_gives ∙ c.iter-key-items.ensures.rest) c.requires

pub copy_operation_map-loop-key-preserved : goal.copy_operation_map-loop-key-preserved
copy_operation_map-loop-key-preserved t c = copied_step operation_doc _ _ _ _ _ _ _ _ c.loop-key.invariant c.in-Some.ensures.steps c.iter-key-items.ensures.ordered c.in_ok-name.ensures.cases c.in_ok-value.ensures c.in_ok-put.ensures

pub copy_operation_map-returns : goal.copy_operation_map-returns
copy_operation_map-returns t c = copied_map operation_doc c.args.operations.now c.loop-key.copy _ c.loop-key.invariant c.in-None.ensures.steps.0

pub clone_method-clone_operation-requires : goal.clone_method-clone_operation-requires
clone_method-clone_operation-requires t c = (omega (arith, ap (λ o. weight (option_of operation_doc (option_map (λ b. b.now) o))) c.in-Some.is, lighter_some (operation_doc c.in-Some.operation.now)), tt)

pub copy_method-clone_method-requires : goal.copy_method-clone_method-requires
copy_method-clone_method-requires t c = (omega (arith, ap (λ o. weight (option_of operation_doc o)) c.operation.ensures, among_methods c.args.method c.args.item.now), tt)

pub copy_further_methods-clone_method-requires : goal.copy_further_methods-clone_method-requires
copy_further_methods-clone_method-requires t c = (omega (arith, ap (λ o. weight (option_of operation_doc o)) c.as_ref.ensures.value, (among_operations c.args.item.now).8), tt)

pub copy_further_methods-clone_operation_map-requires : goal.copy_further_methods-clone_operation_map-requires
copy_further_methods-clone_operation_map-requires t c = (omega (arith, (among_operations c.args.item.now).9), tt)

pub copy_further_methods-returns : goal.copy_further_methods-returns
copy_further_methods-returns t c =
    let query = c.replace.new.dest in
    let additional = c.replace-2.new.dest in
    let with_query : PathItemFields = record (out-PathItem c.args.copy.now) { query = query } in (
      query,
      additional,
      ap (option_of operation_doc) c.replace.ensures.after ∙ c.in_ok-query.ensures ∙ ap (option_of operation_doc) c.as_ref.ensures.value,
      ap (map_of_docs operation_doc) c.replace-2.ensures.after ∙ c.in_ok-additional.ensures,
      out-roll-PathItem (record (out-PathItem (roll-PathItem with_query)) { additional_operations = additional })
          ∙ ap {A = PathItemFields} (λ i. record i { additional_operations = additional }) (out-roll-PathItem with_query),
    )

pub copy_main_methods-returns : goal.copy_main_methods-returns
copy_main_methods-returns t c =
    let get = c.in_ok-copy_method.ensures in
    let put = c.in_ok-copy_method-2.ensures in
    let post = c.in_ok-copy_method-3.ensures in
    let delete = c.in_ok-copy_method-4.ensures in (
      get.0,
      put.0,
      post.0,
      delete.0,
      get.1,
      put.1,
      post.1,
      delete.1,
      delete.2 ∙ ap (with_method Delete delete.0) (post.2 ∙ ap (with_method Post post.0) (put.2 ∙ ap (with_method Put put.0) get.2)),
    )

pub copy_other_methods-returns : goal.copy_other_methods-returns
copy_other_methods-returns t c =
    let options = c.in_ok-copy_method.ensures in
    let head = c.in_ok-copy_method-2.ensures in
    let patch = c.in_ok-copy_method-3.ensures in
    let trace = c.in_ok-copy_method-4.ensures in (
      options.0,
      head.0,
      patch.0,
      trace.0,
      options.1,
      head.1,
      patch.1,
      trace.1,
      trace.2 ∙ ap (with_method Trace trace.0) (patch.2 ∙ ap (with_method Patch patch.0) (head.2 ∙ ap (with_method Head head.0) options.2)),
    )

abbrev with_other : (options head patch trace : Option Operation) → PathItemFields → PathItemFields
with_other options head patch trace i = record i { options = options; head = head; patch = patch; trace = trace }

abbrev with_further : Option Operation → Operations → PathItemFields → PathItemFields
with_further query additional i = record i { query = query; additional_operations = additional }

pub copy_operations-returns : goal.copy_operations-returns
copy_operations-returns t c =
    let main = c.in_ok-copy_main_methods.ensures in
    let other = c.in_ok-copy_other_methods.ensures in
    let further = c.in_ok-copy_further_methods.ensures in
    ap (operations_of operation_doc) (further.4 ∙ ap (with_further further.0 further.1) (other.8 ∙ ap (with_other other.0 other.1 other.2 other.3) main.8))
    ∙ (same_field _ _ _ _ further.3
    (same_field _ _ _ _ main.7
    (same_field _ _ _ _ main.4
    (same_field _ _ _ _ other.5
    (same_field _ _ _ _ other.4
    (same_field _ _ _ _ other.6
    (same_field _ _ _ _ main.6
    (same_field _ _ _ _ main.5
    (same_field _ _ _ _ further.2
    (same_field _ _ _ _ other.7 refl))))))))))
