-- The answers of the functions that copy schemas.
use Rattle.std.proofs.Common.{◌≡◌, ◌∙◌, ◌<◌, ◌∷◌, ◌++◌, map, length, String, Global, sym, ap, arith, rules}
use Rattle.std.proofs.lemmas.Result.{IfOk-weaker}
use Rattle.utoipa_base.specs.Docs.{some_doc, own_doc, ref_doc, list_doc, docs_of}
use Rattle.utoipa_base.specs.Docs as docs
use Rattle.utoipa_base.specs.Kinds.{schema}
use Rattle.utoipa_base.specs.Refs.{ref_or_doc}
use Rattle.utoipa_base.specs.Views.{boxed, option_of}
use Rattle.utoipa_base.specs.declared.refs.RefOr.{RefOr}
use Rattle.utoipa_schema.specs.Choice.{content_schema_doc}
use Rattle.utoipa_schema.specs.Docs.{additional_properties_doc, schema_doc, array_items_doc, one_of_doc, all_of_doc, any_of_doc, array_doc, object_doc}
use Rattle.utoipa_schema.specs.Folds.{schema-Array, schema-Object, schema-OneOf, schema-AllOf, schema-AnyOf, items-RefOrSchema}
use Rattle.utoipa_schema.specs.declared.types.Schema.{Schema}
use Rattle.utoipa_base.proofs.Weights.{weight, lighter_item, lighter_member, lighter_some, lighter_schema, lighter_own}
use Rattle.utoipa_base.proofs.WritingLists.{copied_item, copied_list}
use Rattle.utoipa_base.proofs.WritingMaps.{copied_begun, copied_step, copied_map}
use Rattle.utoipa_schema.proofs.Weights.{lighter_one_of, lighter_all_of, lighter_any_of, lighter_array, lighter_object}
use Rattle.utoipa_schema.proofs.copy.+copy.Goals as goal

pub clone_schema-clone_array-requires : goal.clone_schema-clone_array-requires
clone_schema-clone_array-requires t c = (omega (arith, ap (λ s. weight (schema_doc s)) c.in-Array.is, ap weight (schema-Array c.in-Array.array), lighter_schema (array_doc c.in-Array.array)), tt)

pub clone_schema-returns-in_ok-clone_array-in-Array : goal.clone_schema-returns-in_ok-clone_array-in-Array
clone_schema-returns-in_ok-clone_array-in-Array t c =
    schema-Array c.in_ok-clone_array-in-Array.field-0 ∙ ap docs.schema_doc c.in_ok-clone_array-in-Array.ensures ∙ sym (ap schema_doc c.in-Array.is ∙ schema-Array c.in-Array.array)

pub clone_schema-clone_object-requires : goal.clone_schema-clone_object-requires
clone_schema-clone_object-requires t c = (omega (arith, ap (λ s. weight (schema_doc s)) c.in-Object.is, ap weight (schema-Object c.in-Object.object), lighter_schema (object_doc c.in-Object.object)), tt)

pub clone_schema-returns-in_ok-clone_object-in-Object : goal.clone_schema-returns-in_ok-clone_object-in-Object
clone_schema-returns-in_ok-clone_object-in-Object t c =
    schema-Object c.in_ok-clone_object-in-Object.field-0 ∙ ap docs.schema_doc c.in_ok-clone_object-in-Object.ensures ∙ sym (ap schema_doc c.in-Object.is ∙ schema-Object c.in-Object.object)

pub clone_schema-clone_one_of-requires : goal.clone_schema-clone_one_of-requires
clone_schema-clone_one_of-requires t c = (omega (arith, ap (λ s. weight (schema_doc s)) c.in-OneOf.is, ap weight (schema-OneOf c.in-OneOf.one_of), lighter_schema (one_of_doc c.in-OneOf.one_of)), tt)

pub clone_schema-returns-in_ok-clone_one_of-in-OneOf : goal.clone_schema-returns-in_ok-clone_one_of-in-OneOf
clone_schema-returns-in_ok-clone_one_of-in-OneOf t c =
    schema-OneOf c.in_ok-clone_one_of-in-OneOf.field-0 ∙ ap docs.schema_doc c.in_ok-clone_one_of-in-OneOf.ensures ∙ sym (ap schema_doc c.in-OneOf.is ∙ schema-OneOf c.in-OneOf.one_of)

pub clone_schema-clone_all_of-requires : goal.clone_schema-clone_all_of-requires
clone_schema-clone_all_of-requires t c = (omega (arith, ap (λ s. weight (schema_doc s)) c.in-AllOf.is, ap weight (schema-AllOf c.in-AllOf.all_of), lighter_schema (all_of_doc c.in-AllOf.all_of)), tt)

pub clone_schema-returns-in_ok-clone_all_of-in-AllOf : goal.clone_schema-returns-in_ok-clone_all_of-in-AllOf
clone_schema-returns-in_ok-clone_all_of-in-AllOf t c =
    schema-AllOf c.in_ok-clone_all_of-in-AllOf.field-0 ∙ ap docs.schema_doc c.in_ok-clone_all_of-in-AllOf.ensures ∙ sym (ap schema_doc c.in-AllOf.is ∙ schema-AllOf c.in-AllOf.all_of)

pub clone_schema-clone_any_of-requires : goal.clone_schema-clone_any_of-requires
clone_schema-clone_any_of-requires t c = (omega (arith, ap (λ s. weight (schema_doc s)) c.in-AnyOf.is, ap weight (schema-AnyOf c.in-AnyOf.any_of), lighter_schema (any_of_doc c.in-AnyOf.any_of)), tt)

pub clone_schema-returns-in_ok-clone_any_of-in-AnyOf : goal.clone_schema-returns-in_ok-clone_any_of-in-AnyOf
clone_schema-returns-in_ok-clone_any_of-in-AnyOf t c =
    schema-AnyOf c.in_ok-clone_any_of-in-AnyOf.field-0 ∙ ap docs.schema_doc c.in_ok-clone_any_of-in-AnyOf.ensures ∙ sym (ap schema_doc c.in-AnyOf.is ∙ schema-AnyOf c.in-AnyOf.any_of)

pub clone_ref_or_schema-clone_schema-requires : goal.clone_ref_or_schema-clone_schema-requires
clone_ref_or_schema-clone_schema-requires t c =
    let whole : ref_or_doc schema schema_doc c.args.place.now ≡ own_doc (schema_doc c.in-T.value) = ap (ref_or_doc schema schema_doc) c.in-T.is in
    (omega (arith, ap weight whole, lighter_own (schema_doc c.in-T.value)), tt)

pub clone_ref_or_schema-returns-in_ok-try_clone-in-Ref : goal.clone_ref_or_schema-returns-in_ok-try_clone-in-Ref
clone_ref_or_schema-returns-in_ok-try_clone-in-Ref t c = ap (ref_doc schema) c.in_ok-try_clone-in-Ref.ensures ∙ sym (ap (ref_or_doc schema schema_doc) c.in-Ref.is)

pub clone_ref_or_schema-returns-in_ok-clone_schema-in-T : goal.clone_ref_or_schema-returns-in_ok-clone_schema-in-T
clone_ref_or_schema-returns-in_ok-clone_schema-in-T t c = ap own_doc c.in_ok-clone_schema-in-T.ensures ∙ sym (ap (ref_or_doc schema schema_doc) c.in-T.is)

pub clone_items-clone_ref_or_schema-requires : goal.clone_items-clone_ref_or_schema-requires
clone_items-clone_ref_or_schema-requires t c =
    let place : c.deref.result.now ≡ c.in-RefOrSchema.place.value = c.deref.ensures in
    let whole : array_items_doc c.args.items.now ≡ ref_or_doc schema schema_doc c.deref.result.now =
    ap array_items_doc c.in-RefOrSchema.is ∙ items-RefOrSchema c.in-RefOrSchema.place ∙ ap (ref_or_doc schema schema_doc) (sym place) in
    (omega (arith, ap weight whole), tt)

pub clone_items-returns-in_ok-new-in-RefOrSchema : goal.clone_items-returns-in_ok-new-in-RefOrSchema
clone_items-returns-in_ok-new-in-RefOrSchema t c =
    let place : c.deref.result.now ≡ c.in-RefOrSchema.place.value = c.deref.ensures in
    let whole : array_items_doc c.args.items.now ≡ ref_or_doc schema schema_doc c.deref.result.now =
    ap array_items_doc c.in-RefOrSchema.is ∙ items-RefOrSchema c.in-RefOrSchema.place ∙ ap (ref_or_doc schema schema_doc) (sym place) in
    let made : c.in_ok-new-in-RefOrSchema.field-0.value ≡ c.in_ok-copied-in-RefOrSchema.copied = search rules in
    items-RefOrSchema c.in_ok-new-in-RefOrSchema.field-0 ∙ ap (ref_or_doc schema schema_doc) made ∙ c.in_ok-copied-in-RefOrSchema.ensures ∙ sym whole

pub clone_items-returns-in-False : goal.clone_items-returns-in-False
clone_items-returns-in-False t c = sym (ap array_items_doc c.in-False.is)

pub clone_additional-clone_ref_or_schema-requires : goal.clone_additional-clone_ref_or_schema-requires
clone_additional-clone_ref_or_schema-requires t c =
    let whole : additional_properties_doc schema_doc c.args.additional.now ≡ ref_or_doc schema schema_doc c.in-RefOr.place = ap (additional_properties_doc schema_doc) c.in-RefOr.is in
    (omega (arith, ap weight whole), tt)

pub clone_additional-returns-in_ok-clone_ref_or_schema-in-RefOr : goal.clone_additional-returns-in_ok-clone_ref_or_schema-in-RefOr
clone_additional-returns-in_ok-clone_ref_or_schema-in-RefOr t c = c.in_ok-clone_ref_or_schema-in-RefOr.ensures ∙ sym (ap (additional_properties_doc schema_doc) c.in-RefOr.is)

pub clone_additional-returns-in-FreeForm : goal.clone_additional-returns-in-FreeForm
clone_additional-returns-in-FreeForm t c = sym (ap (additional_properties_doc schema_doc) c.in-FreeForm.is)

pub clone_schemas-clone_schema-requires : goal.clone_schemas-clone_schema-requires
clone_schemas-clone_schema-requires t c =
    let f = schema_doc in
    let l = c.loop-item in
    let xs = c.deref-item-items.result.now in
    let x = c.item-item.result in
    let within : l.item-index < length xs = omega arith in
    let all : xs ≡ c.args.schemas.now.items = c.deref-item-items.ensures.value in
    (omega (arith, lighter_item f xs l.item-index x within c.item-item.is, ap (λ ys. weight (list_doc (docs_of (map f ys)))) all), tt)

pub clone_schemas-loop-item-preserved : goal.clone_schemas-loop-item-preserved
clone_schemas-loop-item-preserved t c = copied_item schema_doc c.deref-item-items.result.now c.loop-item.item-index c.loop-item.list.items c.push.new.self.items c.item-item.result c.in_ok-clone_schema.field-0 c.loop-item.invariant (omega arith) c.item-item.is c.in_ok-clone_schema.ensures c.in_ok-push.ensures.items

pub clone_schemas-returns : goal.clone_schemas-returns
clone_schemas-returns t c = copied_list schema_doc c.deref-item-items.result.now c.loop-item.item-index c.loop-item.list c.args.schemas.now c.loop-item.invariant (omega arith) c.deref-item-items.ensures.value

pub clone_ref_or_schema_list-clone_ref_or_schema-requires : goal.clone_ref_or_schema_list-clone_ref_or_schema-requires
clone_ref_or_schema_list-clone_ref_or_schema-requires t c =
    let f = (ref_or_doc schema schema_doc) in
    let l = c.loop-item in
    let xs = c.deref-item-items.result.now in
    let x = c.item-item.result in
    let within : l.item-index < length xs = omega arith in
    let all : xs ≡ c.args.places.now.items = c.deref-item-items.ensures.value in
    (omega (arith, lighter_item f xs l.item-index x within c.item-item.is, ap (λ ys. weight (list_doc (docs_of (map f ys)))) all), tt)

pub clone_ref_or_schema_list-loop-item-preserved : goal.clone_ref_or_schema_list-loop-item-preserved
clone_ref_or_schema_list-loop-item-preserved t c = copied_item (ref_or_doc schema schema_doc) c.deref-item-items.result.now c.loop-item.item-index c.loop-item.list.items c.push.new.self.items c.item-item.result c.in_ok-clone_ref_or_schema.field-0 c.loop-item.invariant (omega arith) c.item-item.is c.in_ok-clone_ref_or_schema.ensures c.in_ok-push.ensures.items

pub clone_ref_or_schema_list-returns : goal.clone_ref_or_schema_list-returns
clone_ref_or_schema_list-returns t c = copied_list (ref_or_doc schema schema_doc) c.deref-item-items.result.now c.loop-item.item-index c.loop-item.list c.args.places.now c.loop-item.invariant (omega arith) c.deref-item-items.ensures.value

pub clone_ref_or_schema_map-clone_ref_or_schema-requires : goal.clone_ref_or_schema_map-clone_ref_or_schema-requires
clone_ref_or_schema_map-clone_ref_or_schema-requires t c =
    let e : String Global × RefOr Schema = (c.in-Some.key.now, c.in-Some.member.now) in
    let all : c.args.properties.now.entries ≡ c.loop-key.invariant.done ++ e ∷ c.next.new.self = c.loop-key.invariant.split ∙ ap (λ es. c.loop-key.invariant.done ++ es) c.in-Some.ensures.steps in
    (omega (arith, lighter_member (ref_or_doc schema schema_doc) c.args.properties.now.entries c.loop-key.invariant.done e c.next.new.self all), tt)

pub clone_ref_or_schema_map-loop-key-init : goal.clone_ref_or_schema_map-loop-key-init
clone_ref_or_schema_map-loop-key-init t c = copied_begun (ref_or_doc schema schema_doc) _ _ _ (c.into_iter-key-iterator.ensures.into_iter_gives ∙ c.iter-key-items.ensures.rest) (search rules)

pub clone_ref_or_schema_map-loop-key-preserved : goal.clone_ref_or_schema_map-loop-key-preserved
clone_ref_or_schema_map-loop-key-preserved t c = copied_step (ref_or_doc schema schema_doc) _ _ _ _ _ _ _ _ c.loop-key.invariant c.in-Some.ensures.steps c.iter-key-items.ensures.ordered c.in_ok-name.ensures.cases c.in_ok-value.ensures c.in_ok-insert.ensures.entries

pub clone_ref_or_schema_map-returns : goal.clone_ref_or_schema_map-returns
clone_ref_or_schema_map-returns t c = copied_map (ref_or_doc schema schema_doc) c.args.properties.now c.loop-key.map _ c.loop-key.invariant c.in-None.ensures.steps.0

pub clone_content_schema-clone_ref_or_schema-requires : goal.clone_content_schema-clone_ref_or_schema-requires
clone_content_schema-clone_ref_or_schema-requires t c =
    let place : c.deref.result.now ≡ c.in-Some.place.value = c.deref.ensures in
    let whole : content_schema_doc c.args.content.now ≡ some_doc (ref_or_doc schema schema_doc c.deref.result.now) = ap content_schema_doc c.in-Some.is ∙ ap (λ p. some_doc (ref_or_doc schema schema_doc p)) (sym place) in
    (omega (arith, ap weight whole, lighter_some (ref_or_doc schema schema_doc c.deref.result.now)), tt)

pub clone_content_schema-returns-in_ok-new-in-Some : goal.clone_content_schema-returns-in_ok-new-in-Some
clone_content_schema-returns-in_ok-new-in-Some t c =
    let place : c.deref.result.now ≡ c.in-Some.place.value = c.deref.ensures in
    let whole : content_schema_doc c.args.content.now ≡ some_doc (ref_or_doc schema schema_doc c.deref.result.now) = ap content_schema_doc c.in-Some.is ∙ ap (λ p. some_doc (ref_or_doc schema schema_doc p)) (sym place) in
    let made : c.in_ok-new-in-Some.field-0.value ≡ c.in_ok-copied-in-Some.copied = search rules in
    ap (λ p. some_doc (ref_or_doc schema schema_doc p)) made ∙ ap some_doc c.in_ok-copied-in-Some.ensures ∙ sym whole

pub clone_content_schema-returns-in-None : goal.clone_content_schema-returns-in-None
clone_content_schema-returns-in-None t c = sym (ap content_schema_doc c.in-None.is)

pub clone_additional_properties-clone_additional-requires : goal.clone_additional_properties-clone_additional-requires
clone_additional_properties-clone_additional-requires t c =
    let place : c.deref.result.now ≡ c.in-Some.additional.value = c.deref.ensures in
    let whole : (option_of (boxed (additional_properties_doc schema_doc))) c.args.member.now ≡ some_doc (additional_properties_doc schema_doc c.deref.result.now) = ap (option_of (boxed (additional_properties_doc schema_doc))) c.in-Some.is ∙ ap (λ p. some_doc (additional_properties_doc schema_doc p)) (sym place) in
    (omega (arith, ap weight whole, lighter_some (additional_properties_doc schema_doc c.deref.result.now)), tt)

pub clone_additional_properties-returns-in_ok-new-in-Some : goal.clone_additional_properties-returns-in_ok-new-in-Some
clone_additional_properties-returns-in_ok-new-in-Some t c =
    let place : c.deref.result.now ≡ c.in-Some.additional.value = c.deref.ensures in
    let whole : (option_of (boxed (additional_properties_doc schema_doc))) c.args.member.now ≡ some_doc (additional_properties_doc schema_doc c.deref.result.now) = ap (option_of (boxed (additional_properties_doc schema_doc))) c.in-Some.is ∙ ap (λ p. some_doc (additional_properties_doc schema_doc p)) (sym place) in
    let made : c.in_ok-new-in-Some.field-0.value ≡ c.in_ok-copied-in-Some.copied = search rules in
    ap (λ p. some_doc (additional_properties_doc schema_doc p)) made ∙ ap some_doc c.in_ok-copied-in-Some.ensures ∙ sym whole

pub clone_additional_properties-returns-in-None : goal.clone_additional_properties-returns-in-None
clone_additional_properties-returns-in-None t c = sym (ap (option_of (boxed (additional_properties_doc schema_doc))) c.in-None.is)

pub clone_property_names-clone_schema-requires : goal.clone_property_names-clone_schema-requires
clone_property_names-clone_schema-requires t c =
    let place : c.deref.result.now ≡ c.in-Some.value.value = c.deref.ensures in
    let whole : (option_of (boxed schema_doc)) c.args.member.now ≡ some_doc (schema_doc c.deref.result.now) = ap (option_of (boxed schema_doc)) c.in-Some.is ∙ ap (λ p. some_doc (schema_doc p)) (sym place) in
    (omega (arith, ap weight whole, lighter_some (schema_doc c.deref.result.now)), tt)

pub clone_property_names-returns-in_ok-new-in-Some : goal.clone_property_names-returns-in_ok-new-in-Some
clone_property_names-returns-in_ok-new-in-Some t c =
    let place : c.deref.result.now ≡ c.in-Some.value.value = c.deref.ensures in
    let whole : (option_of (boxed schema_doc)) c.args.member.now ≡ some_doc (schema_doc c.deref.result.now) = ap (option_of (boxed schema_doc)) c.in-Some.is ∙ ap (λ p. some_doc (schema_doc p)) (sym place) in
    let made : c.in_ok-new-in-Some.field-0.value ≡ c.in_ok-copied-in-Some.copied = search rules in
    ap (λ p. some_doc (schema_doc p)) made ∙ ap some_doc c.in_ok-copied-in-Some.ensures ∙ sym whole

pub clone_property_names-returns-in-None : goal.clone_property_names-returns-in-None
clone_property_names-returns-in-None t c = sym (ap (option_of (boxed schema_doc)) c.in-None.is)

pub clone_one_of-clone_ref_or_schema_list-requires : goal.clone_one_of-clone_ref_or_schema_list-requires
clone_one_of-clone_ref_or_schema_list-requires t c = (omega (arith, lighter_one_of c.args.one_of.now), tt)

pub clone_one_of-returns : goal.clone_one_of-returns
clone_one_of-returns t c = IfOk-weaker c.clone_one_of_with.result _ _ (λ copy h. h c.in_ok-items.ensures) c.clone_one_of_with.ensures

pub clone_all_of-clone_ref_or_schema_list-requires : goal.clone_all_of-clone_ref_or_schema_list-requires
clone_all_of-clone_ref_or_schema_list-requires t c = (omega (arith, lighter_all_of c.args.all_of.now), tt)

pub clone_all_of-returns : goal.clone_all_of-returns
clone_all_of-returns t c = IfOk-weaker c.clone_all_of_with.result _ _ (λ copy h. h c.in_ok-items.ensures) c.clone_all_of_with.ensures

pub clone_any_of-clone_ref_or_schema_list-requires : goal.clone_any_of-clone_ref_or_schema_list-requires
clone_any_of-clone_ref_or_schema_list-requires t c = (omega (arith, lighter_any_of c.args.any_of.now), tt)

pub clone_any_of-returns : goal.clone_any_of-returns
clone_any_of-returns t c = IfOk-weaker c.clone_any_of_with.result _ _ (λ copy h. h c.in_ok-items.ensures) c.clone_any_of_with.ensures

pub clone_array-clone_items-requires : goal.clone_array-clone_items-requires
clone_array-clone_items-requires t c =
    let lighter = lighter_array c.args.array.now in
    (omega (arith, lighter.0), tt)

pub clone_array-clone_schemas-requires : goal.clone_array-clone_schemas-requires
clone_array-clone_schemas-requires t c =
    let lighter = lighter_array c.args.array.now in
    (omega (arith, lighter.1), tt)

pub clone_array-clone_content_schema-requires : goal.clone_array-clone_content_schema-requires
clone_array-clone_content_schema-requires t c =
    let lighter = lighter_array c.args.array.now in
    (omega (arith, lighter.2), tt)

pub clone_array-returns : goal.clone_array-returns
clone_array-returns t c = IfOk-weaker c.clone_array_with.result _ _ (λ copy h. h c.in_ok-items.ensures c.in_ok-prefix_items.ensures c.in_ok-content_schema.ensures) c.clone_array_with.ensures

pub clone_object-clone_ref_or_schema_map-requires : goal.clone_object-clone_ref_or_schema_map-requires
clone_object-clone_ref_or_schema_map-requires t c =
    let lighter = lighter_object c.args.object.now in
    (omega (arith, lighter.0), tt)

pub clone_object-clone_additional_properties-requires : goal.clone_object-clone_additional_properties-requires
clone_object-clone_additional_properties-requires t c =
    let lighter = lighter_object c.args.object.now in
    (omega (arith, lighter.1), tt)

pub clone_object-clone_property_names-requires : goal.clone_object-clone_property_names-requires
clone_object-clone_property_names-requires t c =
    let lighter = lighter_object c.args.object.now in
    (omega (arith, lighter.2), tt)

pub clone_object-clone_content_schema-requires : goal.clone_object-clone_content_schema-requires
clone_object-clone_content_schema-requires t c =
    let lighter = lighter_object c.args.object.now in
    (omega (arith, lighter.3), tt)

pub clone_object-returns : goal.clone_object-returns
clone_object-returns t c = IfOk-weaker c.clone_object_with.result _ _ (λ copy h. h c.in_ok-properties.ensures c.in_ok-additional_properties.ensures c.in_ok-property_names.ensures c.in_ok-content_schema.ensures) c.clone_object_with.ensures
