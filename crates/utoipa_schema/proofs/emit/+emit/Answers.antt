-- The answers of what schemas send.
use Rattle.std.proofs.Common.{◌≡◌, false, refl, sym, ap, ◌∙◌}
use Rattle.std.proofs.lemmas.Result.{on_ok_weaker}
use Rattle.utoipa_base.specs.Events.{events}
use Rattle.utoipa_base.specs.Writing.{write}
use Rattle.utoipa_base.proofs.Sending.{added_as, events-flag}
use Rattle.utoipa_base.proofs.SendingAmong.{optional_among, optional_absent, then_rows, fields_among, object_by_fields}
use Rattle.utoipa_base.specs.Kinds.{additional_properties}
use Rattle.utoipa_schema.specs.Docs.{schema_doc, array_items_doc, additional_properties_doc, one_of_doc, all_of_doc, any_of_doc, array_doc, object_doc}
use Rattle.utoipa_schema.specs.Folds.{schema-Array, schema-Object, schema-OneOf, schema-AllOf, schema-AnyOf, items-False, items-RefOrSchema}
use Rattle.utoipa_schema.proofs.Choices.{write-schema}
use Rattle.utoipa_schema.proofs.emit.+emit.Goals as goal

pub SchemaEmit::emit-returns-in-Array : goal.SchemaEmit::emit-returns-in-Array
SchemaEmit::emit-returns-in-Array g t c =
    let same : schema_doc c.args.self.now ≡ _ = ap schema_doc c.in-Array.is ∙ schema-Array c.in-Array.array in
    on_ok_weaker c.emit.result (added_as g.S.JsonSink.adds _ _ _ _ (ap events (sym (write-schema (array_doc c.in-Array.array)) ∙ ap write (sym same)))) c.emit.ensures

pub SchemaEmit::emit-returns-in-Object : goal.SchemaEmit::emit-returns-in-Object
SchemaEmit::emit-returns-in-Object g t c =
    let same : schema_doc c.args.self.now ≡ _ = ap schema_doc c.in-Object.is ∙ schema-Object c.in-Object.object in
    on_ok_weaker c.emit-in-Object.result (added_as g.S.JsonSink.adds _ _ _ _ (ap events (sym (write-schema (object_doc c.in-Object.object)) ∙ ap write (sym same)))) c.emit-in-Object.ensures

pub SchemaEmit::emit-returns-in-OneOf : goal.SchemaEmit::emit-returns-in-OneOf
SchemaEmit::emit-returns-in-OneOf g t c =
    let same : schema_doc c.args.self.now ≡ _ = ap schema_doc c.in-OneOf.is ∙ schema-OneOf c.in-OneOf.one_of in
    on_ok_weaker c.emit-in-OneOf.result (added_as g.S.JsonSink.adds _ _ _ _ (ap events (sym (write-schema (one_of_doc c.in-OneOf.one_of)) ∙ ap write (sym same)))) c.emit-in-OneOf.ensures

pub SchemaEmit::emit-returns-in-AllOf : goal.SchemaEmit::emit-returns-in-AllOf
SchemaEmit::emit-returns-in-AllOf g t c =
    let same : schema_doc c.args.self.now ≡ _ = ap schema_doc c.in-AllOf.is ∙ schema-AllOf c.in-AllOf.all_of in
    on_ok_weaker c.emit-in-AllOf.result (added_as g.S.JsonSink.adds _ _ _ _ (ap events (sym (write-schema (all_of_doc c.in-AllOf.all_of)) ∙ ap write (sym same)))) c.emit-in-AllOf.ensures

pub SchemaEmit::emit-returns-in-AnyOf : goal.SchemaEmit::emit-returns-in-AnyOf
SchemaEmit::emit-returns-in-AnyOf g t c =
    let same : schema_doc c.args.self.now ≡ _ = ap schema_doc c.in-AnyOf.is ∙ schema-AnyOf c.in-AnyOf.any_of in
    on_ok_weaker c.emit-in-AnyOf.result (added_as g.S.JsonSink.adds _ _ _ _ (ap events (sym (write-schema (any_of_doc c.in-AnyOf.any_of)) ∙ ap write (sym same)))) c.emit-in-AnyOf.ensures

pub ArrayItemsEmit::emit-returns-in-RefOrSchema : goal.ArrayItemsEmit::emit-returns-in-RefOrSchema
ArrayItemsEmit::emit-returns-in-RefOrSchema g t c = on_ok_weaker c.emit.result (added_as g.S.JsonSink.adds _ _ _ _ (ap events (ap write (sym (items-RefOrSchema c.in-RefOrSchema.place)) ∙ ap (λ i. write (array_items_doc i)) (sym c.in-RefOrSchema.is)))) c.emit.ensures

pub ArrayItemsEmit::emit-returns-in-False : goal.ArrayItemsEmit::emit-returns-in-False
ArrayItemsEmit::emit-returns-in-False g t c = on_ok_weaker c.boolean.result (added_as g.S.JsonSink.adds _ _ _ _ (sym (events-flag false) ∙ ap events (ap write (sym items-False) ∙ ap (λ i. write (array_items_doc i)) (sym c.in-False.is)))) c.boolean.ensures

pub emit_additional-returns-in_ok-emit-in-RefOr : goal.emit_additional-returns-in_ok-emit-in-RefOr
emit_additional-returns-in_ok-emit-in-RefOr g t c =
    let same : additional_properties_doc schema_doc c.in-Some.additional.value ≡ _ = ap (additional_properties_doc schema_doc) (sym c.deref.ensures ∙ c.in-RefOr.is) in
    rw c.in-Some.is (optional_among g.S.JsonSink.adds g.met.S.JsonSink.both _ additional_properties (additional_properties_doc schema_doc c.in-Some.additional.value) _ _ _ _ _ c.in_ok-later-in-Some.ensures
    (added_as g.S.JsonSink.adds _ _ _ _ (ap (λ d. events (write d)) (sym same)) c.in_ok-emit-in-RefOr.ensures))

pub emit_additional-returns-in_ok-boolean-in-FreeForm : goal.emit_additional-returns-in_ok-boolean-in-FreeForm
emit_additional-returns-in_ok-boolean-in-FreeForm g t c =
    let same : additional_properties_doc schema_doc c.in-Some.additional.value ≡ _ = ap (additional_properties_doc schema_doc) (sym c.deref.ensures ∙ c.in-FreeForm.is) in
    rw c.in-Some.is (optional_among g.S.JsonSink.adds g.met.S.JsonSink.both _ additional_properties (additional_properties_doc schema_doc c.in-Some.additional.value) _ _ _ _ _ c.in_ok-later-in-Some.ensures
    (added_as g.S.JsonSink.adds _ _ _ _ (sym (events-flag c.in-FreeForm.free) ∙ ap (λ d. events (write d)) (sym same)) c.in_ok-boolean-in-FreeForm.ensures))

pub emit_additional-returns-in-None : goal.emit_additional-returns-in-None
emit_additional-returns-in-None g t c = rw c.in-None.is (optional_absent g.S.JsonSink.adds _ additional_properties _ _ (g.met.S.JsonSink.none _))

pub OneOfEmit::emit-returns : goal.OneOfEmit::emit-returns
OneOfEmit::emit-returns g t c =
    let inside =
    (then_rows g.S.JsonSink.adds g.met.S.JsonSink.both _ _ _ _ _ _ _ _ _ c.in_ok-after_first.ensures
    (then_rows g.S.JsonSink.adds g.met.S.JsonSink.both _ _ _ _ _ _ _ _ _ c.in_ok-after_items.ensures
    (then_rows g.S.JsonSink.adds g.met.S.JsonSink.both _ _ _ _ _ _ _ _ _ c.in_ok-after_read_only.ensures
    (then_rows g.S.JsonSink.adds g.met.S.JsonSink.both _ _ _ _ _ _ _ _ _ c.in_ok-after_title.ensures
    (then_rows g.S.JsonSink.adds g.met.S.JsonSink.both _ _ _ _ _ _ _ _ _ c.in_ok-after_type.ensures
    (fields_among g.S.JsonSink.adds _ _ _ _ _ _ c.in_ok-after_last.ensures)))))) in
    object_by_fields g.S.JsonSink.adds g.met.S.JsonSink.both c.emit_end.result (one_of_doc c.args.self.now) _ _ _ _ _ _ _ _ refl c.of-pending.ensures c.in_ok-begin_object.ensures inside c.emit_end.ensures

pub AllOfEmit::emit-returns : goal.AllOfEmit::emit-returns
AllOfEmit::emit-returns g t c =
    let inside =
    (then_rows g.S.JsonSink.adds g.met.S.JsonSink.both _ _ _ _ _ _ _ _ _ c.in_ok-after_items.ensures
    (then_rows g.S.JsonSink.adds g.met.S.JsonSink.both _ _ _ _ _ _ _ _ _ c.in_ok-after_shared.ensures
    (then_rows g.S.JsonSink.adds g.met.S.JsonSink.both _ _ _ _ _ _ _ _ _ c.in_ok-after_title.ensures
    (fields_among g.S.JsonSink.adds _ _ _ _ _ _ c.in_ok-after_last.ensures)))) in
    object_by_fields g.S.JsonSink.adds g.met.S.JsonSink.both c.emit_end.result (all_of_doc c.args.self.now) _ _ _ _ _ _ _ _ refl c.of-pending.ensures c.in_ok-begin_object.ensures inside c.emit_end.ensures

pub AnyOfEmit::emit-returns : goal.AnyOfEmit::emit-returns
AnyOfEmit::emit-returns g t c =
    let inside =
    (then_rows g.S.JsonSink.adds g.met.S.JsonSink.both _ _ _ _ _ _ _ _ _ c.in_ok-after_items.ensures
    (then_rows g.S.JsonSink.adds g.met.S.JsonSink.both _ _ _ _ _ _ _ _ _ c.in_ok-after_shared.ensures
    (fields_among g.S.JsonSink.adds _ _ _ _ _ _ c.in_ok-after_last.ensures))) in
    object_by_fields g.S.JsonSink.adds g.met.S.JsonSink.both c.emit_end.result (any_of_doc c.args.self.now) _ _ _ _ _ _ _ _ refl c.of-pending.ensures c.in_ok-begin_object.ensures inside c.emit_end.ensures

pub ArrayEmit::emit-returns : goal.ArrayEmit::emit-returns
ArrayEmit::emit-returns g t c =
    let inside =
    (then_rows g.S.JsonSink.adds g.met.S.JsonSink.both _ _ _ _ _ _ _ _ _ c.in_ok-after_content.ensures
    (then_rows g.S.JsonSink.adds g.met.S.JsonSink.both _ _ _ _ _ _ _ _ _ c.in_ok-after_schema.ensures
    (then_rows g.S.JsonSink.adds g.met.S.JsonSink.both _ _ _ _ _ _ _ _ _ c.in_ok-after_annotations.ensures
    (then_rows g.S.JsonSink.adds g.met.S.JsonSink.both _ _ _ _ _ _ _ _ _ c.in_ok-after_items.ensures
    (then_rows g.S.JsonSink.adds g.met.S.JsonSink.both _ _ _ _ _ _ _ _ _ c.in_ok-after_limits.ensures
    (then_rows g.S.JsonSink.adds g.met.S.JsonSink.both _ _ _ _ _ _ _ _ _ c.in_ok-after_prefix.ensures
    (fields_among g.S.JsonSink.adds _ _ _ _ _ _ c.in_ok-after_last.ensures))))))) in
    object_by_fields g.S.JsonSink.adds g.met.S.JsonSink.both c.emit_end.result (array_doc c.args.self.now) _ _ _ _ _ _ _ _ refl c.of-pending.ensures c.in_ok-begin_object.ensures inside c.emit_end.ensures

pub ObjectEmit::emit-returns : goal.ObjectEmit::emit-returns
ObjectEmit::emit-returns g t c =
    let inside =
    (then_rows g.S.JsonSink.adds g.met.S.JsonSink.both _ _ _ _ _ _ _ _ _ c.in_ok-after_additional.ensures
    (then_rows g.S.JsonSink.adds g.met.S.JsonSink.both _ _ _ _ _ _ _ _ _ c.in_ok-after_content.ensures
    (then_rows g.S.JsonSink.adds g.met.S.JsonSink.both _ _ _ _ _ _ _ _ _ c.in_ok-after_schema.ensures
    (then_rows g.S.JsonSink.adds g.met.S.JsonSink.both _ _ _ _ _ _ _ _ _ c.in_ok-after_annotations.ensures
    (then_rows g.S.JsonSink.adds g.met.S.JsonSink.both _ _ _ _ _ _ _ _ _ c.in_ok-after_greatest.ensures
    (then_rows g.S.JsonSink.adds g.met.S.JsonSink.both _ _ _ _ _ _ _ _ _ c.in_ok-after_least.ensures
    (then_rows g.S.JsonSink.adds g.met.S.JsonSink.both _ _ _ _ _ _ _ _ _ c.in_ok-after_properties.ensures
    (then_rows g.S.JsonSink.adds g.met.S.JsonSink.both _ _ _ _ _ _ _ _ _ c.in_ok-after_property_names.ensures
    (fields_among g.S.JsonSink.adds _ _ _ _ _ _ c.in_ok-after_last.ensures))))))))) in
    object_by_fields g.S.JsonSink.adds g.met.S.JsonSink.both c.emit_end.result (object_doc c.args.self.now) _ _ _ _ _ _ _ _ refl c.of-pending.ensures c.in_ok-begin_object.ensures inside c.emit_end.ensures
