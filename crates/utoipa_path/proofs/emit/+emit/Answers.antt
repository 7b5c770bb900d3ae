-- The answers of what operations and path items send.
use Rattle.std.proofs.Common.{refl}
use Rattle.std.proofs.lemmas.Result.{IfOk-weaker}
use Rattle.utoipa_base.proofs.SendingAmong.{then_rows, fields_among, object_by_fields, object_by_layer}
use Rattle.utoipa_path.specs.Docs.{operation_layer, operation_doc, path_item_doc}
use Rattle.utoipa_path.specs.Folds.{operation_is}
use Rattle.utoipa_path.specs.ItemMembers.{up_to_get_rows, up_to_get_docs, head_to_post_rows, head_to_post_docs, from_put_rows, from_put_docs}
use Rattle.utoipa_path.specs.declared.types.Operation.{out-Operation}
use Rattle.utoipa_path.specs.declared.types.PathItem.{out-PathItem}
use Rattle.utoipa_path.proofs.RowsByFields.{rows_by_fields}
use Rattle.utoipa_path.proofs.emit.+emit.Goals as goal

pub OperationEmit::emit-returns : goal.OperationEmit::emit-returns
OperationEmit::emit-returns g t c =
    let inside =
    (then_rows g.S.JsonSink.adds g.met.S.JsonSink.both _ _ _ _ _ _ _ _ _ c.in_ok-after_callbacks.ensures
    (then_rows g.S.JsonSink.adds g.met.S.JsonSink.both _ _ _ _ _ _ _ _ _ c.in_ok-after_middle.ensures
    (fields_among g.S.JsonSink.adds _ _ _ _ _ _ c.in_ok-after_last.ensures))) in
    object_by_layer g.S.JsonSink.adds g.met.S.JsonSink.both c.emit_end.result (operation_doc c.args.self.now) (operation_layer path_item_doc (out-Operation c.args.self.now)) _ _ _ _ _ _ _ _ (operation_is c.args.self.now) refl c.of-pending.ensures c.in_ok-begin_object.ensures inside c.emit_end.ensures

pub emit_item_up_to_get-returns : goal.emit_item_up_to_get-returns
emit_item_up_to_get-returns g t c =
    IfOk-weaker c.emit_optional-4.result _ _ (λ left last.
    let inside =
    (then_rows g.S.JsonSink.adds g.met.S.JsonSink.both _ _ _ _ _ _ _ _ _ c.in_ok-after_reference.ensures
    (then_rows g.S.JsonSink.adds g.met.S.JsonSink.both _ _ _ _ _ _ _ _ _ c.in_ok-after_additional.ensures
    (then_rows g.S.JsonSink.adds g.met.S.JsonSink.both _ _ _ _ _ _ _ _ _ c.in_ok-after_delete.ensures
    (then_rows g.S.JsonSink.adds g.met.S.JsonSink.both _ _ _ _ _ _ _ _ _ c.in_ok-after_description.ensures
    (fields_among g.S.JsonSink.adds _ _ _ _ _ _ last))))) in
    rows_by_fields g.S.JsonSink.adds (up_to_get_docs operation_doc (out-PathItem c.args.item.now)) up_to_get_rows _ _ _ _ inside)
    c.emit_optional-4.ensures

pub emit_item_head_to_post-returns : goal.emit_item_head_to_post-returns
emit_item_head_to_post-returns g t c =
    IfOk-weaker c.emit_optional-5.result _ _ (λ left last.
    let inside =
    (then_rows g.S.JsonSink.adds g.met.S.JsonSink.both _ _ _ _ _ _ _ _ _ c.in_ok-after_head.ensures
    (then_rows g.S.JsonSink.adds g.met.S.JsonSink.both _ _ _ _ _ _ _ _ _ c.in_ok-after_options.ensures
    (then_rows g.S.JsonSink.adds g.met.S.JsonSink.both _ _ _ _ _ _ _ _ _ c.in_ok-after_parameters.ensures
    (then_rows g.S.JsonSink.adds g.met.S.JsonSink.both _ _ _ _ _ _ _ _ _ c.in_ok-after_patch.ensures
    (fields_among g.S.JsonSink.adds _ _ _ _ _ _ last))))) in
    rows_by_fields g.S.JsonSink.adds (head_to_post_docs operation_doc (out-PathItem c.args.item.now)) head_to_post_rows _ _ _ _ inside)
    c.emit_optional-5.ensures

pub emit_item_from_put-returns : goal.emit_item_from_put-returns
emit_item_from_put-returns g t c =
    IfOk-weaker c.emit_optional-5.result _ _ (λ left last.
    let inside =
    (then_rows g.S.JsonSink.adds g.met.S.JsonSink.both _ _ _ _ _ _ _ _ _ c.in_ok-after_put.ensures
    (then_rows g.S.JsonSink.adds g.met.S.JsonSink.both _ _ _ _ _ _ _ _ _ c.in_ok-after_query.ensures
    (then_rows g.S.JsonSink.adds g.met.S.JsonSink.both _ _ _ _ _ _ _ _ _ c.in_ok-after_servers.ensures
    (then_rows g.S.JsonSink.adds g.met.S.JsonSink.both _ _ _ _ _ _ _ _ _ c.in_ok-after_summary.ensures
    (fields_among g.S.JsonSink.adds _ _ _ _ _ _ last))))) in
    rows_by_fields g.S.JsonSink.adds (from_put_docs operation_doc (out-PathItem c.args.item.now)) from_put_rows _ _ _ _ inside)
    c.emit_optional-5.ensures

pub PathItemEmit::emit-returns : goal.PathItemEmit::emit-returns
PathItemEmit::emit-returns g t c =
    let inside =
    (then_rows g.S.JsonSink.adds g.met.S.JsonSink.both _ _ _ _ _ _ _ _ _ c.in_ok-after_get.ensures
    (then_rows g.S.JsonSink.adds g.met.S.JsonSink.both _ _ _ _ _ _ _ _ _ c.in_ok-after_post.ensures
    (fields_among g.S.JsonSink.adds _ _ _ _ _ _ c.in_ok-after_trace.ensures))) in
    object_by_fields g.S.JsonSink.adds g.met.S.JsonSink.both c.emit_end.result (path_item_doc c.args.self.now) _ _ _ _ _ _ _ _ refl c.of-pending.ensures c.in_ok-begin_object.ensures inside c.emit_end.ensures
