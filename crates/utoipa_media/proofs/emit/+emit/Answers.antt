-- The answers of what contents, encodings and headers send.
use Rattle.std.proofs.Common.{refl}
use Rattle.utoipa_base.proofs.SendingAmong.{then_rows, fields_among, object_by_fields, object_by_layer}
use Rattle.utoipa_media.specs.Docs.{encoding_layer, content_doc, encoding_doc, header_doc}
use Rattle.utoipa_media.specs.Folds.{encoding_is}
use Rattle.utoipa_media.specs.declared.types.Encoding.{out-Encoding}
use Rattle.utoipa_media.proofs.emit.+emit.Goals as goal

pub ContentEmit::emit-returns : goal.ContentEmit::emit-returns
ContentEmit::emit-returns g t c =
    let inside =
    (then_rows g.S.JsonSink.adds g.met.S.JsonSink.both _ _ _ _ _ _ _ _ _ c.in_ok-after_description.ensures
    (then_rows g.S.JsonSink.adds g.met.S.JsonSink.both _ _ _ _ _ _ _ _ _ c.in_ok-after_encoding.ensures
    (then_rows g.S.JsonSink.adds g.met.S.JsonSink.both _ _ _ _ _ _ _ _ _ c.in_ok-after_example.ensures
    (then_rows g.S.JsonSink.adds g.met.S.JsonSink.both _ _ _ _ _ _ _ _ _ c.in_ok-after_examples.ensures
    (then_rows g.S.JsonSink.adds g.met.S.JsonSink.both _ _ _ _ _ _ _ _ _ c.in_ok-after_item.ensures
    (then_rows g.S.JsonSink.adds g.met.S.JsonSink.both _ _ _ _ _ _ _ _ _ c.in_ok-after_item_schema.ensures
    (then_rows g.S.JsonSink.adds g.met.S.JsonSink.both _ _ _ _ _ _ _ _ _ c.in_ok-after_first.ensures
    (fields_among g.S.JsonSink.adds _ _ _ _ _ _ c.in_ok-after_last.ensures)))))))) in
    object_by_fields g.S.JsonSink.adds g.met.S.JsonSink.both c.emit_end.result (content_doc c.args.self.now) _ _ _ _ _ _ _ _ refl c.of-pending.ensures c.in_ok-begin_object.ensures inside c.emit_end.ensures

pub EncodingEmit::emit-returns : goal.EncodingEmit::emit-returns
EncodingEmit::emit-returns g t c =
    let inside =
    (then_rows g.S.JsonSink.adds g.met.S.JsonSink.both _ _ _ _ _ _ _ _ _ c.in_ok-after_reserved.ensures
    (then_rows g.S.JsonSink.adds g.met.S.JsonSink.both _ _ _ _ _ _ _ _ _ c.in_ok-after_type.ensures
    (then_rows g.S.JsonSink.adds g.met.S.JsonSink.both _ _ _ _ _ _ _ _ _ c.in_ok-after_encoding.ensures
    (then_rows g.S.JsonSink.adds g.met.S.JsonSink.both _ _ _ _ _ _ _ _ _ c.in_ok-after_explode.ensures
    (then_rows g.S.JsonSink.adds g.met.S.JsonSink.both _ _ _ _ _ _ _ _ _ c.in_ok-after_headers.ensures
    (then_rows g.S.JsonSink.adds g.met.S.JsonSink.both _ _ _ _ _ _ _ _ _ c.in_ok-after_item.ensures
    (then_rows g.S.JsonSink.adds g.met.S.JsonSink.both _ _ _ _ _ _ _ _ _ c.in_ok-after_first.ensures
    (fields_among g.S.JsonSink.adds _ _ _ _ _ _ c.in_ok-after_last.ensures)))))))) in
    object_by_layer g.S.JsonSink.adds g.met.S.JsonSink.both c.emit_end.result (encoding_doc c.args.self.now) (encoding_layer header_doc encoding_doc (out-Encoding c.args.self.now)) _ _ _ _ _ _ _ _ (encoding_is c.args.self.now) refl c.of-pending.ensures c.in_ok-begin_object.ensures inside c.emit_end.ensures

pub HeaderEmit::emit-returns : goal.HeaderEmit::emit-returns
HeaderEmit::emit-returns g t c =
    let inside =
    (then_rows g.S.JsonSink.adds g.met.S.JsonSink.both _ _ _ _ _ _ _ _ _ c.in_ok-after_contents.ensures
    (fields_among g.S.JsonSink.adds _ _ _ _ _ _ c.in_ok-after_last.ensures)) in
    object_by_fields g.S.JsonSink.adds g.met.S.JsonSink.both c.emit_end.result (header_doc c.args.self.now) _ _ _ _ _ _ _ _ refl c.of-pending.ensures c.in_ok-begin_object.ensures inside c.emit_end.ensures
