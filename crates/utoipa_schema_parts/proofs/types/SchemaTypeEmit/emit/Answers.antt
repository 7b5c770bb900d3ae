use Rattle.std.proofs.Common.{sym}
use Rattle.std.proofs.lemmas.Result.{on_ok_weaker}
use Rattle.utoipa_base.proofs.Sending.{added_as, events-any_value}
use Rattle.utoipa_schema_parts.proofs.types.SchemaTypeEmit.emit.Goals as goal

pub returns-in-AnyValue : goal.returns-in-AnyValue
returns-in-AnyValue g c = rw c.in-AnyValue.is (on_ok_weaker c.null.result (added_as g.S.JsonSink.adds _ _ _ _ (sym events-any_value)) c.null.ensures)
