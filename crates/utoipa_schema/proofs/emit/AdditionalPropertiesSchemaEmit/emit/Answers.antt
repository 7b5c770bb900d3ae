-- The answers of what additional properties send.
use Rattle.std.proofs.Common.{sym, ap, ◌∙◌}
use Rattle.std.proofs.lemmas.Result.{on_ok_weaker}
use Rattle.utoipa_base.specs.Events.{events}
use Rattle.utoipa_base.specs.Writing.{write}
use Rattle.utoipa_base.proofs.Sending.{added_as, events-flag}
use Rattle.utoipa_schema.specs.Docs.{schema_doc, additional_properties_doc}
use Rattle.utoipa_schema.proofs.emit.AdditionalPropertiesSchemaEmit.emit.Goals as goal

pub returns-in-RefOr : goal.returns-in-RefOr
returns-in-RefOr g c = on_ok_weaker c.emit.result (added_as g.S.JsonSink.adds _ _ _ _ (ap (λ q. events (write (additional_properties_doc schema_doc q))) (sym c.in-RefOr.is))) c.emit.ensures

pub returns-in-FreeForm : goal.returns-in-FreeForm
returns-in-FreeForm g c = on_ok_weaker c.boolean.result (added_as g.S.JsonSink.adds _ _ _ _ (sym (events-flag c.in-FreeForm.free) ∙ ap (λ q. events (write (additional_properties_doc schema_doc q))) (sym c.in-FreeForm.is))) c.boolean.ensures
