use Rattle.std.proofs.Common.{sym, ◌∙◌, arith}
use Rattle.serde_json.specs.View.{view}
use Rattle.std.proofs.lemmas.Result.{IfOk-weaker}
use Rattle.utoipa_schema.proofs.Noting.{no_items}
use Rattle.utoipa_schema.proofs.alternatives.array_or_object_from.Goals as goal

pub object_or_none_from-requires-clause-no_array : goal.object_or_none_from-requires-clause-no_array
object_or_none_from-requires-clause-no_array c = no_items (view c.args.tree.now) c.args.members.now c.requires.found (sym c.has_items.ensures ∙ c.if-not-has_items.true)

pub returns-then-not-has_items-clause-counted : goal.returns-then-not-has_items-clause-counted
returns-then-not-has_items-clause-counted c = IfOk-weaker c.object_or_none_from.result _ _ (λ o h. omega (arith, h)) c.object_or_none_from.ensures.counted
