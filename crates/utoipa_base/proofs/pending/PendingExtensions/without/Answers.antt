use Rattle.std.proofs.Common.{◌∙◌, sym}
use Rattle.utoipa_base.specs.Pending.{pending_view}
use Rattle.utoipa_base.proofs.FieldsInOrder.{first_passed, none_passed}
use Rattle.utoipa_base.proofs.pending.PendingExtensions.without.Goals as goal

pub returns-then-begins_with : goal.returns-then-begins_with
returns-then-begins_with c none = c.later.ensures ∙ first_passed c.args.name.now (pending_view c.args.self) (sym c.begins_with.ensures ∙ c.if-begins_with.true)

pub returns-else-begins_with : goal.returns-else-begins_with
returns-else-begins_with c none = none_passed c.args.name.now (pending_view c.args.self) (sym c.begins_with.ensures ∙ c.if-begins_with.false) none
