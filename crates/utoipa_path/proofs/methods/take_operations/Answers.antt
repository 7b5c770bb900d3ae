use Rattle.std.proofs.Common.{◌≡◌, ap, ◌∙◌}
use Rattle.utoipa_path.specs.Methods.{operation_at, replaced, without_methods}
use Rattle.utoipa_path.proofs.ByMethod.{replaced_at}
use Rattle.utoipa_path.specs.declared.types.PathItem.{out-PathItem}
use Rattle.utoipa_path.proofs.methods.take_operations.Goals as goal

taken_over : (c : goal.After-drop) → out-PathItem c.replace.new.dest ≡ replaced (out-PathItem c.args.item.now) (out-PathItem c.args.other)
taken_over c = ap out-PathItem c.replace.ensures.after ∙ c.with_operations_of.ensures ∙ ap (λ i. replaced (out-PathItem i) (out-PathItem c.args.other)) c.replace-own.ensures.value

pub returns-clause-taken : goal.returns-clause-taken
returns-clause-taken c = λ m. ap (operation_at m) (taken_over c) ∙ replaced_at m (out-PathItem c.args.item.now) (out-PathItem c.args.other)

pub returns-clause-rest : goal.returns-clause-rest
returns-clause-rest c = ap without_methods (taken_over c)
