use Rattle.std.proofs.Common.{◌≡◌, ◌∙◌, ap, sym, IfOk, subst}
use Rattle.serde_json.specs.View.{view}
use Rattle.utoipa_check.specs.Places.{joined}
use Rattle.utoipa_check.specs.Views.{misfits_of}
use Rattle.utoipa_check.proofs.Leaves.{fraction_here, fractions_inside}
use Rattle.utoipa_check.proofs.tree.fractions.Goals as goal

pub returns-then-is_f64 : goal.returns-then-is_f64
returns-then-is_f64 c = subst (λ x. IfOk c.here.result (λ v. misfits_of v.items ≡ x)) (sym (fraction_here (view c.args.tree.now) (sym c.is_f64.ensures ∙ c.if-is_f64.true))) c.here.ensures

pub returns : goal.returns
returns c = subst (λ x. IfOk c.join_all.result (λ v. misfits_of v.items ≡ x)) (ap joined c.requires ∙ fractions_inside (view c.args.tree.now) (sym c.is_f64.ensures ∙ c.if-is_f64.false)) c.join_all.ensures
