use Rattle.std.proofs.Common.{◌≡◌, ◌∙◌, ap, cond, is_some, sym, true, false, rules, [], ◌++◌}
use Rattle.serde_json.specs.Find.{get}
use Rattle.serde_json.specs.View.{view}
use Rattle.utoipa_check.specs.Misfits.{under}
use Rattle.utoipa_check.specs.Views.{step_of, outcome_of, misfits_of, stacked}
use Rattle.utoipa_check.proofs.ByDoubts.{doubts_absent, doubts_there}
use Rattle.utoipa_check.proofs.Steps.{stacked_last}
use Rattle.utoipa_check.proofs.doubter.put_row_doubts.Goals as goal

pub returns-then-is_none : goal.returns-then-is_none
returns-then-is_none c = λ rest is.
    let gone : is_some (get c.args.row.now.name.now (view c.args.tree.now)) ≡ false = search rules in
    doubts_absent c.args.row.now (view c.args.tree.now) _ rest _ gone is

pub returns-in_ok-put_under : goal.returns-in_ok-put_under
returns-in_ok-put_under c = λ rest is.
    let there : is_some (get c.args.row.now.name.now (view c.args.tree.now)) ≡ true = search rules in
    let top = ap stacked c.in-Some.ensures.items ∙ stacked_last c.pop.new.self.items c.in-Some.outcome in
    let o = c.in-Some.outcome in
    let old = misfits_of c.args.found.now.items in
    let put = c.in_ok-put_under.ensures ∙ ap (λ b. old ++ cond b (under (step_of o.step) (misfits_of o.misfits.items)) []) (sym c.if-is_kept.true ∙ c.is_kept.ensures) in
    doubts_there c.args.row.now (view c.args.tree.now) _ _ rest (outcome_of o) old _ there top is put
