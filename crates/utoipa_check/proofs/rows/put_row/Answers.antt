use Rattle.std.proofs.Common.{◌∙◌, ap, sym, true, false}
use Rattle.std.proofs.lemmas.List.{append-nil}
use Rattle.serde_json.specs.View.{view}
use Rattle.utoipa_check.specs.Views.{stacked, outcome_of}
use Rattle.utoipa_check.proofs.ByRows.{none_taken, one_taken, put_absent, put_there}
use Rattle.utoipa_check.proofs.Steps.{stacked_last}
use Rattle.utoipa_check.proofs.rows.put_row.Goals as goal

pub returns-in_ok-put_here-in-None : goal.returns-in_ok-put_here-in-None
returns-in_ok-put_here-in-None c = λ rest is.
    (none_taken c.args.row.now (view c.args.tree.now) _ rest c.in-None.ensures is, put_absent c.args.row.now (view c.args.tree.now) _ _ true c.in-None.ensures (sym c.if-is_required.true ∙ c.is_required.ensures) c.in_ok-put_here-in-None.ensures)

pub returns-else-is_required : goal.returns-else-is_required
returns-else-is_required c = λ rest is.
    (none_taken c.args.row.now (view c.args.tree.now) _ rest c.in-None.ensures is, put_absent c.args.row.now (view c.args.tree.now) _ _ false c.in-None.ensures (sym c.if-is_required.false ∙ c.is_required.ensures) (sym (append-nil _)))

pub returns-in_ok-put_under-in-Some : goal.returns-in_ok-put_under-in-Some
returns-in_ok-put_under-in-Some c = λ rest is.
    let top = ap stacked c.in-Some-pop.ensures.items ∙ stacked_last c.pop.new.self.items c.in-Some-pop.outcome in
    let first = one_taken c.args.row.now (view c.args.tree.now) (view c.in-Some.member.now) _ _ rest _ c.in-Some.ensures top is in
    (first.1, put_there c.args.row.now (view c.args.tree.now) (view c.in-Some.member.now) _ _ (outcome_of c.in-Some-pop.outcome) true _ c.in-Some.ensures first.0 (sym c.if-has_to_fit.true ∙ c.has_to_fit.ensures) c.is_null.ensures c.in_ok-put_under-in-Some.ensures)

pub returns-else-has_to_fit : goal.returns-else-has_to_fit
returns-else-has_to_fit c = λ rest is.
    let top = ap stacked c.in-Some-pop.ensures.items ∙ stacked_last c.pop.new.self.items c.in-Some-pop.outcome in
    let first = one_taken c.args.row.now (view c.args.tree.now) (view c.in-Some.member.now) _ _ rest _ c.in-Some.ensures top is in
    (first.1, put_there c.args.row.now (view c.args.tree.now) (view c.in-Some.member.now) _ _ (outcome_of c.in-Some-pop.outcome) false _ c.in-Some.ensures first.0 (sym c.if-has_to_fit.false ∙ c.has_to_fit.ensures) c.is_null.ensures (sym (append-nil _)))
