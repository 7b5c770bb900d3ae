use Rattle.std.proofs.Common.{◌∙◌, ap, sym, cond, arith, []}
use Rattle.serde_json.specs.View.{view}
use Rattle.utoipa_check.specs.Misfits.{here, absent, is_fit}
use Rattle.utoipa_check.specs.Views.{outcome_of, misfits_of}
use Rattle.utoipa_check.proofs.ByRows.{none_taken, one_taken, row_absent, fits_there, fits_either, fits_neither, last_stacked}
use Rattle.utoipa_check.proofs.rows.after_row.Goals as goal

pub returns-then-is_required : goal.returns-then-is_required
returns-then-is_required c = λ rest is. ap is_fit (row_absent c.args.row.now (view c.args.tree.now) (sym c.in_default.ensures) ∙ ap (λ b. cond b (here (absent c.args.row.now.name.now)) []) (sym c.is_required.ensures ∙ c.if-is_required.true))

pub returns-else-is_required : goal.returns-else-is_required
returns-else-is_required c = λ rest is.
    (none_taken c.args.row.now (view c.args.tree.now) _ rest c.in_default.ensures is, omega arith, ap is_fit (row_absent c.args.row.now (view c.args.tree.now) (sym c.in_default.ensures) ∙ ap (λ b. cond b (here (absent c.args.row.now.name.now)) []) (sym c.is_required.ensures ∙ c.if-is_required.false)))

pub returns-then-not-fits : goal.returns-then-not-fits
returns-then-not-fits c = λ rest is.
    let o = c.index-inner-left.result in
    let top = last_stacked c.args.inner.now c.args.left o c.requires c.if-left-eq0.false c.index-inner-left.is in
    let first = one_taken c.args.row.now (view c.args.tree.now) (view c.in-Some.member.now) _ _ rest _ c.in-Some.ensures top is in
    let fit = c.is_fit-fits.ensures ∙ ap (λ x. is_fit (misfits_of x.misfits.items)) (sym c.index-inner-left.is) in
    fits_there c.args.row.now (view c.args.tree.now) (view c.in-Some.member.now) (outcome_of o) _ _ _ c.in-Some.ensures first.0 c.has_to_fit.ensures c.is_null.ensures fit ∙ fits_neither _ _ c.if-has_to_fit.true c.if-not-fits.true

pub returns : goal.returns
returns c = λ rest is.
    let o = c.index-inner-left.result in
    let top = last_stacked c.args.inner.now c.args.left o c.requires c.if-left-eq0.false c.index-inner-left.is in
    let first = one_taken c.args.row.now (view c.args.tree.now) (view c.in-Some.member.now) _ _ rest _ c.in-Some.ensures top is in
    let fit = c.is_fit-fits.ensures ∙ ap (λ x. is_fit (misfits_of x.misfits.items)) (sym c.index-inner-left.is) in
    (first.1, omega arith, fits_there c.args.row.now (view c.args.tree.now) (view c.in-Some.member.now) (outcome_of o) _ _ _ c.in-Some.ensures first.0 c.has_to_fit.ensures c.is_null.ensures fit ∙ fits_either _ _ c.else-has_to_fit.either)
