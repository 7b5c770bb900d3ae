use Rattle.std.proofs.Common.{◌++◌, ◌∙◌, ap, sym}
use Rattle.serde_json.specs.View.{view}
use Rattle.utoipa_base.specs.Kinds as kinds
use Rattle.utoipa_check.specs.Misfits.{is_fit, checks, table_misfits, object_misfits}
use Rattle.utoipa_check.specs.Places.{members_at}
use Rattle.utoipa_check.specs.Views.{misfits_of}
use Rattle.utoipa_tables.specs.Tables.{kind_of}
use Rattle.utoipa_check.proofs.Doubters.{as_other}
use Rattle.utoipa_check.proofs.Steps.{misfits_of_join}
use Rattle.utoipa_check.proofs.doubter.reference_doubts.Goals as goal

pub returns : goal.returns
returns c =
    let ms = members_at (view c.args.tree.now) in
    let own = misfits_of c.args.own.items in
    let unfit = ap is_fit (sym c.in_ok-reference.ensures) ∙ sym c.is_fit.ensures ∙ c.if-is_fit.false in
    let fit = ap is_fit (sym c.in_ok-otherwise.ensures) ∙ sym c.is_fit-2.ensures ∙ c.if-not-is_fit.false in
    ap misfits_of c.in_ok-append.ensures.items ∙ misfits_of_join c.in_ok-reference.reference.items c.args.own.items ∙ ap (λ xs. xs ++ own) c.in_ok-reference.ensures
    ∙ as_other (table_misfits kinds.reference_object (checks ms)) (object_misfits ms (checks ms) (kind_of c.args.kind)) own unfit fit
