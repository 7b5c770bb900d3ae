use Rattle.std.proofs.Common.{◌∙◌, sym, refl, true, false}
use Rattle.std.proofs.lemmas.List.{append-nil}
use Rattle.serde_json.specs.View.{view}
use Rattle.utoipa_check.specs.Misfits.{misfits}
use Rattle.utoipa_tables.specs.Tables.{kind_of}
use Rattle.utoipa_check.proofs.ByRows.{put_absent, put_found}
use Rattle.utoipa_check.proofs.object.put_plain_row.Goals as goal

pub returns-in_ok-put_here-in-None : goal.returns-in_ok-put_here-in-None
returns-in_ok-put_here-in-None c = put_absent c.args.row.now (view c.args.tree.now) _ _ true c.in-None.ensures (sym c.if-is_required.true ∙ c.is_required.ensures) c.in_ok-put_here-in-None.ensures

pub returns-else-is_required : goal.returns-else-is_required
returns-else-is_required c = put_absent c.args.row.now (view c.args.tree.now) _ _ false c.in-None.ensures (sym c.if-is_required.false ∙ c.is_required.ensures) (sym (append-nil _))

pub returns-in_ok-put_under-in-Some : goal.returns-in_ok-put_under-in-Some
returns-in_ok-put_under-in-Some c =
    put_found c.args.row.now (view c.args.tree.now) (view c.in-Some.member.now) _ _ _ true _ c.in-Some.ensures c.in_ok-inner-in-Some.ensures (sym c.if-has_to_fit.true ∙ c.has_to_fit.ensures) c.is_null.ensures c.in_ok-put_under-in-Some.ensures

pub returns-else-has_to_fit : goal.returns-else-has_to_fit
returns-else-has_to_fit c =
    put_found c.args.row.now (view c.args.tree.now) (view c.in-Some.member.now) _ _ (misfits (kind_of c.args.row.now.kind) (view c.in-Some.member.now)) false _ c.in-Some.ensures refl (sym c.if-has_to_fit.false ∙ c.has_to_fit.ensures) c.is_null.ensures (sym (append-nil _))
