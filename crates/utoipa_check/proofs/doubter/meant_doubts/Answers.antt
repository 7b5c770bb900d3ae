use Rattle.std.proofs.Common.{◌≡◌, ◌∙◌, ap, sym, true}
use Rattle.serde_json.specs.View.{view}
use Rattle.utoipa_base.specs.Tables.{table}
use Rattle.utoipa_check.specs.Misfits.{is_fit, checks, rows_misfits, table_misfits, meant_schema}
use Rattle.utoipa_check.specs.Places.{members_at}
use Rattle.utoipa_check.specs.Views.{misfits_of}
use Rattle.utoipa_check.proofs.Doubters.{as_meant}
use Rattle.utoipa_check.proofs.doubter.meant_doubts.Goals as goal

pub returns-then-fits_rows : goal.returns-then-fits_rows
returns-then-fits_rows c =
    let ms = members_at (view c.args.tree.now) in
    let cs = checks ms in
    let fit : is_fit (table_misfits (meant_schema ms) cs) ≡ true =
    ap (λ n. is_fit (rows_misfits (table n) cs)) (sym c.meant_schema.ensures) ∙ ap (λ rs. is_fit (rows_misfits rs cs)) (sym c.schema_rows-meant.ensures.table) ∙ sym c.fits_rows.ensures ∙ c.if-fits_rows.true
    in
    ap misfits_of c.new-then-fits_rows.ensures.items ∙ as_meant ms cs fit
