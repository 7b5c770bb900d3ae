use Rattle.std.proofs.Common.{◌++◌, ◌∙◌, ap}
use Rattle.serde_json.specs.View.{view}
use Rattle.utoipa_base.specs.Tables.{table}
use Rattle.utoipa_check.specs.Doubts as specs
use Rattle.utoipa_check.specs.Misfits.{checks}
use Rattle.utoipa_check.specs.Places.{members_at}
use Rattle.utoipa_check.specs.Views.{misfits_of}
use Rattle.utoipa_check.proofs.Steps.{misfits_of_join}
use Rattle.utoipa_check.proofs.doubter.schema_doubts.Goals as goal

pub returns : goal.returns
returns c =
    let ms = members_at (view c.args.tree.now) in
    let ds = specs.doubters ms in
    let kept = misfits_of c.in_ok-kept.kept.items in
    ap misfits_of c.in_ok-append.ensures.items ∙ misfits_of_join c.in_ok-found.found.items c.in_ok-kept.kept.items ∙ ap (λ xs. xs ++ kept) c.in_ok-found.ensures
    ∙ ap (λ xs. specs.meant_doubts ms (checks ms) ++ xs) c.in_ok-kept.ensures
    ∙ ap (λ rs. specs.meant_doubts ms (checks ms) ++ specs.rows_doubts rs ds) c.schema_rows-taken.ensures.table
    ∙ ap (λ n. specs.meant_doubts ms (checks ms) ++ specs.rows_doubts (table n) ds) c.taken_schema.ensures
