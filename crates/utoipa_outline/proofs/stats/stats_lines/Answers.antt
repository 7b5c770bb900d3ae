use Rattle.std.proofs.Common.{◌∙◌}
use Rattle.std.proofs.lemmas.Result.{IfOk-weaker}
use Rattle.utoipa_outline.proofs.Counts.{same_stats}
use Rattle.utoipa_outline.proofs.stats.stats_lines.Goals as goal

pub returns : goal.returns
returns c =
    IfOk-weaker c.lines_of.result _ _
    (λ lines is. is
    ∙ same_stats _ _ _ _ _ _ _ _ _ _ _ _ _ _ c.args.size c.in_ok-paths.ensures c.in_ok-webhooks.ensures c.in_ok-operations.ensures c.in_ok-schemas.ensures c.in_ok-used.ensures.used c.in_ok-used.ensures.unused c.depth-depth.ensures)
    c.lines_of.ensures
