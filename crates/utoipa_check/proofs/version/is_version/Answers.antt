use Rattle.std.proofs.Common.{rules, ◌∙◌}
use Rattle.utoipa_check.proofs.Versions.{no_piece, next_piece, whole_text}
use Rattle.utoipa_check.proofs.version.is_version.Goals as goal

pub loop-piece-init : goal.loop-piece-init
loop-piece-init c = (c.utf8.text, no_piece c.args.text.now)

pub loop-piece-preserved : goal.loop-piece-preserved
loop-piece-preserved c =
    let next = next_piece _ c.and_piece-numbers.result _ c.in-Some.piece c.in-Some.later _ c.in-Some.ensures.cases c.and_piece-numbers.ensures c.loop-piece.invariant.1 in
    search rules

pub returns : goal.returns
returns c = c.name_version.ensures ∙ whole_text _ _ _ _ c.in_default.ensures.cases c.and_piece.ensures c.loop-piece.invariant.1
