use Rattle.std.proofs.Common.{sym, ap, ◌∙◌}
use Rattle.utoipa_base.specs.AllOrNone.{undone}
use Rattle.utoipa_base.proofs.TakenBack.{undone-last}
use Rattle.utoipa_base.proofs.all_or_none.take_back.Goals as goal

pub loop-last-preserved : goal.loop-last-preserved
loop-last-preserved g c =
    let l = c.loop-last in
    ap (undone c.pop.new.self.items) c.restore.ensures ∙ sym (undone-last c.pop.new.self.items c.in-Some.last l.map.entries) ∙ ap (λ rs. undone rs l.map.entries) (sym c.in-Some.ensures.items) ∙ l.invariant
