use Rattle.std.proofs.Common.{sym, ap, ◌∙◌}
use Rattle.utoipa_base.specs.Fill.{put_each}
use Rattle.utoipa_base.proofs.all_or_none.put_all.Goals as goal

pub loop-name-preserved : goal.loop-name-preserved
loop-name-preserved g c =
    let l = c.loop-name in
    record {
      taken = ap (put_each c.next.new.self) c.in-Ok.ensures.ok ∙ ap (λ es. put_each es l.map.entries) (sym c.in-Some.ensures.steps) ∙ l.invariant.taken;
      undone = c.put_noted.ensures.undone ∙ l.invariant.undone;
    }

pub returns-clause-ok : goal.returns-clause-ok
returns-clause-ok g c =
    let l = c.loop-name in
    ap (λ es. put_each es l.map.entries) (sym c.in-None.ensures.steps.0)
    ∙ l.invariant.taken
    ∙ ap (λ es. put_each es c.args.map.now.entries) c.into_iter-name-iterator.ensures.into_iter_gives.0
