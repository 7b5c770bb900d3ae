use Rattle.std.proofs.Common.{refl, arith, subst}
use Rattle.std.proofs.Output.{has_written_append}
use Rattle.std.specs.Fmt.{HasWritten}
use Rattle.utoipa_check.proofs.Pointers.{shown_more}
use Rattle.utoipa_check.proofs.pointer.ShownPointerDisplay.fmt.Goals as goal

pub steps-preserved : goal.steps-preserved
steps-preserved g c = record {
  within = omega (arith, c.steps.invariant.within);
  written = λ plain.
      let before = c.steps.invariant.written plain in
      let both = has_written_append _ _ _ _ _ _ before (c.in_ok-write.ensures.writes before.plain refl) in
      subst (λ bs. HasWritten g.W.Write.write_str_gives c.args.f.now bs c.write.new.self) (shown_more c.args.self.now.0.now.steps.items c.steps.left c.index.result.now c.steps-test.true c.steps.invariant.within c.index.ensures) both;
}
