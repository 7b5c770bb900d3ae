use Rattle.std.proofs.Common.{◌≡◌, ◌+◌, ◌-◌, ◌≤◌, ◌<◌, ◌++◌, arith, length, take, drop, sym, ap, ◌∙◌, subst, take-add}
use Rattle.std.proofs.lemmas.List.{take_rest, length-drop}
use Rattle.std.specs.Io.KnownBytes.{Appends}
use Rattle.std.proofs.KnownBytes.{Appends-trans}
use Rattle.utoipa_command.proofs.writing.write_whole.Goals as goal

pub loop-at-preserved : goal.loop-at-preserved
loop-at-preserved g c =
    let text = c.args.text.now in
    let at = c.loop-at.at in
    let n = c.in-Ok.count in
    let more : take at text ++ take n (take (length text - at) (drop at text)) ≡ take (at + n) text
    = ap (λ r. take at text ++ take n r) (take_rest text at) ∙ sym (take-add at n text) in
    let rest : length (take (length text - at) (drop at text)) ≡ length text - at
    = ap length (take_rest text at) ∙ length-drop at text in
    let took : n ≤ length (take (length text - at) (drop at text)) = c.in-Ok.ensures.bound in
    let some : 0 < n = omega (arith, c.in-Ok.count-test) in
    record {
      within = omega (arith, c.loop-at.invariant.within);
      written = subst (Appends _ _) more (Appends-trans _ _ _ _ _ c.loop-at.invariant.written c.in-Ok.ensures.bytes);
      room = λ h.
          let left = c.loop-at.invariant.room h in
          let kept = c.in-Ok.ensures.taken (omega (arith, rest, c.loop-at-test.true)) (omega (arith, rest, left)) in
          omega (arith, kept.1, left);
      nothing = λ e. absurd (omega arith);
      unfailed = c.in-Ok.ensures.kept ∙ c.loop-at.invariant.unfailed;
    }
