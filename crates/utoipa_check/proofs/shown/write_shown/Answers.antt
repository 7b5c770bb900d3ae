use Rattle.std.proofs.Common.{[], ◌∷◌, ◌++◌, refl, ap, ◌∙◌, sym, subst}
use Rattle.std.proofs.Output.{has_written_append}
use Rattle.std.proofs.lemmas.Grind.{flat_map-append}
use Rattle.std.proofs.lemmas.List.{append-nil}
use Rattle.std.proofs.lemmas.Iterator.{YieldsList-from_chars}
use Rattle.std.proofs.lemmas.Iterator.Consumers.{YieldsList-end}
use Rattle.std.specs.Fmt.{HasWritten}
use Rattle.std.specs.List.{flat_map}
use Rattle.utoipa_check.specs.Shown.{shown_char}
use Rattle.utoipa_check.proofs.Pointers.{same_items}
use Rattle.utoipa_check.proofs.ShownTexts.{shown_by_chars}
use Rattle.utoipa_check.proofs.shown.write_shown.Goals as goal

pub returns : goal.returns
returns g c = λ plain ok.
    let t = YieldsList-end (YieldsList-from_chars c.args.text.now c.utf8.text cc) c.loop-letter.yielded _ c.loop-letter.yielded_by _ _ c.in-None.is c.next.ensures.steps in
    let all = ap (flat_map shown_char) (sym (same_items c.loop-letter.yielded) ∙ t.0) ∙ sym (shown_by_chars c.args.text.now c.utf8.text) in
    subst (λ bs. HasWritten g.W.Write.write_str_gives c.args.f.now bs c.loop-letter.f) all (c.loop-letter.invariant plain)

pub loop-letter-preserved : goal.loop-letter-preserved
loop-letter-preserved g c = λ plain.
    let before = c.loop-letter.invariant plain in
    let both = has_written_append _ _ _ _ _ _ before (c.in_ok-write.ensures.writes before.plain refl) in
    let more = ap (λ t. flat_map shown_char c.loop-letter.yielded ++ t) (sym (append-nil (shown_char c.in-Some.letter))) ∙ sym (flat_map-append shown_char c.loop-letter.yielded (c.in-Some.letter ∷ [])) in
    subst (λ bs. HasWritten g.W.Write.write_str_gives c.args.f.now bs c.write.new.self) more both
