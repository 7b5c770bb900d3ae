use Rattle.std.proofs.Common.{[], ◌∷◌, ◌++◌, refl, ap, ◌∙◌, sym, subst}
use Rattle.std.proofs.Output.{has_written_append}
use Rattle.std.proofs.lemmas.Grind.{flat_map-append}
use Rattle.std.proofs.lemmas.Iterator.{YieldsList-from_chars}
use Rattle.std.proofs.lemmas.Iterator.Consumers.{YieldsList-end}
use Rattle.std.proofs.lemmas.List.{append-nil}
use Rattle.std.specs.Fmt.{HasWritten}
use Rattle.std.specs.List.{flat_map}
use Rattle.utoipa_check.specs.Pointers.{shown_escaped_char}
use Rattle.utoipa_check.proofs.Pointers.{same_items}
use Rattle.utoipa_check.proofs.ShownPointers.{name_shown}
use Rattle.utoipa_check.proofs.pointer.write_shown_name.Goals as goal

pub returns : goal.returns
returns g c = λ plain ok.
    let t = YieldsList-end (YieldsList-from_chars c.args.name.now c.utf8.name cc) c.loop-c.yielded _ c.loop-c.yielded_by _ _ c.in-None.is c.next.ensures.steps in
    let all = ap (flat_map shown_escaped_char) (sym (same_items c.loop-c.yielded) ∙ t.0) ∙ name_shown c.args.name.now c.utf8.name in
    subst (λ bs. HasWritten g.W.Write.write_str_gives c.args.f.now bs c.loop-c.f) all (c.loop-c.invariant plain)

pub loop-c-preserved : goal.loop-c-preserved
loop-c-preserved g c = λ plain.
    let before = c.loop-c.invariant plain in
    let both = has_written_append _ _ _ _ _ _ before (c.in_ok-write.ensures.writes before.plain refl) in
    let more = ap (λ t. flat_map shown_escaped_char c.loop-c.yielded ++ t) (sym (append-nil (shown_escaped_char c.in-Some.c))) ∙ sym (flat_map-append shown_escaped_char c.loop-c.yielded (c.in-Some.c ∷ [])) in
    subst (λ bs. HasWritten g.W.Write.write_str_gives c.args.f.now bs c.write.new.self) more both
