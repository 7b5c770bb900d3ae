use Rattle.std.proofs.Common.{ap, ◌∙◌, sym, subst}
use Rattle.std.proofs.lemmas.Iterator.{YieldsList-from_chars}
use Rattle.std.proofs.lemmas.Iterator.Consumers.{YieldsList-end}
use Rattle.std.specs.Fmt.{HasWritten}
use Rattle.std.specs.List.{flat_map}
use Rattle.utoipa_check.specs.Pointers.{escaped_char}
use Rattle.utoipa_check.proofs.Pointers.{same_items}
use Rattle.utoipa_check.proofs.pointer.write_name.Goals as goal

pub returns : goal.returns
returns g c = λ plain ok.
    let t = YieldsList-end (YieldsList-from_chars c.args.name.now c.utf8.name cc) c.loop-c.yielded _ c.loop-c.yielded_by _ _ c.in-None.is c.next.ensures.steps in
    subst (λ bs. HasWritten g.W.Write.write_str_gives c.args.f.now bs c.loop-c.f) (ap (flat_map escaped_char) (sym (same_items c.loop-c.yielded) ∙ t.0)) (c.loop-c.invariant plain)
