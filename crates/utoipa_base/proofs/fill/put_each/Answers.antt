use Rattle.std.proofs.Common.{◌∙◌, ap, sym, string_cmp}
use Rattle.std.specs.BTreeMap.{insert_entry}
use Rattle.utoipa_base.proofs.Puts.{put_each-last}
use Rattle.utoipa_base.proofs.fill.put_each.Goals as goal

pub loop-name-preserved : goal.loop-name-preserved
loop-name-preserved g c =
    c.in_ok-insert.ensures.entries ∙ ap (λ es. insert_entry string_cmp es c.in-Some.name c.in-Some.value) c.loop-name.invariant
    ∙ sym (put_each-last c.loop-name.yielded (c.in-Some.name, c.in-Some.value) _)
