use Rattle.std.proofs.Common.{sym, ap, ◌∙◌}
use Rattle.std.specs.Option.{option_copied_mut}
use Rattle.utoipa_base.proofs.TakenBack.{set_value-absent}
use Rattle.utoipa_base.proofs.all_or_none.set_value.Goals as goal

pub returns-in_default : goal.returns-in_default
returns-in_default g c =
    ap (λ m. m.entries) c.get_mut.follows.holds-at-none
    ∙ sym (set_value-absent c.args.name.now c.args.map.now.entries c.args.value (sym c.get_mut.ensures.value ∙ ap option_copied_mut c.in_default.is))
