use Rattle.std.proofs.Common.{ap, sym, ◌∙◌}
use Rattle.std.specs.Option.{option_copied}
use Rattle.utoipa_meaning.specs.Changes.{is_number}
use Rattle.utoipa_meaning.proofs.Origins.{looked_up}
use Rattle.utoipa_meaning.proofs.origin.comes_from.Goals as goal

pub returns-in-Some : goal.returns-in-Some
returns-in-Some c = ap (is_number c.args.number) (sym (ap option_copied c.in-Some.is) ∙ c.get.ensures.value ∙ looked_up c.args.place c.args.origins.now.entries)

pub returns-in-None : goal.returns-in-None
returns-in-None c = ap (is_number c.args.number) (sym (ap option_copied c.in-None.is) ∙ c.get.ensures.value ∙ looked_up c.args.place c.args.origins.now.entries)
