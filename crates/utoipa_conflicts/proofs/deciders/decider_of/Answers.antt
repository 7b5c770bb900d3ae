use Rattle.std.proofs.Common.{ap, ◌∙◌, option_map}
use Rattle.utoipa_conflicts.specs.Deciders.{numbered_of}
use Rattle.utoipa_conflicts.proofs.Noting.{looked_up}
use Rattle.utoipa_conflicts.proofs.deciders.decider_of.Goals as goal

pub returns : goal.returns
returns c = ap (option_map numbered_of) (c.copied.ensures ∙ c.get.ensures.value ∙ looked_up c.args.holder c.args.deciders.now.entries)
