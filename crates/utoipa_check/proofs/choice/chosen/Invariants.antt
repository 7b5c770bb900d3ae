use Rattle.std.proofs.Common.{◌≡◌, drop}
use Rattle.utoipa_base.specs.Choices as specs
use Rattle.utoipa_tables.specs.Tables.{choices_of}
use Rattle.utoipa_check.proofs.choice.chosen.Given as goal

abbrev pub invariant-loop-choice : goal.invariant-loop-choice
invariant-loop-choice l = specs.chosen l.word (choices_of l.choices) ≡ specs.chosen l.word (choices_of (drop l.choice-index l.choices))
