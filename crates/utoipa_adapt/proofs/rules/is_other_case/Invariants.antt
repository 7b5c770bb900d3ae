use Rattle.std.proofs.Common.{◌≡◌, drop}
use Rattle.utoipa_base.specs.Rows.{texts}
use Rattle.utoipa_adapt.specs.Rules as specs
use Rattle.utoipa_adapt.proofs.rules.is_other_case.Given as goal

abbrev pub invariant-loop-word : goal.invariant-loop-word
invariant-loop-word l = specs.is_other_case (texts l.words) l.text ≡ specs.is_other_case (texts (drop l.word-index l.words)) l.text
