use Rattle.std.proofs.Common.{◌≡◌, drop, not}
use Rattle.std.specs.List.{list_any}
use Rattle.utoipa_check.specs.Referring.{is_name_letter}
use Rattle.utoipa_check.proofs.referring.is_plain_name.Given as goal

abbrev pub invariant-loop-letter : goal.invariant-loop-letter
invariant-loop-letter l = list_any (λ x. not (is_name_letter x)) (drop l.letter-index l.letter-items) ≡ list_any (λ x. not (is_name_letter x)) l.text
