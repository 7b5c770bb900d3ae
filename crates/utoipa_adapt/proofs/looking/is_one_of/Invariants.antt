use Rattle.std.proofs.Common.{◌≡◌, drop}
use Rattle.std.specs.List.{list_any}
use Rattle.std.specs.Str.{bytes_eq}
use Rattle.utoipa_base.specs.Rows.{texts}
use Rattle.utoipa_adapt.proofs.looking.is_one_of.Given as goal

abbrev pub invariant-loop-word : goal.invariant-loop-word
invariant-loop-word l = list_any (bytes_eq l.text) (texts l.words) ≡ list_any (bytes_eq l.text) (texts (drop l.word-index l.words))
