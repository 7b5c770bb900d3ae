use Rattle.std.proofs.Common.{◌≡◌, drop}
use Rattle.utoipa_findings.specs.Sources.{first_byte}
use Rattle.utoipa_findings.proofs.text.first_byte.Given as goal

abbrev pub invariant-loop-byte : goal.invariant-loop-byte
invariant-loop-byte l = first_byte (drop l.byte-index l.text) ≡ first_byte l.text
