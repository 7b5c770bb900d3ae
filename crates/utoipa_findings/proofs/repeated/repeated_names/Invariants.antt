use Rattle.std.proofs.Common.{◌≡◌, ◌++◌, map}
use Rattle.json.specs.Value.{value_view}
use Rattle.utoipa_duplicates.specs.Duplicates.{duplicates}
use Rattle.utoipa_duplicates.specs.Views.{places_of}
use Rattle.utoipa_findings.specs.Findings.{repeated_at}
use Rattle.utoipa_findings.specs.Views.{all_findings}
use Rattle.utoipa_findings.proofs.repeated.repeated_names.Given as goal

abbrev pub invariant-loop-pointer : goal.invariant-loop-pointer
invariant-loop-pointer l = all_findings l.found.items ++ map repeated_at (places_of l.pointer-iterator.rest.items) ≡ map repeated_at (duplicates (value_view l.fn.value))
