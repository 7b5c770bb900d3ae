use Rattle.std.proofs.Common.{◌≡◌, ◌++◌, map}
use Rattle.utoipa_check.specs.DroppedViews.{all_dropped}
use Rattle.utoipa_findings.specs.Findings.{lost_at}
use Rattle.utoipa_findings.specs.Views.{all_findings}
use Rattle.utoipa_findings.proofs.report.put_places.Given as goal

abbrev pub invariant-loop-dropped : goal.invariant-loop-dropped
invariant-loop-dropped l = all_findings l.found.items ++ map lost_at (all_dropped l.dropped-iterator.rest.items) ≡ all_findings l.initial.found.items ++ map lost_at (all_dropped l.fn.places.items)
