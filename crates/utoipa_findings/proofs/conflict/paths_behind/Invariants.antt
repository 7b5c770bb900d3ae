use Rattle.std.proofs.Common.{◌≡◌, ◌++◌, take, map, string_bytes}
use Rattle.utoipa_findings.proofs.conflict.paths_behind.Given as goal

abbrev pub invariant-loop-path : goal.invariant-loop-path
invariant-loop-path l = map string_bytes l.behind.items ≡ map (λ p. l.base ++ p.now) (take l.path-index l.paths)
