use Rattle.std.proofs.Common.{◌≡◌, []}
use Rattle.utoipa_security.specs.Scopes.{put_descriptions}
use Rattle.utoipa_security.proofs.security.scopes.Scopes.from_pairs.Given as goal

abbrev pub invariant-loop-scope : goal.invariant-loop-scope
invariant-loop-scope g l = l.scopes.entries ≡ put_descriptions l.yielded []
