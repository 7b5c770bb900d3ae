use Rattle.std.proofs.Common.{◌≡◌, []}
use Rattle.utoipa_security.specs.OAuth.{by_key, put_flows}
use Rattle.utoipa_security.proofs.security.flows.keyed_flows.Given as goal

abbrev pub invariant-loop-flow : goal.invariant-loop-flow
invariant-loop-flow g l = by_key l.map.entries ≡ put_flows l.yielded []
