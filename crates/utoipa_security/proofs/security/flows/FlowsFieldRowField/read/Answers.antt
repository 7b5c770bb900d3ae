use Rattle.std.proofs.Common.{refl, rules}
use Rattle.utoipa_base.proofs.ByRows.{by_row}
use Rattle.utoipa_security.proofs.KeyedFlows.{flows_read_uncounted}
use Rattle.utoipa_security.proofs.security.flows.FlowsFieldRowField.read.Goals as goal

pub returns-in_ok-read_flows-in-Some : goal.returns-in_ok-read_flows-in-Some
returns-in_ok-read_flows-in-Some c = flows_read_uncounted _ _ c.in_ok-read_flows-in-Some.field-0 _ _ _ refl (search (rules, by_row))
