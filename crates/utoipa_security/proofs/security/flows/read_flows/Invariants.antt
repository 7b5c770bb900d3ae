use Rattle.std.proofs.Common.{◌≡◌, List, ◌++◌}
use Rattle.serde_json.proofs.Views.{Entry}
use Rattle.utoipa_base.specs.Views.{pairs_of}
use Rattle.utoipa_base.proofs.Maps.{texts, prepend_entries}
use Rattle.utoipa_security.specs.OAuth.{flow_view}
use Rattle.utoipa_security.proofs.KeyedFlows.{flows_read}
use Rattle.utoipa_security.proofs.security.flows.read_flows.Given as goal

abbrev pub invariant-loop-key : goal.invariant-loop-key
invariant-loop-key l =
    (done : List Entry) × (l.initial.key-iterator ≡ done ++ l.key-iterator) × (texts l.map.entries ≡ texts done)
    × (flows_read l.initial.key-iterator ≡ prepend_entries (pairs_of flow_view l.map.entries) (flows_read l.key-iterator))
