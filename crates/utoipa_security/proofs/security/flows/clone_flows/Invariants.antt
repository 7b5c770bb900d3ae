use Rattle.std.proofs.Common.{◌≡◌, List, ◌++◌, String, Global}
use Rattle.utoipa_base.specs.Views.{pairs_of}
use Rattle.utoipa_base.proofs.Maps.{texts}
use Rattle.utoipa_security.specs.OAuth.{flow_view}
use Rattle.utoipa_security.specs.declared.security.flows.Flow.{Flow}
use Rattle.utoipa_security.proofs.security.flows.clone_flows.Given as goal

abbrev pub invariant-loop-key : goal.invariant-loop-key
invariant-loop-key l =
    (done : List (String Global × Flow)) × (l.flows.entries ≡ done ++ l.key-iterator) × (texts l.map.entries ≡ texts done) × (pairs_of flow_view l.map.entries ≡ pairs_of flow_view done)
