use Rattle.std.proofs.Common.{◌≡◌, ◌∙◌, ap, sym, string_bytes, nat_cmp, []}
use Rattle.std.specs.BTreeMap.{insert_entry}
use Rattle.std.specs.Cmp.Lexicographic.{slice_cmp}
use Rattle.utoipa_security.specs.OAuth.{by_key, flow_key, put_flows}
use Rattle.utoipa_security.proofs.KeyedFlows.{by_key-insert_entry, put_flows-last}
use Rattle.utoipa_security.proofs.security.flows.keyed_flows.Goals as goal

pub loop-flow-preserved : goal.loop-flow-preserved
loop-flow-preserved g c =
    let l = c.loop-flow in
    let flow = c.in-Some.flow in
    let named : string_bytes c.in_ok-name.name ≡ flow_key flow = c.in_ok-name.ensures.ok ∙ c.key.ensures in
    ap by_key c.in_ok-insert.ensures.entries
    ∙ by_key-insert_entry l.map.entries c.in_ok-name.name flow
    ∙ ap (λ es. insert_entry (slice_cmp nat_cmp) es (string_bytes c.in_ok-name.name) flow) l.invariant
    ∙ ap (λ k. insert_entry (slice_cmp nat_cmp) (put_flows l.yielded []) k flow) named
    ∙ sym (put_flows-last l.yielded flow [])
