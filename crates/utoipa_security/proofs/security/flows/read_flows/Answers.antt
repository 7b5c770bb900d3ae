use Rattle.std.proofs.Common.{◌≡◌, refl, None, Some, [], ◌∷◌, ◌++◌, ◌∙◌, ap, sym, subst, string_cmp, rules}
use Rattle.std.specs.List.Sorted.{IsStrictlySortedBy}
use Rattle.std.specs.Map.{keys_of}
use Rattle.serde_json.proofs.Views.{Entry}
use Rattle.serde_json.specs.Find.{as_object}
use Rattle.serde_json.specs.View.{view, members_view}
use Rattle.utoipa_base.specs.Views.{pairs_of}
use Rattle.utoipa_base.proofs.ByRows.{passes_on}
use Rattle.utoipa_base.proofs.Maps.{texts, prepend_entries}
use Rattle.utoipa_security.specs.OAuth.{flow_view, flow_read}
use Rattle.utoipa_security.proofs.KeyedFlows.{flows_next, flows_read, flows_read-step, flows_read-stop, flows_read-end, flows_by_entries}
use Rattle.utoipa_security.proofs.security.flows.read_flows.Goals as goal

pub loop-key-init : goal.loop-key-init
loop-key-init c =
    let es = c.into_iter-key-iterator.result in
    let empty : c.new-map.result.entries ≡ [] = search rules in
    ([], refl, ap texts empty, ap (λ r. prepend_entries (pairs_of flow_view r) (flows_read es)) (sym empty))

pub returns-in_err-value-clause-err : goal.returns-in_err-value-clause-err
returns-in_err-value-clause-err c =
    let l = c.loop-key in
    let es = c.into_iter-key-iterator.result in
    let e : Entry = (c.in-Some-2.key.now, c.in-Some-2.member.now) in
    let left = c.next.new.self in
    let ds = pairs_of flow_view l.map.entries in
    let rest : l.key-iterator ≡ e ∷ left = c.in-Some-2.ensures.steps in
    let is_all : es ≡ c.in-Some.members.now.entries = c.into_iter-key-iterator.ensures.into_iter_gives ∙ c.iter-key-items.ensures.rest in
    let is : Some (members_view es) ≡ as_object (view c.args.tree.now) = ap (λ vs. Some (members_view vs)) is_all ∙ c.in-Some.ensures in
    let keyed = ap (λ k. flow_read k (view e.1)) (sym c.as_str.ensures.value) in
    passes_on _ _ _ _ c.from_residual-in_err-value.ensures.1 c.in_err-value.ensures.err
    (λ h. flows_by_entries _ es None is (flows_read-stop e left ds _ (l.invariant.3 ∙ ap (λ r. prepend_entries ds (flows_read r)) rest) (keyed ∙ h)))

pub loop-key-preserved : goal.loop-key-preserved
loop-key-preserved c =
    let l = c.loop-key in
    let done = l.invariant.0 in
    let e : Entry = (c.in-Some-2.key.now, c.in-Some-2.member.now) in
    let left = c.next.new.self in
    let ds = pairs_of flow_view l.map.entries in
    let rest : l.key-iterator ≡ e ∷ left = c.in-Some-2.ensures.steps in
    let all : c.into_iter-key-iterator.result ≡ c.in-Some.members.now.entries = c.into_iter-key-iterator.ensures.into_iter_gives ∙ c.iter-key-items.ensures.rest in
    let ordered = subst (λ r. IsStrictlySortedBy string_cmp (keys_of r)) (sym all) c.iter-key-items.ensures.ordered in
    let keyed = ap (λ k. flow_read k (view e.1)) (sym c.as_str.ensures.value) in
    let next = flows_next _ done _ _ _ e left _ _ l.invariant.1 l.invariant.2 rest ordered c.in_ok-name.ensures.cases c.in_ok-insert.ensures.entries in (
      done ++ e ∷ [],
      next.0,
      next.1,
      flows_read-step e left ds _ _ (l.invariant.3 ∙ ap (λ r. prepend_entries ds (flows_read r)) rest) (keyed ∙ c.in_ok-value.ensures.ok) ∙ ap (λ r. prepend_entries r (flows_read left)) (sym next.2),
    )

pub returns-clause-ok : goal.returns-clause-ok
returns-clause-ok c =
    let l = c.loop-key in
    let es = c.into_iter-key-iterator.result in
    let ds = pairs_of flow_view l.map.entries in
    let is_all : es ≡ c.in-Some.members.now.entries = c.into_iter-key-iterator.ensures.into_iter_gives ∙ c.iter-key-items.ensures.rest in
    let is : Some (members_view es) ≡ as_object (view c.args.tree.now) = ap (λ vs. Some (members_view vs)) is_all ∙ c.in-Some.ensures in
    flows_by_entries _ es _ is (flows_read-end ds _ (l.invariant.3 ∙ ap (λ r. prepend_entries ds (flows_read r)) c.in-None.ensures.steps.0))
