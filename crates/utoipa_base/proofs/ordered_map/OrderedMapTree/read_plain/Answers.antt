use Rattle.std.proofs.Common.{◌≡◌, Some, ◌∙◌, ap, sym, subst, rules, string_cmp}
use Rattle.std.specs.List.Sorted.{IsStrictlySortedBy}
use Rattle.std.specs.Map.{keys_of}
use Rattle.serde_json.specs.Find.{as_object}
use Rattle.serde_json.specs.View.{view, members_view}
use Rattle.utoipa_base.proofs.ReadingMaps.{map_begun, map_refused, map_within, map_within_next}
use Rattle.utoipa_base.proofs.OrderedMaps.{ordered_map_step, ordered_map_refused, ordered_map_read}
use Rattle.utoipa_base.proofs.ordered_map.OrderedMapTree.read_plain.Goals as goal

pub loop-key-init : goal.loop-key-init
loop-key-init g c = map_begun _ _ _ _ _ (search rules)

pub loop-key-preserved : goal.loop-key-preserved
loop-key-preserved g c =
    let all : c.into_iter-key-iterator.result ≡ c.in-Some.members.now.entries = c.into_iter-key-iterator.ensures.into_iter_gives ∙ c.iter-key-items.ensures.rest in
    let ordered = subst (λ r. IsStrictlySortedBy string_cmp (keys_of r)) (sym all) c.iter-key-items.ensures.ordered in
    ordered_map_step _ _ _ _ _ _ _ _ _ _ _ _ _ c.loop-key.invariant c.in-Some-2.ensures.steps ordered c.in_ok-name.ensures.cases c.in_ok-insert.ensures.entries c.in_ok-value.ensures

pub returns-in_err-name : goal.returns-in_err-name
returns-in_err-name g c =
    let all : c.into_iter-key-iterator.result ≡ c.in-Some.members.now.entries = c.into_iter-key-iterator.ensures.into_iter_gives ∙ c.iter-key-items.ensures.rest in
    let is : Some (members_view c.into_iter-key-iterator.result) ≡ as_object (view c.args.tree.now) = ap (λ vs. Some (members_view vs)) all ∙ c.in-Some.ensures in
    let within = map_within _ _ _ _ _ _ _ _ c.loop-key.invariant is in
    record { ok = search rules; err = search rules; grows = within.0; at_most = within.1; at_least = search rules }

pub returns-in_err-value : goal.returns-in_err-value
returns-in_err-value g c =
    let all : c.into_iter-key-iterator.result ≡ c.in-Some.members.now.entries = c.into_iter-key-iterator.ensures.into_iter_gives ∙ c.iter-key-items.ensures.rest in
    let is : Some (members_view c.into_iter-key-iterator.result) ≡ as_object (view c.args.tree.now) = ap (λ vs. Some (members_view vs)) all ∙ c.in-Some.ensures in
    ordered_map_refused _ _ _ _ _ _ _ c.from_residual-in_err-value.ensures.1
    (map_refused _ _ _ _ _ _ _ _ _ _ _ _ _ _ c.loop-key.invariant c.in-Some-2.ensures.steps is c.from_residual-in_err-value.ensures.1 c.in_err-value.ensures)

pub returns-in_err-insert : goal.returns-in_err-insert
returns-in_err-insert g c =
    let all : c.into_iter-key-iterator.result ≡ c.in-Some.members.now.entries = c.into_iter-key-iterator.ensures.into_iter_gives ∙ c.iter-key-items.ensures.rest in
    let is : Some (members_view c.into_iter-key-iterator.result) ≡ as_object (view c.args.tree.now) = ap (λ vs. Some (members_view vs)) all ∙ c.in-Some.ensures in
    let within = map_within_next _ _ _ _ _ _ _ _ _ _ _ _ c.loop-key.invariant c.in-Some-2.ensures.steps is c.in_ok-value.ensures in
    record { ok = search rules; err = search rules; grows = within.0; at_most = within.1; at_least = search rules }

pub returns : goal.returns
returns g c =
    let all : c.into_iter-key-iterator.result ≡ c.in-Some.members.now.entries = c.into_iter-key-iterator.ensures.into_iter_gives ∙ c.iter-key-items.ensures.rest in
    let is : Some (members_view c.into_iter-key-iterator.result) ≡ as_object (view c.args.tree.now) = ap (λ vs. Some (members_view vs)) all ∙ c.in-Some.ensures in
    let ordered = subst (λ r. IsStrictlySortedBy string_cmp (keys_of r)) (sym all) c.iter-key-items.ensures.ordered in
    ordered_map_read _ _ _ _ _ _ _ _ c.loop-key.invariant c.in-None.ensures.steps.0 ordered is
