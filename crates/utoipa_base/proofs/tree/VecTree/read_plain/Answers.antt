use Rattle.std.proofs.Common.{◌≡◌, Some, drop, [], ◌∙◌, ap, arith, rules}
use Rattle.std.proofs.lemmas.Grind.{common_steps}
use Rattle.serde_json.specs.Find.{as_array}
use Rattle.serde_json.specs.View.{view, items_view}
use Rattle.utoipa_base.proofs.ReadingLists.{list_begun, list_step, list_refused, list_within, list_read}
use Rattle.utoipa_base.proofs.tree.VecTree.read_plain.Goals as goal

pub loop-item-init : goal.loop-item-init
loop-item-init g c = list_begun _ _ _ _ _ (search rules)

pub loop-item-preserved : goal.loop-item-preserved
loop-item-preserved g c = list_step _ _ _ _ _ _ _ _ _ _ _ c.loop-item.invariant (omega arith) c.item-item.is c.in_ok-read_plain.ensures c.in_ok-push.ensures.items

pub returns-in_err-read_plain : goal.returns-in_err-read_plain
returns-in_err-read_plain g c =
    let is : Some (items_view c.deref-item-items.result.now) ≡ as_array (view c.args.tree.now) = ap (λ vs. Some (items_view vs)) c.deref-item-items.ensures.value ∙ c.in-Some.ensures in
    list_refused _ _ _ _ _ _ _ _ _ _ _ _ _ c.loop-item.invariant (omega arith) c.item-item.is is c.from_residual.ensures.1 c.in_err-read_plain.ensures

pub returns-in_err-push : goal.returns-in_err-push
returns-in_err-push g c =
    let is : Some (items_view c.deref-item-items.result.now) ≡ as_array (view c.args.tree.now) = ap (λ vs. Some (items_view vs)) c.deref-item-items.ensures.value ∙ c.in-Some.ensures in
    let within = list_within _ _ _ _ _ _ _ _ _ _ _ c.loop-item.invariant (omega arith) c.item-item.is is c.in_ok-read_plain.ensures in
    record { ok = search rules; err = search rules; grows = within.0; at_most = within.1; at_least = search rules }

pub returns : goal.returns
returns g c =
    let is : Some (items_view c.deref-item-items.result.now) ≡ as_array (view c.args.tree.now) = ap (λ vs. Some (items_view vs)) c.deref-item-items.ensures.value ∙ c.in-Some.ensures in
    let done : drop c.loop-item.item-index c.deref-item-items.result.now ≡ [] = grind (arith, common_steps) in
    list_read _ _ _ _ _ _ _ _ c.loop-item.invariant done is
