use Rattle.std.proofs.Common.{◌≡◌, ◌↔◌, ◌<◌, ◌+◌, ap, arith, drop, length, map}
use Rattle.std.specs.Slice.Iter.{iter_rest}
use Rattle.utoipa_base.specs.Docs.{doc, docs_of}
use Rattle.utoipa_base.proofs.SameDocs.{docs_split, if_true, item_whole, items_whole, same_items}
use Rattle.utoipa_base.proofs.compare.VecSame.same.Goals as goal

pub same-requires-clause-whole : goal.same-requires-clause-whole
same-requires-clause-whole g c =
    let l = c.loop-item in
    let xs = c.deref-item-items.result.now in
    let within : l.item-index < length xs = omega arith in
    item_whole _ _ _ (docs_split g.T.Documented.doc xs l.item-index c.item-item.result within c.item-item.is) l.invariant.left_whole

pub loop-item-preserved : goal.loop-item-preserved
loop-item-preserved g c =
    let f = g.T.Documented.doc in
    let l = c.loop-item in
    let xs = c.deref-item-items.result.now in
    let x = c.item-item.result in
    let y = c.in-Some.other.now in
    let left = docs_of (map f (drop (l.item-index + 1) xs)) in
    let right = docs_of (map f (iter_rest c.next.new.self)) in
    let within : l.item-index < length xs = omega arith in
    let here : docs_of (map f (drop l.item-index xs)) ≡ doc (f x) left = docs_split f xs l.item-index x within c.item-item.is in
    let there : docs_of (map f (iter_rest l.others)) ≡ doc (f y) right = ap (λ ys. docs_of (map f ys)) c.in-Some.ensures.steps in
    let equal : f x ≡ f y = if_true c.if-not-same.false c.same.ensures in
    let before : (docs_of (map f xs) ≡ docs_of (map f (iter_rest c.iter-others.result))) ↔ (doc (f x) left ≡ doc (f y) right) = rw (← here, ← there) l.invariant.same in
    record {
      left_whole = items_whole _ _ _ here l.invariant.left_whole;
      right_whole = items_whole _ _ _ there l.invariant.right_whole;
      same = same_items _ _ _ _ _ _ before equal;
    }
