use Rattle.std.proofs.Common.{◌≡◌, ◌<◌, ◌∙◌, [], ap, arith, drop, length, map, sym}
use Rattle.std.proofs.lemmas.List.{drop_all}
use Rattle.utoipa_base.specs.Docs.{docs_of}
use Rattle.utoipa_base.specs.Unambiguous.{are_unambiguous}
use Rattle.utoipa_base.proofs.UnambiguousParts.{by_parts, docs-none, item_split, unambiguous-list}
use Rattle.utoipa_base.proofs.unambiguous.VecUnambiguous.is_unambiguous.Goals as goal

pub returns-then-not-is_unambiguous : goal.returns-then-not-is_unambiguous
returns-then-not-is_unambiguous g c =
    let xs = c.deref-item-items.result.now in
    let within : c.loop-item.item-index < length xs = omega arith in
    let here = item_split g.T.Documented.doc xs c.loop-item.item-index c.item-item.result within c.item-item.is in
    grind (arith, by_parts, here, c.loop-item.invariant)

pub loop-item-preserved : goal.loop-item-preserved
loop-item-preserved g c =
    let xs = c.deref-item-items.result.now in
    let within : c.loop-item.item-index < length xs = omega arith in
    let here = item_split g.T.Documented.doc xs c.loop-item.item-index c.item-item.result within c.item-item.is in
    grind (arith, by_parts, here, c.loop-item.invariant)

pub returns : goal.returns
returns g c =
    let f = g.T.Documented.doc in
    let xs = c.deref-item-items.result.now in
    let none : drop c.loop-item.item-index xs ≡ [] = drop_all c.loop-item.item-index xs c.loop-item-test.false in
    let all : are_unambiguous (docs_of (map f xs)) ≡ are_unambiguous (docs_of (map f c.args.self.now.items)) = ap (λ ys. are_unambiguous (docs_of (map f ys))) c.deref-item-items.ensures.value in
    sym (unambiguous-list _ ∙ sym all ∙ c.loop-item.invariant ∙ ap (λ ys. are_unambiguous (docs_of (map f ys))) none ∙ docs-none)
