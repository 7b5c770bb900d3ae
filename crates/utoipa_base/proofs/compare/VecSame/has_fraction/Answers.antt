use Rattle.std.proofs.Common.{◌≡◌, ◌<◌, ◌∙◌, [], ap, arith, drop, length, map, sym}
use Rattle.std.proofs.lemmas.List.{drop_all}
use Rattle.utoipa_base.specs.Docs.{docs_of}
use Rattle.utoipa_base.specs.WellFormed.{docs_have_fraction}
use Rattle.utoipa_base.proofs.SameDocs.{by_docs, docs_have_fraction-none, fraction_split, has_fraction-list}
use Rattle.utoipa_base.proofs.compare.VecSame.has_fraction.Goals as goal

pub returns-then-has_fraction : goal.returns-then-has_fraction
returns-then-has_fraction g c =
    let xs = c.deref-item-items.result.now in
    let within : c.loop-item.item-index < length xs = omega arith in
    let here = fraction_split g.T.Documented.doc xs c.loop-item.item-index c.item-item.result within c.item-item.is in
    grind (arith, by_docs, here, c.loop-item.invariant)

pub loop-item-preserved : goal.loop-item-preserved
loop-item-preserved g c =
    let xs = c.deref-item-items.result.now in
    let within : c.loop-item.item-index < length xs = omega arith in
    let here = fraction_split g.T.Documented.doc xs c.loop-item.item-index c.item-item.result within c.item-item.is in
    grind (arith, by_docs, here, c.loop-item.invariant)

pub returns : goal.returns
returns g c =
    let f = g.T.Documented.doc in
    let xs = c.deref-item-items.result.now in
    let none : drop c.loop-item.item-index xs ≡ [] = drop_all c.loop-item.item-index xs c.loop-item-test.false in
    let all : docs_have_fraction (docs_of (map f xs)) ≡ docs_have_fraction (docs_of (map f c.args.self.now.items)) = ap (λ ys. docs_have_fraction (docs_of (map f ys))) c.deref-item-items.ensures.value in
    sym (has_fraction-list _ ∙ sym all ∙ c.loop-item.invariant ∙ ap (λ ys. docs_have_fraction (docs_of (map f ys))) none ∙ docs_have_fraction-none)
