use Rattle.std.proofs.Common.{◌≡◌, ◌++◌, ◌∷◌, [], ◌∙◌, ap, subst, arith, rules, length}
use Rattle.std.proofs.lemmas.List.{map-append, length-map}
use Rattle.utoipa_schema.specs.Places.{places, place_of, Place, of_each, inner, total, Walked}
use Rattle.utoipa_schema.proofs.Walks.{walking_begun, walking_step, total-last, total-append, inner_fewer}
use Rattle.utoipa_schema.proofs.places.walk.Goals as goal

pub walk-init : goal.walk-init
walk-init c =
    let none : c.new-table.result.items ≡ [] = search rules in
    walking_begun (places c.args.roots.items) _ (ap places none)

pub walk-smaller : goal.walk-smaller
walk-smaller c =
    let place : Place = place_of c.in-Some.place in
    let rest = places c.pop.new.self.items in
    let before : places c.walk.stack.items ≡ rest ++ place ∷ [] = ap places c.in-Some.ensures.items ∙ map-append _ c.pop.new.self.items _ in
    let more : places c.push_inner.new.stack.items ≡ rest ++ inner place.tree = c.in_ok-push_inner.ensures ∙ ap (λ m. rest ++ of_each m) c.find_members.ensures in
    omega (arith, ap total before, total-last rest place, ap total more, total-append rest (inner place.tree), inner_fewer place.tree)

pub walk-preserved : goal.walk-preserved
walk-preserved c =
    let place : Place = place_of c.in-Some.place in
    let rest = places c.pop.new.self.items in
    let before : places c.walk.stack.items ≡ rest ++ place ∷ [] = ap places c.in-Some.ensures.items ∙ map-append _ c.pop.new.self.items _ in
    let more : places c.push_inner.new.stack.items ≡ rest ++ inner place.tree = c.in_ok-push_inner.ensures ∙ ap (λ m. rest ++ of_each m) c.find_members.ensures in
    walking_step _ _ _ place _ rest _ c.walk.invariant before more (ap places c.in_ok-push.ensures.items ∙ map-append _ c.walk.table.items _)

pub returns-clause-walked : goal.returns-clause-walked
returns-clause-walked c =
    let empty : c.walk.stack.items ≡ [] = search rules in
    subst (λ ps. Walked (places c.args.roots.items) (places c.walk.table.items) (places ps)) empty c.walk.invariant.walked

pub returns-clause-few : goal.returns-clause-few
returns-clause-few c =
    let many : length (places c.walk.table.items) ≡ length c.walk.table.items = length-map c.walk.table.items _ in
    omega (arith, c.walk.invariant.few, many)
