use Rattle.std.proofs.Common.{◌≡◌, ◌∷◌, [], ◌++◌, ap, ◌∙◌, sym, subst, length, arith, rules}
use Rattle.std.proofs.lemmas.List.{map-append, length-map}
use Rattle.utoipa_schema.specs.Outcomes.{all_outcomes, outcome_doc, grouped, Takes, AreInner}
use Rattle.utoipa_schema.specs.Places.{Place, places, place_of, of_each}
use Rattle.utoipa_schema.proofs.Filling.{filling_begun, filling_row, filling_step, filling_end}
use Rattle.utoipa_schema.proofs.fill.fill.Goals as goal

pub fill-init : goal.fill-init
fill-init c =
    let none : c.new-filled.result.items ≡ [] = search rules in
    filling_begun (places c.args.table.items) _ _ c.requires.walked (ap all_outcomes none)

pub read_place-requires-clause-found : goal.read_place-requires-clause-found
read_place-requires-clause-found c = c.find_members-members.ensures

pub read_place-requires-clause-inside : goal.read_place-requires-clause-inside
read_place-requires-clause-inside c =
    let place : Place = place_of c.in-Some.place in
    let row : places c.fill.table.items ≡ places c.pop.new.self.items ++ place ∷ [] = ap places c.in-Some.ensures.items ∙ map-append _ c.pop.new.self.items _ in
    let back = filling_row _ _ (places c.pop.new.self.items) place _ _ _ c.fill.invariant row in
    (c.take_inner-inner.ensures.read back.0 (back.1 ∙ ap (λ m. grouped (back.0 ++ of_each m)) (sym c.find_members-members.ensures))).0

pub fill-preserved : goal.fill-preserved
fill-preserved c =
    let place : Place = place_of c.in-Some.place in
    let row : places c.fill.table.items ≡ places c.pop.new.self.items ++ place ∷ [] = ap places c.in-Some.ensures.items ∙ map-append _ c.pop.new.self.items _ in
    let takes = subst (λ m. Takes c.fill.filled.items c.take_inner-inner.new.filled.items (of_each m) (AreInner m c.take_inner-inner.result)) c.find_members-members.ensures c.take_inner-inner.ensures.read in
    filling_step _ _ (places c.pop.new.self.items) place _ (all_outcomes c.take_inner-inner.new.filled.items) _ _ _ _ c.take_inner-inner.result (outcome_doc c.in_ok-outcome.outcome) c.fill.invariant row takes c.take_inner-inner.ensures.counted
    c.in_ok-outcome.ensures.read c.in_ok-outcome.ensures.ticked c.in_ok-outcome.ensures.counted c.in_ok-put.ensures

pub returns-clause-read : goal.returns-clause-read
returns-clause-read c = λ roots whole.
    let empty : c.fill.table.items ≡ [] = search rules in
    filling_end _ _ _ _ _ roots c.fill.invariant (ap places empty) whole

pub returns-clause-grows : goal.returns-clause-grows
returns-clause-grows c = c.fill.invariant.grows

pub returns-clause-at_most : goal.returns-clause-at_most
returns-clause-at_most c =
    let many : length (places c.args.table.items) ≡ length c.args.table.items = length-map c.args.table.items _ in
    omega (arith, c.fill.invariant.at_most, many)

pub returns-clause-at_least : goal.returns-clause-at_least
returns-clause-at_least c = c.fill.invariant.at_least
