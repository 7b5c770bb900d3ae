use Rattle.std.proofs.Common.{◌∙◌, ◌∷◌, [], sym, subst, arith, reverse}
use Rattle.serde_json.specs.View.{view}
use Rattle.utoipa_check.specs.Misfits.{at_index}
use Rattle.utoipa_check.specs.Places.{Reaches, outcome, place}
use Rattle.utoipa_check.specs.Views.{outcome_of, stacked, tasks_of, place_of, target_of}
use Rattle.utoipa_check.proofs.Walks.{to_visit, to_be_joined, visited, to_join_outcomes, fewer_left_visited, fewer_left_joined, some_left, stack_length}
use Rattle.utoipa_check.proofs.walk.walk.Goals as goal

pub walk-smaller-in-Continue-branch-2 : goal.walk-smaller-in-Continue-branch-2
walk-smaller-in-Continue-branch-2 c =
    let before = to_visit c.walk.tasks.items c.pop.new.self.items c.in-Some.task c.in-Some.ensures.items c.in-None.is in
    (fewer_left_visited (tasks_of c.pop.new.self.items) _ _ (place_of c.in-Some.task) _ before c.in_ok-begin_place-in-None.ensures).1

pub walk-preserved-in-Continue-branch-2 : goal.walk-preserved-in-Continue-branch-2
walk-preserved-in-Continue-branch-2 c =
    let before = to_visit c.walk.tasks.items c.pop.new.self.items c.in-Some.task c.in-Some.ensures.items c.in-None.is in
    let fewer = (fewer_left_visited (tasks_of c.pop.new.self.items) _ _ (place_of c.in-Some.task) _ before c.in_ok-begin_place-in-None.ensures).0 in
    let count = c.len.ensures ∙ c.walk.outcomes.ok.0 ∙ sym (stack_length outcome_of c.walk.outcomes.items) in
    record {
      reaches = visited outcome _ _ (tasks_of c.pop.new.self.items) _ (place_of c.in-Some.task) _ (stacked c.walk.outcomes.items) before c.in_ok-begin_place-in-None.ensures count c.walk.invariant.reaches;
      counted = omega (arith, fewer, c.saturating_add.ensures, c.walk.invariant.counted);
    }

pub returns-in_err-begin_place-in-None-clause-visits : goal.returns-in_err-begin_place-in-None-clause-visits
returns-in_err-begin_place-in-None-clause-visits c =
    let before = to_visit c.walk.tasks.items c.pop.new.self.items c.in-Some.task c.in-Some.ensures.items c.in-None.is in
    omega (arith, some_left (tasks_of c.pop.new.self.items) _ (place_of c.in-Some.task) before, c.walk.invariant.counted, c.saturating_add.ensures)

pub walk-smaller : goal.walk-smaller
walk-smaller c =
    let before = to_be_joined c.walk.tasks.items c.pop.new.self.items c.in-Some.task c.in-Some-below.below c.in-Some.ensures.items c.in-Some-below.is in
    (fewer_left_joined (tasks_of c.pop.new.self.items) _ (place_of c.in-Some.task) _ before).1

pub walk-preserved : goal.walk-preserved
walk-preserved c =
    let before = to_be_joined c.walk.tasks.items c.pop.new.self.items c.in-Some.task c.in-Some-below.below c.in-Some.ensures.items c.in-Some-below.is in
    let joined = to_join_outcomes _ _ (tasks_of c.pop.new.self.items) (place_of c.in-Some.task) _ (stacked c.walk.outcomes.items) before c.walk.invariant.reaches in
    let same = (fewer_left_joined (tasks_of c.pop.new.self.items) _ (place_of c.in-Some.task) _ before).0 in
    let last = outcome (place (at_index 0) (target_of c.args.target) (view c.args.tree.now)) ∷ [] in
    record {
      reaches = subst (λ os. Reaches outcome last (reverse (tasks_of c.pop.new.self.items)) os) (sym (c.in_ok-end_place-in-Some-below.ensures joined.0 joined.1 joined.2)) joined.3;
      counted = omega (arith, same, c.walk.invariant.counted);
    }

pub end_place-requires : goal.end_place-requires
end_place-requires c =
    let before = to_be_joined c.walk.tasks.items c.pop.new.self.items c.in-Some.task c.in-Some-below.below c.in-Some.ensures.items c.in-Some-below.is in
    let joined = to_join_outcomes _ _ (tasks_of c.pop.new.self.items) (place_of c.in-Some.task) _ (stacked c.walk.outcomes.items) before c.walk.invariant.reaches in
    (joined.0, joined.1, joined.2)
