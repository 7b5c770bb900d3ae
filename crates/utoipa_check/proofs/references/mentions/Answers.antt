use Rattle.std.proofs.Common.{◌∙◌, ◌∷◌, [], length, suc, ap, sym, subst, reverse}
use Rattle.serde_json.specs.View.{view}
use Rattle.utoipa_check.specs.Mentioned.{mentioned}
use Rattle.utoipa_check.specs.Misfits.{at_index}
use Rattle.utoipa_check.specs.Places.{Reaches, outcome, place, of_kind}
use Rattle.utoipa_check.specs.ReferenceViews.{mentioned_of, stacked_mentioned}
use Rattle.utoipa_check.specs.Views.{outcome_of, stacked, tasks_of, place_of}
use Rattle.utoipa_tables.specs.Tables.{kind_of}
use Rattle.utoipa_check.proofs.Walks.{to_visit, to_be_joined, visited, to_join_outcomes, to_join_mentioned, fewer_left_visited, fewer_left_joined, stack_length}
use Rattle.utoipa_check.proofs.references.mentions.Goals as goal

pub walk-smaller-in-Continue-branch-2 : goal.walk-smaller-in-Continue-branch-2
walk-smaller-in-Continue-branch-2 c =
    let before = to_visit c.walk.tasks.items c.pop.new.self.items c.in-Some.task c.in-Some.ensures.items c.in-None.is in
    (fewer_left_visited (tasks_of c.pop.new.self.items) _ _ (place_of c.in-Some.task) _ before c.in_ok-begin_place-in-None.ensures).1

pub walk-preserved-in-Continue-branch-2 : goal.walk-preserved-in-Continue-branch-2
walk-preserved-in-Continue-branch-2 c =
    let before = to_visit c.walk.tasks.items c.pop.new.self.items c.in-Some.task c.in-Some.ensures.items c.in-None.is in
    let count = c.len.ensures ∙ c.walk.outcomes.ok.0 in
    record {
      found = visited outcome _ _ (tasks_of c.pop.new.self.items) _ (place_of c.in-Some.task) _ (stacked c.walk.outcomes.items) before c.in_ok-begin_place-in-None.ensures (count ∙ sym (stack_length outcome_of c.walk.outcomes.items)) c.walk.invariant.found;
      mentioned =
          visited mentioned _ _ (tasks_of c.pop.new.self.items) _ (place_of c.in-Some.task) _ (stacked_mentioned c.walk.found.items) before c.in_ok-begin_place-in-None.ensures
          (count ∙ sym c.walk.invariant.beside ∙ sym (stack_length mentioned_of c.walk.found.items)) c.walk.invariant.mentioned;
      beside = c.walk.invariant.beside;
    }

pub end_mentions-requires : goal.end_mentions-requires
end_mentions-requires c =
    let before = to_be_joined c.walk.tasks.items c.pop.new.self.items c.in-Some.task c.in-Some-below.below c.in-Some.ensures.items c.in-Some-below.is in
    let found = to_join_outcomes _ _ (tasks_of c.pop.new.self.items) (place_of c.in-Some.task) _ (stacked c.walk.outcomes.items) before c.walk.invariant.found in
    let named = to_join_mentioned _ _ (tasks_of c.pop.new.self.items) (place_of c.in-Some.task) _ (stacked_mentioned c.walk.found.items) before c.walk.invariant.mentioned in
    record { outcomes = (found.0, found.1, found.2); found = (named.0, named.1, named.2) }

pub end_place-requires : goal.end_place-requires
end_place-requires c =
    let before = to_be_joined c.walk.tasks.items c.pop.new.self.items c.in-Some.task c.in-Some-below.below c.in-Some.ensures.items c.in-Some-below.is in
    let found = to_join_outcomes _ _ (tasks_of c.pop.new.self.items) (place_of c.in-Some.task) _ (stacked c.walk.outcomes.items) before c.walk.invariant.found in
    (found.0, found.1, found.2)

pub walk-smaller : goal.walk-smaller
walk-smaller c =
    let before = to_be_joined c.walk.tasks.items c.pop.new.self.items c.in-Some.task c.in-Some-below.below c.in-Some.ensures.items c.in-Some-below.is in
    (fewer_left_joined (tasks_of c.pop.new.self.items) _ (place_of c.in-Some.task) _ before).1

pub walk-preserved : goal.walk-preserved
walk-preserved c =
    let before = to_be_joined c.walk.tasks.items c.pop.new.self.items c.in-Some.task c.in-Some-below.below c.in-Some.ensures.items c.in-Some-below.is in
    let found = to_join_outcomes _ _ (tasks_of c.pop.new.self.items) (place_of c.in-Some.task) _ (stacked c.walk.outcomes.items) before c.walk.invariant.found in
    let named = to_join_mentioned _ _ (tasks_of c.pop.new.self.items) (place_of c.in-Some.task) _ (stacked_mentioned c.walk.found.items) before c.walk.invariant.mentioned in
    let found_put = c.in_ok-end_place-in-Some-below.ensures found.0 found.1 found.2 in
    let named_put = c.in_ok-end_mentions-in-Some-below.ensures named.0 named.1 named.2 in
    let root = place (at_index 0) (of_kind (kind_of c.args.kind)) (view c.args.tree.now) in
    record {
      found = subst (λ os. Reaches outcome (outcome root ∷ []) (reverse (tasks_of c.pop.new.self.items)) os) (sym found_put) found.3;
      mentioned = subst (λ ms. Reaches mentioned (mentioned root ∷ []) (reverse (tasks_of c.pop.new.self.items)) ms) (sym named_put) named.3;
      beside =
          sym (stack_length mentioned_of c.end_mentions.new.found.items) ∙ ap length named_put ∙ ap suc (sym named.2 ∙ found.2) ∙ sym (ap length found_put)
          ∙ stack_length outcome_of c.end_place.new.outcomes.items;
    }
