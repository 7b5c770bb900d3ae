use Rattle.std.proofs.Common.{◌∙◌, ◌∷◌, [], length, suc, ap, sym, subst, reverse, arith}
use Rattle.std.proofs.lemmas.Grind.{common_steps}
use Rattle.serde_json.specs.View.{view}
use Rattle.utoipa_check.specs.Doubted.{doubted}
use Rattle.utoipa_check.specs.Misfits.{at_index}
use Rattle.utoipa_check.specs.Places.{Reaches, outcome, place, of_kind}
use Rattle.utoipa_check.specs.Truth.{AllTrue}
use Rattle.utoipa_check.specs.Views.{outcome_of, stacked, tasks_of, place_of}
use Rattle.utoipa_tables.specs.Tables.{kind_of}
use Rattle.utoipa_check.proofs.DoubtsSound.{doubts_sound}
use Rattle.utoipa_check.proofs.DoubtsWalked.{to_join_doubted}
use Rattle.utoipa_check.proofs.Walks.{to_visit, to_be_joined, visited, to_join_outcomes, fewer_left_visited, fewer_left_joined, stack_length}
use Rattle.utoipa_check.proofs.doubt.doubts.Goals as goal

pub walk-smaller-in-Continue-branch-2 : goal.walk-smaller-in-Continue-branch-2
walk-smaller-in-Continue-branch-2 c =
    let before = to_visit c.walk.tasks.items c.pop.new.self.items c.in-Some.task c.in-Some.ensures.items c.in-None.is in
    (fewer_left_visited (tasks_of c.pop.new.self.items) _ _ (place_of c.in-Some.task) _ before c.in_ok-begin_place-in-None.ensures).1

pub walk-preserved-in-Continue-branch-2 : goal.walk-preserved-in-Continue-branch-2
walk-preserved-in-Continue-branch-2 c =
    let before = to_visit c.walk.tasks.items c.pop.new.self.items c.in-Some.task c.in-Some.ensures.items c.in-None.is in
    let count = c.len.ensures ∙ c.walk.outcomes.ok.0 in
    record {
      misfits = visited outcome _ _ (tasks_of c.pop.new.self.items) _ (place_of c.in-Some.task) _ (stacked c.walk.outcomes.items) before c.in_ok-begin_place-in-None.ensures (count ∙ sym (stack_length outcome_of c.walk.outcomes.items)) c.walk.invariant.misfits;
      doubts =
          visited doubted _ _ (tasks_of c.pop.new.self.items) _ (place_of c.in-Some.task) _ (stacked c.walk.found.items) before c.in_ok-begin_place-in-None.ensures
          (count ∙ sym c.walk.invariant.beside ∙ sym (stack_length outcome_of c.walk.found.items)) c.walk.invariant.doubts;
      beside = c.walk.invariant.beside;
    }

pub end_doubts-requires : goal.end_doubts-requires
end_doubts-requires c =
    let before = to_be_joined c.walk.tasks.items c.pop.new.self.items c.in-Some.task c.in-Some-below.below c.in-Some.ensures.items c.in-Some-below.is in
    let misfits = to_join_outcomes _ _ (tasks_of c.pop.new.self.items) (place_of c.in-Some.task) _ (stacked c.walk.outcomes.items) before c.walk.invariant.misfits in
    let doubts = to_join_doubted _ _ (tasks_of c.pop.new.self.items) (place_of c.in-Some.task) _ (stacked c.walk.found.items) before c.walk.invariant.doubts in
    record { outcomes = (misfits.0, misfits.1, misfits.2); found = (doubts.0, doubts.1, doubts.2) }

pub end_place-requires : goal.end_place-requires
end_place-requires c =
    let before = to_be_joined c.walk.tasks.items c.pop.new.self.items c.in-Some.task c.in-Some-below.below c.in-Some.ensures.items c.in-Some-below.is in
    let misfits = to_join_outcomes _ _ (tasks_of c.pop.new.self.items) (place_of c.in-Some.task) _ (stacked c.walk.outcomes.items) before c.walk.invariant.misfits in
    (misfits.0, misfits.1, misfits.2)

pub walk-smaller : goal.walk-smaller
walk-smaller c =
    let before = to_be_joined c.walk.tasks.items c.pop.new.self.items c.in-Some.task c.in-Some-below.below c.in-Some.ensures.items c.in-Some-below.is in
    (fewer_left_joined (tasks_of c.pop.new.self.items) _ (place_of c.in-Some.task) _ before).1

pub walk-preserved : goal.walk-preserved
walk-preserved c =
    let before = to_be_joined c.walk.tasks.items c.pop.new.self.items c.in-Some.task c.in-Some-below.below c.in-Some.ensures.items c.in-Some-below.is in
    let misfits = to_join_outcomes _ _ (tasks_of c.pop.new.self.items) (place_of c.in-Some.task) _ (stacked c.walk.outcomes.items) before c.walk.invariant.misfits in
    let doubts = to_join_doubted _ _ (tasks_of c.pop.new.self.items) (place_of c.in-Some.task) _ (stacked c.walk.found.items) before c.walk.invariant.doubts in
    let misfits_put = c.in_ok-end_place-in-Some-below.ensures misfits.0 misfits.1 misfits.2 in
    let doubts_put = c.in_ok-end_doubts-in-Some-below.ensures doubts.0 doubts.1 doubts.2 in
    let root = place (at_index 0) (of_kind (kind_of c.args.kind)) (view c.args.tree.now) in
    record {
      misfits = subst (λ os. Reaches outcome (outcome root ∷ []) (reverse (tasks_of c.pop.new.self.items)) os) (sym misfits_put) misfits.3;
      doubts = subst (λ os. Reaches doubted (doubted root ∷ []) (reverse (tasks_of c.pop.new.self.items)) os) (sym doubts_put) doubts.3;
      beside =
          sym (stack_length outcome_of c.end_doubts.new.found.items) ∙ ap length doubts_put ∙ ap suc (sym doubts.2 ∙ misfits.2) ∙ sym (ap length misfits_put)
          ∙ stack_length outcome_of c.end_place.new.outcomes.items;
    }

pub returns-in-Some-pop-clause-exact : goal.returns-in-Some-pop-clause-exact
returns-in-Some-pop-clause-exact c = grind (arith, common_steps)

pub returns-in-Some-pop-clause-sound : goal.returns-in-Some-pop-clause-sound
returns-in-Some-pop-clause-sound c = subst (AllTrue (kind_of c.args.kind) (view c.args.tree.now)) (sym (returns-in-Some-pop-clause-exact c)) (doubts_sound (kind_of c.args.kind) (view c.args.tree.now))
