use Rattle.std.proofs.Common.{◌<◌, ◌+◌, ◌∷◌, [], ◌++◌, ◌∙◌, ap, sym, subst, reverse}
use Rattle.std.proofs.lemmas.Result.{on_ok_weaker}
use Rattle.serde_json.specs.View.{view}
use Rattle.utoipa_check.specs.Moves.{left, work_left}
use Rattle.utoipa_check.specs.DroppedViews.{path_of, stacked, moves_of, move_of, written_of, all_dropped}
use Rattle.utoipa_check.specs.Views.{step_of}
use Rattle.utoipa_check.specs.declared.moves.Move.TheVariants as moves
use Rattle.utoipa_check.proofs.DroppedWalks.{tree_compared, stepped, to_leave, taken_work, compared_work, absent_work}
use Rattle.utoipa_check.proofs.dropped.make_move.Goals as goal

pub returns-in-Some-clause-left : goal.returns-in-Some-clause-left
returns-in-Some-clause-left c =
    let path = path_of c.args.path.now.items in
    let found = reverse (all_dropped c.args.found.now.items) in
    let further = stepped c.args.path.now.items c.push.new.self.items c.in-Enter.step c.in_ok-push-in-Enter.ensures.items in
    let noted = to_leave c.args.moves.now.items c.push-in-Enter.new.self.items moves.Leave c.in_ok-push-in-Enter-2.ensures.items in
    on_ok_weaker c.compare.result
    (λ h. tree_compared (path_of c.push.new.self.items) path (step_of c.in-Enter.step) (view c.in-Enter.tree.now) (view c.in-Some.written.now) (written_of c.in-Enter.written) (stacked c.args.moves.now.items) (stacked c.push-in-Enter.new.self.items)
    (stacked c.compare.new.moves.items) found (reverse (all_dropped c.compare.new.found.items)) (ap written_of c.in-Some.is) further noted h
    ∙ ap (λ t. left path (move_of t ∷ stacked c.args.moves.now.items) ++ found) (sym c.in-Enter.is)) c.compare.ensures.left

pub returns-in-Some-clause-fewer : goal.returns-in-Some-clause-fewer
returns-in-Some-clause-fewer c =
    let noted = taken_work c.push-in-Enter.new.self.items c.args.moves.now.items moves.Leave c.in_ok-push-in-Enter-2.ensures.items in
    let rest = work_left (moves_of c.args.moves.now.items) in
    let new = work_left (moves_of c.compare.new.moves.items) in
    on_ok_weaker c.compare.result
    (λ h. subst (λ t. new < rest + work_left (move_of t ∷ [])) (sym c.in-Enter.is)
    (compared_work (view c.in-Enter.tree.now) (written_of c.in-Enter.written) (step_of c.in-Enter.step) rest (work_left (moves_of c.push-in-Enter.new.self.items)) new noted h)) c.compare.ensures.fewer

pub returns-in-None-clause-fewer : goal.returns-in-None-clause-fewer
returns-in-None-clause-fewer c =
    let noted = taken_work c.push-in-Enter.new.self.items c.args.moves.now.items moves.Leave c.in_ok-push-in-Enter-2.ensures.items in
    let rest = work_left (moves_of c.args.moves.now.items) in
    let new = work_left (moves_of c.push-in-Enter.new.self.items) in
    on_ok_weaker c.put_place.result
    (λ h. subst (λ t. new < rest + work_left (move_of t ∷ [])) (sym c.in-Enter.is)
    (absent_work (view c.in-Enter.tree.now) (written_of c.in-Enter.written) (step_of c.in-Enter.step) rest new noted)) c.put_place.ensures
