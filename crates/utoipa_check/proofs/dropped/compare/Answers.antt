use Rattle.std.proofs.Common.{◌∙◌, sym, arith, reverse}
use Rattle.std.proofs.lemmas.Result.{on_ok_weaker}
use Rattle.serde_json.specs.View.{view}
use Rattle.utoipa_check.specs.DroppedViews.{moves_of, path_of, all_dropped}
use Rattle.utoipa_check.proofs.DroppedWalks.{compared_left, compared_fewer, some_work}
use Rattle.utoipa_check.proofs.dropped.compare.Goals as goal

pub returns-then-not-is_alike-clause-fewer : goal.returns-then-not-is_alike-clause-fewer
returns-then-not-is_alike-clause-fewer c = on_ok_weaker c.put_place.result (λ put. omega (arith, some_work (view c.args.tree.now))) c.put_place.ensures

pub returns-clause-left : goal.returns-clause-left
returns-clause-left c = on_ok_weaker c.push_inner.result
    (λ pushed. compared_left (path_of c.args.path.now.items) (view c.args.tree.now) (view c.args.written.now) c.args.moves.now.items c.push_inner.new.moves.items (reverse (all_dropped c.args.found.now.items)) (sym c.is_alike.ensures ∙ c.if-not-is_alike.false) pushed) c.push_inner.ensures

pub returns-clause-fewer : goal.returns-clause-fewer
returns-clause-fewer c = on_ok_weaker c.push_inner.result
    (λ pushed. compared_fewer (view c.args.tree.now) (view c.args.written.now) (moves_of c.args.moves.now.items) (moves_of c.push_inner.new.moves.items) pushed) c.push_inner.ensures
