use Rattle.std.proofs.Common.{◌≡◌, ◌↔◌, ◌∙◌, ap, sym, subst, arith, reverse}
use Rattle.serde_json.specs.View.{view}
use Rattle.utoipa_check.specs.Dropped.{dropped}
use Rattle.utoipa_check.specs.DroppedViews.{path_of, stacked, all_dropped}
use Rattle.utoipa_check.proofs.DroppedWalks.{begun, taken_work, ended, none_there, nothing_listed}
use Rattle.utoipa_check.specs.IsDropped.{IsDropped, IsListed}
use Rattle.utoipa_check.proofs.DroppedPlaces.{listed_where_dropped}
use Rattle.utoipa_check.proofs.DroppedHas.{nothing_dropped}
use Rattle.utoipa_check.proofs.dropped.dropped_between.Goals as goal

pub walk-init : goal.walk-init
walk-init c =
    begun (view c.args.tree.now) (view c.args.written.now) (path_of c.new-path.result.items) (stacked c.new-moves.result.items) (stacked c.compare.new.moves.items) (reverse (all_dropped c.new-found.result.items)) (reverse (all_dropped c.compare.new.found.items))
    (ap path_of c.new-path.ensures.items) (ap stacked c.new-moves.ensures.items) (ap (λ ps. reverse (all_dropped ps)) c.new-found.ensures.items) c.in_ok-compare.ensures.left

pub walk-smaller : goal.walk-smaller
walk-smaller c = omega (arith, taken_work c.walk.moves.items c.pop.new.self.items c.in-Some.next c.in-Some.ensures.items, c.in_ok-make_move.ensures.fewer)

pub returns-clause-exact : goal.returns-clause-exact
returns-clause-exact c =
    ended c.walk.found.items c.reverse.new.self.items (path_of c.walk.path.items) c.walk.moves.items (dropped (view c.args.tree.now) (view c.args.written.now)) c.walk.invariant (none_there c.walk.moves.items c.walk.moves.len c.walk.moves.ok.0 c.in_default.ensures.cases.0) c.reverse.ensures.items

pub returns-clause-places : goal.returns-clause-places
returns-clause-places c = λ steps loss.
    let exact : all_dropped c.reverse.new.self.items ≡ dropped (view c.args.tree.now) (view c.args.written.now) = returns-clause-exact c in
    subst (λ ps. IsListed (steps, loss) ps ↔ IsDropped steps loss (view c.args.tree.now) (view c.args.written.now)) (sym exact) (listed_where_dropped (view c.args.tree.now) (view c.args.written.now) steps loss)

pub returns-clause-nothing : goal.returns-clause-nothing
returns-clause-nothing c =
    let exact : all_dropped c.reverse.new.self.items ≡ dropped (view c.args.tree.now) (view c.args.written.now) = returns-clause-exact c in
    let law = nothing_dropped (view c.args.tree.now) (view c.args.written.now) in
    (λ none. law.0 (sym exact ∙ ap all_dropped none), λ has. nothing_listed c.reverse.new.self.items (exact ∙ law.1 has))
