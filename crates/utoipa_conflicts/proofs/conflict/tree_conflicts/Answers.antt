use Rattle.std.proofs.Common.{◌↔◌, sym, ap, subst, ◌∙◌}
use Rattle.utoipa_conflicts.specs.Deciders.{trees_of}
use Rattle.utoipa_conflicts.specs.IsConflict.{IsOneOf, IsConflict}
use Rattle.utoipa_conflicts.specs.Views.{all_filled, all_conflicts}
use Rattle.utoipa_conflicts.proofs.EachTree.{one_more, all_of, IsApartAtTop, all_once}
use Rattle.utoipa_conflicts.proofs.Listed.{listed_where_dropped, nothing_where_kept}
use Rattle.utoipa_conflicts.proofs.Listing.{next_listed, all_listed, none_found}
use Rattle.utoipa_conflicts.proofs.NamedOnce.{nothing_where_once}
use Rattle.utoipa_conflicts.proofs.conflict.tree_conflicts.Goals as goal

pub loop-number-preserved : goal.loop-number-preserved
loop-number-preserved c = record {
  listed =
      next_listed c.args.trees.now c.loop-number.number c.index-trees-number.result c.in_ok-deciders.deciders (all_filled c.in_ok-slots.slots.items) (all_conflicts c.loop-number.found.items) (all_conflicts c.put_conflicts.new.found.items)
      c.loop-number-test.true c.index-trees-number.is c.in_ok-deciders.ensures.decided c.in_ok-slots.ensures.listed c.loop-number.invariant.listed c.in_ok-put_conflicts.ensures;
  apart =
      one_more IsApartAtTop c.args.trees.now c.loop-number.number c.index-trees-number.result c.loop-number-test.true c.index-trees-number.is c.in_ok-slots.ensures.apart c.loop-number.invariant.apart;
}

pub returns-clause-exact : goal.returns-clause-exact
returns-clause-exact c = all_listed c.args.trees.now c.loop-number.number (all_conflicts c.loop-number.found.items) c.loop-number-test.false c.loop-number.invariant.listed

pub returns-clause-listed : goal.returns-clause-listed
returns-clause-listed c = λ p i j. subst (λ cs. IsOneOf (p, i, j) cs ↔ IsConflict (trees_of c.args.trees.now) p i j) (sym (returns-clause-exact c)) (listed_where_dropped (trees_of c.args.trees.now) p i j)

pub returns-clause-nothing : goal.returns-clause-nothing
returns-clause-nothing c =
    let law = nothing_where_kept (trees_of c.args.trees.now) in
    (λ none. law.0 (sym (returns-clause-exact c) ∙ ap all_conflicts none), λ kept. none_found c.loop-number.found.items (returns-clause-exact c ∙ law.1 kept))

pub returns-clause-once : goal.returns-clause-once
returns-clause-once c =
    all_once (trees_of c.args.trees.now) (all_of IsApartAtTop c.args.trees.now c.loop-number.number c.loop-number-test.false c.loop-number.invariant.apart) c.in_ok-deciders.ensures.apart

pub returns-clause-kept : goal.returns-clause-kept
returns-clause-kept c =
    let law = nothing_where_once (trees_of c.args.trees.now) (returns-clause-once c) in
    (λ none. law.0 (sym (returns-clause-exact c) ∙ ap all_conflicts none), λ kept. none_found c.loop-number.found.items (returns-clause-exact c ∙ law.1 kept))
