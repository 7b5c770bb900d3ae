use Rattle.utoipa_conflicts.specs.Deciders.{noted}
use Rattle.utoipa_conflicts.specs.Holders.{is_among, IsApartWithin}
use Rattle.utoipa_conflicts.specs.Views.{all_holders}
use Rattle.utoipa_conflicts.proofs.Deciding.{next_decided}
use Rattle.utoipa_conflicts.proofs.EachTree.{one_more, all_of}
use Rattle.utoipa_conflicts.proofs.deciders.deciders.Goals as goal

pub loop-number-preserved : goal.loop-number-preserved
loop-number-preserved c = record {
  decided =
      λ h.
      next_decided c.args.trees.now c.loop-number.number c.index-trees-number.result h (is_among h (all_holders c.in_ok-holders.holders.items)) (noted c.loop-number.deciders h) (noted c.note_all.new.deciders h) c.loop-number-test.true
      c.index-trees-number.is (c.in_ok-holders.ensures.listed h) (c.loop-number.invariant.decided h) (c.in_ok-note_all.ensures h);
  apart =
      one_more IsApartWithin c.args.trees.now c.loop-number.number c.index-trees-number.result c.loop-number-test.true c.index-trees-number.is c.in_ok-holders.ensures.apart c.loop-number.invariant.apart;
}

pub returns-clause-apart : goal.returns-clause-apart
returns-clause-apart c = all_of IsApartWithin c.args.trees.now c.loop-number.number c.loop-number-test.false c.loop-number.invariant.apart
