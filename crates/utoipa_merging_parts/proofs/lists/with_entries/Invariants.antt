use Rattle.utoipa_merging_parts.proofs.Added.{AreAddedSoFar}
use Rattle.utoipa_merging_parts.proofs.lists.with_entries.Given as goal

abbrev pub invariant-loop-text : goal.invariant-loop-text
invariant-loop-text g l = AreAddedSoFar g.T.Documented.doc l.fn.joined l.fn.new.items l.text-iterator.rest.items l.joined
