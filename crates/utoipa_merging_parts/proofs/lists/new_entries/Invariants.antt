use Rattle.std.proofs.Common.{map}
use Rattle.utoipa_merging_parts.proofs.NewEntries.{AreNewSoFar}
use Rattle.utoipa_merging_parts.proofs.lists.new_entries.Given as goal

abbrev pub invariant-loop-entry : goal.invariant-loop-entry
invariant-loop-entry g l = AreNewSoFar g.T.Documented.doc (map g.T.Documented.doc l.earlier) l.fn.entries.items l.entry-iterator.rest.items l.new.items
