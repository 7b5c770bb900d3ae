use Rattle.std.proofs.Common.{length, ◌-◌}
use Rattle.utoipa_base.proofs.TokenMaps.{EntriesSoFar}
use Rattle.utoipa_base.proofs.entries.entries_from_tokens.Given as goal

abbrev pub invariant-members : goal.invariant-members
invariant-members g l = EntriesSoFar g.T.Documented.kind g.T.Documented.doc (l.depth - 1) l.initial.reader l.reader l.map.entries l.extensions.entries l.initial.readings l.readings

abbrev pub decreases-members : goal.decreases-members
decreases-members g l = length l.reader
