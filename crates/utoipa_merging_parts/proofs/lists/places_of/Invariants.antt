use Rattle.std.proofs.Common.{map, take}
use Rattle.utoipa_merging_parts.specs.Lists.{AreKnown}
use Rattle.utoipa_merging_parts.proofs.lists.places_of.Given as goal

-- the entries so far are known
abbrev pub invariant-loop-place : goal.invariant-loop-place
invariant-loop-place g l = AreKnown l.places (map g.T.Documented.doc (take l.place l.entries))
