use Rattle.std.proofs.Common.{map, Contains, take}
use Rattle.utoipa_merging_parts.proofs.lists.contains.Given as goal

-- none of the entries so far is the same
abbrev pub invariant-loop-other : goal.invariant-loop-other
invariant-loop-other g l = Contains (map g.T.Documented.doc (take l.other-index l.list)) (g.T.Documented.doc l.entry) → ⊥
