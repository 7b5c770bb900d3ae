use Rattle.std.proofs.Common.{◌≡◌, ◌++◌, map}
use Rattle.utoipa_merging_parts.proofs.lists.entries_of.Given as goal

abbrev pub invariant-loop-entry : goal.invariant-loop-entry
invariant-loop-entry g l = l.entries.items ++ map (λ w. w.entry) l.entry-iterator.rest.items ≡ map (λ w. w.entry) l.fn.written.items
