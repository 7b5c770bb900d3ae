use Rattle.std.proofs.Common.{◌≡◌, ◌∷◌, ◌++◌, []}
use Rattle.std.specs.Vec.Iter.{into_iter_items}
use Rattle.utoipa.specs.Merging.{ArePartsOf}
use Rattle.utoipa.proofs.bracketing.take_parts.Given as goal

abbrev pub invariant-loop-document : goal.invariant-loop-document
invariant-loop-document l = record {
  passed : l.yielded ++ l.document-iterator.rest.items ≡ into_iter_items l.fn.others;
  parts : ArePartsOf [] l.fn.parts → ArePartsOf (l.fn.first ∷ l.yielded) l.parts;
}
