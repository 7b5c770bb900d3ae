use Rattle.std.proofs.Common.{◌≡◌, drop, map}
use Rattle.utoipa_base.specs.Docs.{docs_of}
use Rattle.utoipa_base.specs.Unambiguous.{are_unambiguous}
use Rattle.utoipa_base.proofs.unambiguous.VecUnambiguous.is_unambiguous.Given as goal

abbrev pub invariant-loop-item : goal.invariant-loop-item
invariant-loop-item g l = are_unambiguous (docs_of (map g.T.Documented.doc l.item-items)) ≡ are_unambiguous (docs_of (map g.T.Documented.doc (drop l.item-index l.item-items)))
