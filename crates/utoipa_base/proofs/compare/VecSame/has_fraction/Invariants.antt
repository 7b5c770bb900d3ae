use Rattle.std.proofs.Common.{◌≡◌, drop, map}
use Rattle.utoipa_base.specs.Docs.{docs_of}
use Rattle.utoipa_base.specs.WellFormed.{docs_have_fraction}
use Rattle.utoipa_base.proofs.compare.VecSame.has_fraction.Given as goal

abbrev pub invariant-loop-item : goal.invariant-loop-item
invariant-loop-item g l = docs_have_fraction (docs_of (map g.T.Documented.doc l.item-items)) ≡ docs_have_fraction (docs_of (map g.T.Documented.doc (drop l.item-index l.item-items)))
