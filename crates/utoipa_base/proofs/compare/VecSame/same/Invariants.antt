use Rattle.std.proofs.Common.{◌≡◌, ◌↔◌, false, drop, map}
use Rattle.std.specs.Slice.Iter.{iter_rest}
use Rattle.utoipa_base.specs.Docs.{docs_of}
use Rattle.utoipa_base.specs.WellFormed.{docs_have_fraction}
use Rattle.utoipa_base.proofs.compare.VecSame.same.Given as goal

abbrev pub invariant-loop-item : goal.invariant-loop-item
invariant-loop-item g l = record {
  left_whole : docs_have_fraction (docs_of (map g.T.Documented.doc (drop l.item-index l.item-items))) ≡ false;
  right_whole : docs_have_fraction (docs_of (map g.T.Documented.doc (iter_rest l.others))) ≡ false;
  same : (docs_of (map g.T.Documented.doc l.item-items) ≡ docs_of (map g.T.Documented.doc (iter_rest l.initial.others))) ↔ (docs_of (map g.T.Documented.doc (drop l.item-index l.item-items)) ≡ docs_of (map g.T.Documented.doc (iter_rest l.others)));
}
