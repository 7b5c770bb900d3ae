use Rattle.std.proofs.Common.{◌≡◌, ◌↔◌, false}
use Rattle.utoipa_base.specs.Docs.{entries_of_list}
use Rattle.utoipa_base.specs.Views.{pairs_of}
use Rattle.utoipa_base.specs.WellFormed.{entries_have_fraction}
use Rattle.utoipa_base.proofs.compare.BTreeMapStringSame.same.Given as goal

abbrev pub invariant-loop-name : goal.invariant-loop-name
invariant-loop-name g l = record {
  left_whole : entries_have_fraction (entries_of_list (pairs_of g.T.Documented.doc l.name-iterator)) ≡ false;
  right_whole : entries_have_fraction (entries_of_list (pairs_of g.T.Documented.doc l.others)) ≡ false;
  same : (entries_of_list (pairs_of g.T.Documented.doc l.initial.name-iterator) ≡ entries_of_list (pairs_of g.T.Documented.doc l.initial.others)) ↔ (entries_of_list (pairs_of g.T.Documented.doc l.name-iterator) ≡ entries_of_list (pairs_of g.T.Documented.doc l.others));
}
