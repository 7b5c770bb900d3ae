use Rattle.std.proofs.Common.{◌≡◌}
use Rattle.utoipa_base.specs.Docs.{entries_of_list}
use Rattle.utoipa_base.specs.Views.{pairs_of}
use Rattle.utoipa_base.specs.Unambiguous.{entries_are_unambiguous}
use Rattle.utoipa_base.proofs.unambiguous.BTreeMapStringUnambiguous.is_unambiguous.Given as goal

abbrev pub invariant-loop-member : goal.invariant-loop-member
invariant-loop-member g l = entries_are_unambiguous (entries_of_list (pairs_of g.T.Documented.doc l.initial.member-iterator)) ≡ entries_are_unambiguous (entries_of_list (pairs_of g.T.Documented.doc l.member-iterator))
