use Rattle.std.proofs.Common.{◌≡◌}
use Rattle.utoipa_base.specs.Docs.{entries_of_list}
use Rattle.utoipa_base.specs.Views.{pairs_of}
use Rattle.utoipa_base.specs.WellFormed.{names_no_extension}
use Rattle.utoipa_base.proofs.unambiguous.names_are_no_extensions.Given as goal

abbrev pub invariant-loop-name : goal.invariant-loop-name
invariant-loop-name g l = names_no_extension (entries_of_list (pairs_of g.T.Documented.doc l.initial.name-iterator)) ≡ names_no_extension (entries_of_list (pairs_of g.T.Documented.doc l.name-iterator))
