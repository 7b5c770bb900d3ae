use Rattle.std.proofs.Common.{◌≡◌}
use Rattle.utoipa_base.specs.Docs.{entries_of_list}
use Rattle.utoipa_base.specs.Views.{pairs_of}
use Rattle.utoipa_security.specs.OAuth.{flow_view}
use Rattle.utoipa_base.specs.Unambiguous.{entries_are_unambiguous}
use Rattle.utoipa_security.proofs.unambiguous.flows_pass.Given as goal

abbrev pub invariant-loop-key : goal.invariant-loop-key
invariant-loop-key l = entries_are_unambiguous (entries_of_list (pairs_of flow_view l.initial.key-iterator)) ≡ entries_are_unambiguous (entries_of_list (pairs_of flow_view l.key-iterator))
