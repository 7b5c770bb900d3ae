use Rattle.std.proofs.Common.{◌≡◌, ◌++◌, All}
use Rattle.std.specs.Option.{ForSome}
use Rattle.utoipa_base.specs.Views.{list_of_docs, option_of}
use Rattle.utoipa_base.specs.WellFormed.{IsPlain}
use Rattle.utoipa_merging_parts.specs.Lists.{IsSound}
use Rattle.utoipa_merging_parts.proofs.Joining.{AreJoinedSoFar}
use Rattle.utoipa_merging_parts.proofs.lists.join_lists.Given as goal

abbrev pub invariant-loop-list : goal.invariant-loop-list
invariant-loop-list g l = record {
  plain : All (λ o. IsPlain (option_of (list_of_docs g.T.Documented.doc) o)) l.list-iterator.rest.items;
  sound : ForSome l.joined (IsSound g.T.Documented.doc);
  passed : l.yielded ++ l.list-iterator.rest.items ≡ l.fn.lists.items;
  joined : AreJoinedSoFar g.T.Documented.doc l.yielded l.joined;
}
