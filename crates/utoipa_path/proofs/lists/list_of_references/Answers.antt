use Rattle.std.proofs.Common.{[]}
use Rattle.utoipa_path.specs.Lists.{reference_place}
use Rattle.utoipa_path.proofs.AddedItems.{added_last}
use Rattle.utoipa_path.proofs.lists.list_of_references.Goals as goal

pub loop-reference-preserved : goal.loop-reference-preserved
loop-reference-preserved g c = added_last reference_place [] c.loop-reference.list.items _ c.loop-reference.yielded c.in-Some.reference c.loop-reference.invariant c.in_ok-push.ensures.items
