use Rattle.std.proofs.Common.{sym}
use Rattle.std.proofs.lemmas.List.{append-nil}
use Rattle.utoipa_path.specs.Lists.{own_place}
use Rattle.utoipa_path.proofs.AddedItems.{added_last}
use Rattle.utoipa_path.proofs.lists.add_places.Goals as goal

pub loop-item-init : goal.loop-item-init
loop-item-init g c = sym (append-nil c.args.list.now.items)

pub loop-item-preserved : goal.loop-item-preserved
loop-item-preserved g c = added_last own_place c.args.list.now.items c.loop-item.list.items _ c.loop-item.yielded c.in-Some.item c.loop-item.invariant c.in_ok-push.ensures.items
