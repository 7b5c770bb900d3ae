use Rattle.utoipa_check.proofs.DroppedWalks.{empty_items, empty_members}
use Rattle.utoipa_check.proofs.head.is_empty.Goals as goal

pub returns-in-Array : goal.returns-in-Array
returns-in-Array c = empty_items c.args.tree.now c.in-Array.items c.is_empty.result c.in-Array.is c.is_empty.ensures

pub returns-in-Object : goal.returns-in-Object
returns-in-Object c = empty_members c.args.tree.now c.in-Object.members c.is_empty-in-Object.result c.in-Object.is c.is_empty-in-Object.ensures
