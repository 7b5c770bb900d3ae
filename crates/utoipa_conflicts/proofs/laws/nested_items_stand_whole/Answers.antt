use Rattle.utoipa_conflicts.proofs.NestedPaths.{item_at_path}
use Rattle.utoipa_conflicts.proofs.laws.nested_items_stand_whole.Goals as goal

pub returns : goal.returns
returns c = item_at_path
