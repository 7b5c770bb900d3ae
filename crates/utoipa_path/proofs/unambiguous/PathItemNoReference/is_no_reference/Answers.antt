use Rattle.utoipa_path.proofs.ItemsWithoutReference.{told_of_item}
use Rattle.utoipa_path.proofs.unambiguous.PathItemNoReference.is_no_reference.Goals as goal

pub returns : goal.returns
returns c = told_of_item c.is_none.result c.args.self.now c.is_none.ensures c.requires
