use Rattle.utoipa_meaning.proofs.Lists.{empty_list}
use Rattle.utoipa_meaning.proofs.compared.is_empty_list.Goals as goal

pub returns-in-Array : goal.returns-in-Array
returns-in-Array c = empty_list c.args.tree.now c.in-Array.items c.is_empty.result c.in-Array.is c.is_empty.ensures
