use Rattle.utoipa_merging.proofs.ReadInOrder.{read_in_order}
use Rattle.utoipa_merging.proofs.laws.what_is_read_is_in_key_order.Goals as goal

pub returns : goal.returns
returns c = read_in_order
