use Rattle.utoipa_path.proofs.Built.{built_where_done}
use Rattle.utoipa.proofs.tags.tagged_item.Goals as goal

pub returns : goal.returns
returns c = built_where_done c.tag_item.result c.tag_item.new.item c.and.result _ c.and.ensures c.tag_item.ensures
