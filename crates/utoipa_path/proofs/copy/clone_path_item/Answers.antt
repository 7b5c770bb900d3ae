use Rattle.std.proofs.Common.{◌≡◌}
use Rattle.utoipa_path.specs.Docs.{path_item_doc}
use Rattle.utoipa_path.proofs.Built.{built_where_done}
use Rattle.utoipa_path.proofs.copy.clone_path_item.Goals as goal

pub returns : goal.returns
returns c = built_where_done c.copy_path_item.result _ _ (λ copy. path_item_doc copy ≡ path_item_doc c.args.item.now) c.and.ensures c.copy_path_item.ensures
