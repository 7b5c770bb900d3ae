-- What the builder of path items holds.
use Rattle.utoipa_path.specs.Builders.{PathItemFields}
use Rattle.utoipa_path.specs.declared.types.PathItem.{out-PathItem}
use Rattle.utoipa_path.specs.declared.path_item.PathItemBuilder.{PathItemBuilder}

-- the path item of a builder so far, by its fields
abbrev pub built_path_item : PathItemBuilder → PathItemFields
built_path_item b = out-PathItem b.item
