-- The parts of the tables of operations and path items.
use Rattle.std.specs.Prelude.{List, map, not}
use Rattle.utoipa_base.specs.Kinds.{Row, path_item_object}
use Rattle.utoipa_base.specs.Rows.{rows_picked}
use Rattle.utoipa_base.specs.Tables.{table}
use Rattle.utoipa_path.specs.Docs.{item_order}

-- the rows of a path item that hold no operations
abbrev pub base_rows : List Row
base_rows = rows_picked item_order (table path_item_object)

-- those that do
abbrev pub operations_rows : List Row
operations_rows = rows_picked (map not item_order) (table path_item_object)
