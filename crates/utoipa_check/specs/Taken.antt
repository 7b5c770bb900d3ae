-- The table that an object is read by where it is a schema.
use Rattle.std.specs.Prelude.{if◌then◌else◌}
use Rattle.serde_json.specs.Data.{Members}
use Rattle.utoipa_base.specs.Kinds.{ObjectType, one_of_schema, all_of_schema, any_of_schema, array_schema, object_schema}
use Rattle.utoipa_check.specs.Misfits.{Checks, fits_table, may_be_object, meant_schema}

-- the table that an object is read by as a schema: the first that fits, or of one that none fits the table that was meant
abbrev pub taken_schema : Members → Checks → ObjectType
taken_schema ms cs =
    if fits_table one_of_schema cs then one_of_schema else
    (if fits_table all_of_schema cs then all_of_schema else
    (if fits_table any_of_schema cs then any_of_schema else
    (if fits_table array_schema cs then array_schema else
    (if may_be_object ms then (if fits_table object_schema cs then object_schema else meant_schema ms) else meant_schema ms))))
