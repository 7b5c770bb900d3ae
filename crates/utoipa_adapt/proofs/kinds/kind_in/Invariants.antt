use Rattle.std.proofs.Common.{◌≡◌, drop}
use Rattle.utoipa_adapt.specs.Adapted as specs
use Rattle.utoipa_tables.specs.Tables.{members_of}
use Rattle.utoipa_adapt.proofs.kinds.kind_in.Given as goal

abbrev pub invariant-loop-row : goal.invariant-loop-row
invariant-loop-row l = specs.kind_in l.name (members_of l.rows) ≡ specs.kind_in l.name (members_of (drop l.row-index l.rows))
