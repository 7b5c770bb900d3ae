use Rattle.std.proofs.Common.{◌≡◌, drop, map, string_bytes}
use Rattle.utoipa_base.specs.Values.{is_one_of}
use Rattle.utoipa.proofs.own_schemas.is_among.Given as goal

abbrev pub invariant-loop-other : goal.invariant-loop-other
invariant-loop-other l = is_one_of l.name (map string_bytes l.names) ≡ is_one_of l.name (map string_bytes (drop l.other-index l.names))
