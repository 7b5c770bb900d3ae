use Rattle.std.proofs.Common.{arith}
use Rattle.utoipa_adapt.proofs.Turns.{not_only}
use Rattle.utoipa_adapt.proofs.looking.is_only_reference.Goals as goal

pub returns-in_default-2 : goal.returns-in_default-2
returns-in_default-2 c = not_only c.args.items.now (omega (arith, c.in_default.len_at_least))
