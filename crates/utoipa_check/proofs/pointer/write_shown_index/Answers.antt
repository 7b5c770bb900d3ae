use Rattle.std.proofs.Common.{arith, subst}
use Rattle.std.specs.Fmt.{HasWritten}
use Rattle.utoipa_check.proofs.ShownPointers.{decimal_shown}
use Rattle.utoipa_check.proofs.pointer.write_shown_index.Goals as goal

pub returns : goal.returns
returns g c = λ plain ok. subst (λ bs. HasWritten g.W.Write.write_str_gives c.args.f.now bs c.write.new.self) (decimal_shown c.args.index (omega arith)) (c.write.ensures.writes plain ok)
