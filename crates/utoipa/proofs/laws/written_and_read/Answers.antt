use Rattle.std.proofs.Common.{◌≡◌}
use Rattle.utoipa_base.specs.NormalForm.{normal_form}
use Rattle.utoipa_base.specs.WellFormed.{IsWellFormed, ReadsAs}
use Rattle.utoipa.proofs.TheTheorem.{is_read_back}
use Rattle.utoipa.proofs.laws.written_and_read.Goals as goal

pub returns : goal.returns
returns g c =
    is_read_back g.T.Documented.kind g.T.Documented.doc c.args.value.now c.from_value.result _
    (rw c.in_ok-tree.ensures c.reads_back.ensures.well_formed)
    c.from_value.ensures.ok
    c.from_value.ensures.err
