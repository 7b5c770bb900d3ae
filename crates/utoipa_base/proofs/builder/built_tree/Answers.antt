use Rattle.std.proofs.Common.{ap, ◌∙◌, sym}
use Rattle.utoipa_base.specs.Build.{run, state}
use Rattle.utoipa_base.specs.Events.{events}
use Rattle.utoipa_base.specs.Writing.{write}
use Rattle.utoipa_base.proofs.Building.{of_some}
use Rattle.utoipa_base.proofs.Built.{built}
use Rattle.utoipa_base.proofs.builder.built_tree.Goals as goal

pub returns-in-Some : goal.returns-in-Some
returns-in-Some g c =
    let tree = write (g.T.Documented.doc c.args.value.now) in
    of_some _ _ _ c.in-Some.is (c.into_tree.ensures ∙ built tree (state c.emit.new.out) (ap (run (events tree)) (sym c.new-out.ensures) ∙ c.in_ok-emit.ensures))
