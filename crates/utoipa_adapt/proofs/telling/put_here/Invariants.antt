use Rattle.std.proofs.Common.{◌≡◌, ◌++◌, drop}
use Rattle.serde_json.specs.View.{view}
use Rattle.utoipa_adapt.specs.Adapted.{told_here}
use Rattle.utoipa_adapt.specs.Views.{all_rules, all_told}
use Rattle.utoipa_adapt.proofs.telling.put_here.Given as goal

abbrev pub invariant-loop-rule : goal.invariant-loop-rule
invariant-loop-rule l =
    all_told l.told.items ++ told_here (all_rules (drop l.rule-index l.rules)) (view l.tree) ≡ all_told l.initial.told.items ++ told_here (all_rules l.rules) (view l.tree)
