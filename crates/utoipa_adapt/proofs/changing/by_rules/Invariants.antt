use Rattle.std.proofs.Common.{◌≡◌, drop}
use Rattle.serde_json.specs.View.{view}
use Rattle.utoipa_adapt.specs.Rules as specs
use Rattle.utoipa_adapt.specs.Views.{all_rules}
use Rattle.utoipa_adapt.proofs.changing.by_rules.Given as goal

abbrev pub invariant-loop-rule : goal.invariant-loop-rule
invariant-loop-rule l = specs.by_rules (all_rules (drop l.rule-index l.rules)) (view l.done) ≡ specs.by_rules (all_rules l.rules) (view l.fn.tree)
