use Rattle.std.proofs.Common.{◌≡◌, drop}
use Rattle.serde_json.specs.View.{view}
use Rattle.utoipa_base.specs.Rows.{texts}
use Rattle.utoipa_adapt.specs.Trees as specs
use Rattle.utoipa_adapt.proofs.looking.has_any.Given as goal

abbrev pub invariant-loop-name : goal.invariant-loop-name
invariant-loop-name l = specs.has_any (texts l.names) (view l.tree) ≡ specs.has_any (texts (drop l.name-index l.names)) (view l.tree)
