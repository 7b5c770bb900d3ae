use Rattle.std.proofs.Common.{sym, ◌∙◌}
use Rattle.serde_json.specs.View.{view}
use Rattle.utoipa_schema.proofs.Noting.{uncombined}
use Rattle.utoipa_schema.proofs.alternatives.combination_from.Goals as goal

pub returns-then-not-has_combination-clause-read : goal.returns-then-not-has_combination-clause-read
returns-then-not-has_combination-clause-read c = uncombined (view c.args.tree.now) c.args.members.now c.requires.found (sym c.has_combination.ensures ∙ c.if-not-has_combination.true)
