use Rattle.std.proofs.Common.{◌∙◌, sym}
use Rattle.serde_json.specs.View.{view}
use Rattle.utoipa_tables.specs.Tables.{kind_of}
use Rattle.utoipa_check.proofs.Leaves.{mismatch_fraction, mismatch_expected}
use Rattle.utoipa_check.proofs.leaf.mismatch.Goals as goal

pub returns-then-is_f64 : goal.returns-then-is_f64
returns-then-is_f64 c = sym (mismatch_fraction (kind_of c.args.kind) (view c.args.tree.now) (sym c.is_f64.ensures ∙ c.if-is_f64.true))

pub returns-else-is_f64 : goal.returns-else-is_f64
returns-else-is_f64 c = sym (mismatch_expected (kind_of c.args.kind) (view c.args.tree.now) (sym c.is_f64.ensures ∙ c.if-is_f64.false))
