use Rattle.std.proofs.Common.{arith}
use Rattle.serde_json.specs.View.{view}
use Rattle.utoipa_base.proofs.Readers.{reads_within}
use Rattle.utoipa_schema.proofs.SchemaMembers.{schema_values}
use Rattle.utoipa_schema.proofs.trees.AllOfTree.read_plain.Goals as goal

pub returns : goal.returns
returns c = reads_within _ _ _ _ _ _ _ c.read_all_of.ensures (omega (arith, schema_values (view c.args.tree.now)))
