use Rattle.std.proofs.Common.{refl, sym}
use Rattle.utoipa_base.specs.Kinds.{example_object}
use Rattle.utoipa_base.proofs.WithoutReference.{table_reads_alone}
use Rattle.utoipa_leaf.proofs.unambiguous.ExampleNoReference.is_no_reference.Goals as goal

pub returns : goal.returns
returns c = sym (table_reads_alone example_object _ _ refl c.requires)
