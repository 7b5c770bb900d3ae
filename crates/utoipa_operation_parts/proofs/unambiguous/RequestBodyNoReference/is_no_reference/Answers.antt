use Rattle.std.proofs.Common.{refl, sym}
use Rattle.utoipa_base.specs.Kinds.{request_body_object}
use Rattle.utoipa_base.proofs.WithoutReference.{table_reads_alone}
use Rattle.utoipa_operation_parts.proofs.unambiguous.RequestBodyNoReference.is_no_reference.Goals as goal

pub returns : goal.returns
returns c = sym (table_reads_alone request_body_object _ _ refl c.requires)
