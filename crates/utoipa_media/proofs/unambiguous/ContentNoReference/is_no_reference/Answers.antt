use Rattle.std.proofs.Common.{refl, sym}
use Rattle.utoipa_base.specs.Kinds.{media_type_object}
use Rattle.utoipa_base.proofs.WithoutReference.{table_reads_alone}
use Rattle.utoipa_media.proofs.unambiguous.ContentNoReference.is_no_reference.Goals as goal

pub returns : goal.returns
returns c = sym (table_reads_alone media_type_object _ _ refl c.requires)
