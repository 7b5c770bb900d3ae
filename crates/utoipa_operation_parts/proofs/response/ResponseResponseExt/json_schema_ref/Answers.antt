use Rattle.std.proofs.Common.{refl}
use Rattle.utoipa_operation_parts.proofs.response.ResponseResponseExt.json_schema_ref.Goals as goal

pub returns : goal.returns
returns c = (
  c.insert.new.self,
  (c.in_ok-media_type.media_type, c.in_ok-content.content, c.in_ok-media_type.ensures, c.in_ok-content.ensures, c.in_ok-insert.ensures.entries),
  refl,
)
