use Rattle.std.proofs.Common.{refl}
use Rattle.std.proofs.lemmas.Result.{on_ok_weaker}
use Rattle.utoipa_media.proofs.Built.{built_where_done}
use Rattle.utoipa_operation_parts.proofs.request_body.RequestBodyRequestBodyExt.json_schema_ref.Goals as goal

pub returns : goal.returns
returns c =
    built_where_done c.put.result _ c.and.result _ c.and.ensures
    (on_ok_weaker c.put.result
    (λ put. (c.put.new.map, (c.in_ok-media_type.media_type, c.in_ok-content.content, c.in_ok-media_type.ensures, c.in_ok-content.ensures, put), refl))
    c.put.ensures.ok)
