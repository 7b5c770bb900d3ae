use Rattle.std.proofs.Common.{◌∙◌, ap, refl}
use Rattle.utoipa_base.specs.Docs.{ref_doc}
use Rattle.utoipa_base.specs.Kinds.{schema as schema_kind}
use Rattle.utoipa_operation_parts.specs.Described.{bare_reference, reference_is_bare}
use Rattle.utoipa.proofs.own_schemas.schema_ref.Goals as goal

pub returns : goal.returns
returns c =
    let made = c.in_ok-from_schema_name in
    ap (ref_doc schema_kind) (reference_is_bare made.field-0.ref_location made.field-0 refl made.ensures.1 ∙ ap bare_reference made.ensures.0)
