use Rattle.std.proofs.Common.{◌∙◌, ap, sym, string_cmp}
use Rattle.std.specs.BTreeMap.{insert_entry}
use Rattle.utoipa_schema_parts.proofs.Mappings.{put_mapping-last}
use Rattle.utoipa_schema_parts.proofs.discriminator.Discriminator.with_mapping.Goals as goal

pub loop-value-preserved : goal.loop-value-preserved
loop-value-preserved g c = (
  c.loop-value.invariant.0,
  c.in_ok-insert.ensures.entries ∙ ap (λ es. insert_entry string_cmp es c.in-Some.value c.in-Some.schema) c.loop-value.invariant.1
      ∙ sym (put_mapping-last c.loop-value.yielded (c.in-Some.value, c.in-Some.schema) _),
  c.loop-value.invariant.2,
)
