use Rattle.std.proofs.Common.{◌≡◌, [], None}
use Rattle.utoipa_schema_parts.specs.Discriminator.{put_mapping}
use Rattle.utoipa_schema_parts.proofs.discriminator.Discriminator.with_mapping.Given as goal

abbrev pub invariant-loop-value : goal.invariant-loop-value
invariant-loop-value g l =
    (l.discriminator.property_name ≡ l.fn.property_name) × (l.discriminator.mapping.entries ≡ put_mapping l.yielded []) × (l.discriminator.extensions ≡ None)
