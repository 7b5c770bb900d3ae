use Rattle.std.proofs.Common.{◌∙◌, ap, string_cmp}
use Rattle.std.specs.BTreeMap.{insert_entry}
use Rattle.utoipa_security.proofs.security.requirement.SecurityRequirement.new.Goals as goal

pub returns : goal.returns
returns g c = (
  c.in_ok-listed.listed,
  c.in_ok-listed.ensures,
  c.in_ok-insert.ensures.entries ∙ ap (λ es. insert_entry string_cmp es c.args.name c.in_ok-listed.listed) c.new-value.ensures.empty,
)
