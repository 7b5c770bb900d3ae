use Rattle.std.proofs.Common.{◌≡◌, Some, option_map, ap, ◌∙◌, sym, arith}
use Rattle.utoipa_schema.specs.Docs.{schema_doc}
use Rattle.utoipa_schema.specs.Outcomes.{outcome_doc, own_part, count_of}
use Rattle.utoipa_schema.proofs.Fitting.{count_own}
use Rattle.utoipa_schema.proofs.members.only_schema.Goals as goal

pub returns-in-Some : goal.returns-in-Some
returns-in-Some c =
    let own : own_part (outcome_doc c.args.outcome) ≡ Some (schema_doc c.in-Some.schema) = sym c.own_schema.ensures ∙ ap (option_map schema_doc) c.in-Some.is in
    record { ok = own; err = tt; counted = omega (arith, count_own (outcome_doc c.args.outcome), ap count_of own) }
