use Rattle.std.proofs.Common.{refl}
use Rattle.utoipa_base.specs.Kinds.{any_of_schema}
use Rattle.utoipa_schema.specs.Parts.{combination_docs, combination_of}
use Rattle.utoipa_base.proofs.TableParts.{same_field, same_part, same_table}
use Rattle.utoipa_schema.proofs.copy.clone_any_of_with.Goals as goal

pub returns : goal.returns
returns c = λ items.
    same_table any_of_schema _ _ _ _
    (same_field _ _ _ _ items
    (same_part (combination_docs c.in_ok-combination.combination) (combination_docs (combination_of c.args.any_of.now.description c.args.any_of.now.default c.args.any_of.now.example c.args.any_of.now.examples c.args.any_of.now.discriminator)) _ _ c.in_ok-combination.ensures
    (same_field _ _ _ _ c.in_ok-schema_type.ensures refl)))
    c.in_ok-extensions.ensures
