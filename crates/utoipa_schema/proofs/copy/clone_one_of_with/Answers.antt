use Rattle.std.proofs.Common.{refl}
use Rattle.utoipa_base.specs.Kinds.{one_of_schema}
use Rattle.utoipa_schema.specs.Parts.{combination_docs, combination_of_one_of}
use Rattle.utoipa_base.proofs.TableParts.{same_field, same_part, same_table}
use Rattle.utoipa_schema.proofs.copy.clone_one_of_with.Goals as goal

pub returns : goal.returns
returns c = λ items.
    same_table one_of_schema _ _ _ _
    (same_part (combination_docs c.in_ok-combination.combination) (combination_docs (combination_of_one_of c.args.one_of.now)) _ _ c.in_ok-combination.ensures
    (same_field _ _ _ _ items
    (same_field _ _ _ _ c.in_ok-read_only.ensures
    (same_field _ _ _ _ c.in_ok-title.ensures
    (same_field _ _ _ _ c.in_ok-schema_type.ensures
    (same_field _ _ _ _ c.in_ok-write_only.ensures refl))))))
    c.in_ok-extensions.ensures
