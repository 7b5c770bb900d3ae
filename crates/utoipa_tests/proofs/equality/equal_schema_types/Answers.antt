use Rattle.std.proofs.Common.{◌≡◌, Decides, sym, subst}
use Rattle.utoipa_schema_parts.specs.Types.{schema_type_doc}
use Rattle.utoipa_tests.proofs.SameTypes.{same_type}
use Rattle.utoipa_tests.proofs.equality.equal_schema_types.Goals as goal

pub returns : goal.returns
returns c =
    subst (λ r. Decides r (schema_type_doc c.args.left.now ≡ schema_type_doc c.args.right.now)) (sym c.eq.ensures)
    (same_type c.args.left.now c.args.right.now)
