use Rattle.std.proofs.Common.{refl}
use Rattle.utoipa_base.proofs.TokenTables.{optional_field, optional_null}
use Rattle.utoipa_base.proofs.open_table.OptionalFieldOpenField.from_tokens.Goals as goal

pub returns-in-Null-clause-read : goal.returns-in-Null-clause-read
returns-in-Null-clause-read g c = λ name. optional_null g.T.Documented.kind _ _ _ _ _ _ refl c.in-Null.is

pub returns : goal.returns
returns g c = record {
  read = λ name. optional_field g.T.Documented.kind g.T.Documented.doc _ c.in_ok-value.value _ _ _ _ _ _ _ refl c.in_default.not-Null c.in_ok-value.ensures.read;
  left = c.in_ok-value.ensures.left;
}
