use Rattle.std.proofs.Common.{◌≡◌, Decides, sym, subst}
use Rattle.utoipa_security.specs.Scopes.{scopes_doc}
use Rattle.utoipa_tests.proofs.SameScopes.{same_scopes}
use Rattle.utoipa_tests.proofs.equality.equal_scopes.Goals as goal

pub returns : goal.returns
returns c = subst (λ r. Decides r (scopes_doc c.args.left.now ≡ scopes_doc c.args.right.now)) (sym c.eq.ensures) (same_scopes c.args.left.now c.args.right.now)
