use Rattle.std.proofs.Common.{◌≡◌, ◌∷◌, [], Some, sym}
use Rattle.utoipa_base.specs.Docs.{Doc}
use Rattle.utoipa_document_cases.proofs.own.PetToSchema.schemas.Goals as goal

same : (d e : Doc) → Some d ≡ Some e → d ≡ e
same d e is = cc

pub returns-clause-ok : goal.returns-clause-ok
returns-clause-ok c = (
  (c.in_ok-name.name, c.in-Ok.schema) ∷ [],
  c.in_ok-push.ensures.items,
  λ i. (c.in_ok-name.ensures.ok i, sym (same _ _ c.in-Ok.ensures.ok) i) ∷ [],
)
