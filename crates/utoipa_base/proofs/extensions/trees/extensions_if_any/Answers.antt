use Rattle.std.proofs.Common.{◌≡◌, List, [], ◌∷◌, Some, length, refl, sym, ap, true≢false}
use Rattle.serde_json.specs.View.{members_view}
use Rattle.serde_json.proofs.Views.{Entry}
use Rattle.utoipa_base.specs.Extensions.{some_if_any}
use Rattle.utoipa_base.proofs.extensions.trees.extensions_if_any.Goals as goal

some_members : (es : List Entry) → (es ≡ [] → ⊥) → Some (members_view es) ≡ some_if_any (members_view es)
some_members [] h = absurd (h refl)
some_members (e ∷ es) h = refl

pub returns : goal.returns
returns c = some_members c.args.entries.entries (λ h. absurd (true≢false (sym (c.if-is_empty.ensures.1 (ap length h)))))
