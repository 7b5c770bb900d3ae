-- The lines of equal counts.
use Rattle.std.proofs.Common.{◌≡◌, ℕ, ap, ◌∙◌}
use Rattle.utoipa_outline.specs.Stats.{stats_text}

pub same_stats : (a b c d e f g p w o s u n h size : ℕ) → a ≡ p → b ≡ w → c ≡ o → d ≡ s → e ≡ u → f ≡ n → g ≡ h
    → stats_text a b c d e f g size ≡ stats_text p w o s u n h size
same_stats a b c d e f g p w o s u n h size paths webhooks operations schemas used unused deep =
    ap (λ x. stats_text x b c d e f g size) paths
    ∙ ap (λ x. stats_text p x c d e f g size) webhooks
    ∙ ap (λ x. stats_text p w x d e f g size) operations
    ∙ ap (λ x. stats_text p w o x e f g size) schemas
    ∙ ap (λ x. stats_text p w o s x f g size) used
    ∙ ap (λ x. stats_text p w o s u x g size) unused
    ∙ ap (λ x. stats_text p w o s u n x size) deep
