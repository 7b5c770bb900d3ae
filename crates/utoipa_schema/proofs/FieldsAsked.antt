-- Whether the fields of an object are unambiguous, one after the other.
use Rattle.std.proofs.Common.{◌≡◌, Bool, true, ◌&&◌, ap, ◌∙◌}
use Rattle.utoipa_base.specs.Docs.{Doc, Docs, doc}
use Rattle.utoipa_base.specs.Unambiguous.{is_unambiguous, are_unambiguous}
use Rattle.utoipa_base.proofs.UnambiguousParts.{docs-next}

-- a field that always is unambiguous, before others
pub passes_by : {b : Bool} (d : Doc) (ds : Docs) → is_unambiguous d ≡ true → are_unambiguous ds ≡ b → are_unambiguous (doc d ds) ≡ b
passes_by d ds always others = docs-next d ds ∙ ap (λ x. x && are_unambiguous ds) always ∙ others

-- a field that is asked, before others
pub is_asked : {b : Bool} (d : Doc) (ds : Docs) → are_unambiguous ds ≡ b → are_unambiguous (doc d ds) ≡ (is_unambiguous d && b)
is_asked d ds others = docs-next d ds ∙ ap (λ x. is_unambiguous d && x) others
