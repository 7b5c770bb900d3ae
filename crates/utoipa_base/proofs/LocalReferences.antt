-- Where a local reference leads, and the component there.
use Rattle.std.proofs.Common.{◌≡◌, ◌≢◌, ◌==◌, ℕ, List, [], ◌∷◌, map, Bool, true, false, if◌then◌else◌, None, refl, sym, ap, ◌∙◌, eqb-true}
use Rattle.std.proofs.lemmas.Str.{is_utf8-from_IsUtf8, IsUtf8-from_is_utf8}
use Rattle.std.specs.List.{slice_split}
use Rattle.std.specs.Str.{IsUtf8, is_utf8}
use Rattle.percent_encoding.specs.Percent.{percent_decode}
use Rattle.serde_json.specs.Find.{unescape}
use Rattle.utoipa_base.specs.References.{elsewhere, nowhere, place, is_slash, target_of_text, target_of_fragment, path_of, component_at, component_at_target, component_of}

by_slash : (c : ℕ) (cs : List ℕ) (b : Bool) → b ≡ is_slash c → component_at_target (if b then place (c ∷ cs) else elsewhere) ≡ component_at (path_of (c ∷ cs))
by_slash c cs true is = refl
by_slash c cs false is = ap (λ x. component_at (if x then map unescape (slice_split is_slash cs) else [])) is

at_text : (bs : List ℕ) → component_at_target (target_of_text bs) ≡ component_at (path_of bs)
at_text [] = refl
at_text (c ∷ cs) = by_slash c cs (is_slash c) refl

-- the component that a fragment leads to, which is UTF-8 once it is decoded
pub at_utf8 : (bs : List ℕ) → IsUtf8 bs → component_at_target (target_of_fragment bs) ≡ component_at (path_of bs)
at_utf8 bs is = ap (λ b. component_at_target (if b then target_of_text bs else nowhere)) (is_utf8-from_IsUtf8 bs is) ∙ at_text bs

no_utf8 : (bs : List ℕ) (b : Bool) → b ≡ is_utf8 bs → (IsUtf8 bs → ⊥) → b ≡ false
no_utf8 bs true is none = absurd (none (IsUtf8-from_is_utf8 bs (sym is)))
no_utf8 bs false is none = refl

pub at_no_utf8 : (bs : List ℕ) → (IsUtf8 bs → ⊥) → component_at_target (target_of_fragment bs) ≡ None
at_no_utf8 bs none = ap (λ b. component_at_target (if b then target_of_text bs else nowhere)) (no_utf8 bs (is_utf8 bs) refl none)

-- the fragment of a local reference
pub at_fragment : (s rest : List ℕ) → s ≡ 35 ∷ rest → component_of s ≡ component_at_target (target_of_fragment (percent_decode rest))
at_fragment s rest is = ap component_of is

other_at : (c : ℕ) (cs : List ℕ) (b : Bool) → b ≡ c == 35 → ((rest : List ℕ) → c ∷ cs ≢ 35 ∷ rest) → component_at_target (if b then target_of_fragment (percent_decode cs) else elsewhere) ≡ None
other_at c cs true is none = absurd (none cs (ap (λ n. n ∷ cs) (eqb-true c 35 (sym is))))
other_at c cs false is none = refl

-- a reference that does not begin with `#` leads to no component
pub at_other : (s : List ℕ) → ((rest : List ℕ) → s ≢ 35 ∷ rest) → component_of s ≡ None
at_other [] none = refl
at_other (c ∷ cs) none = other_at c cs (c == 35) refl none

-- the component at the pointer that a fragment decodes to
pub at_pointer : (location fragment pointer : List ℕ) → location ≡ 35 ∷ fragment → pointer ≡ percent_decode fragment → IsUtf8 (percent_decode fragment) → component_at (path_of pointer) ≡ component_of location
at_pointer location fragment pointer local decoded is = ap (λ bs. component_at (path_of bs)) decoded ∙ sym (at_utf8 (percent_decode fragment) is) ∙ sym (at_fragment location fragment local)

-- none where the fragment does not decode to UTF-8
pub at_no_pointer : (location fragment : List ℕ) → location ≡ 35 ∷ fragment → (IsUtf8 (percent_decode fragment) → ⊥) → None ≡ component_of location
at_no_pointer location fragment local none = sym (at_fragment location fragment local ∙ at_no_utf8 (percent_decode fragment) none)
