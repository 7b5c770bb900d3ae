-- Which schema a text names.
use Rattle.std.proofs.Common.{◌≡◌, ◌≢◌, ◌==◌, ◌||◌, ℕ, List, [], ◌∷◌, Bool, true, false, cond, Option, None, Some, refl, sym, ap, ◌∙◌}
use Rattle.std.proofs.lemmas.Bool.{eqb-true}
use Rattle.std.proofs.lemmas.Str.{is_utf8-from_IsUtf8, IsUtf8-from_is_utf8}
use Rattle.std.specs.Str.{IsUtf8, is_utf8}
use Rattle.percent_encoding.specs.Percent.{percent_decode}
use Rattle.utoipa_outline.specs.Used.{schema_token, fragment_token, reference_token, mapping_token}

-- ---- fragments

pub of_utf8 : (bs : List ℕ) → IsUtf8 bs → schema_token bs ≡ fragment_token bs
of_utf8 bs is = ap (λ b. cond b (schema_token bs) None) (sym (is_utf8-from_IsUtf8 bs is))

no_utf8 : (bs : List ℕ) (b : Bool) → b ≡ is_utf8 bs → (IsUtf8 bs → ⊥) → b ≡ false
no_utf8 bs true is none = absurd (none (IsUtf8-from_is_utf8 bs (sym is)))
no_utf8 bs false is none = refl

pub of_no_utf8 : (bs : List ℕ) → (IsUtf8 bs → ⊥) → None ≡ fragment_token bs
of_no_utf8 bs none = ap (λ b. cond b (schema_token bs) None) (sym (no_utf8 bs (is_utf8 bs) refl none))

-- ---- texts that do not begin with `#`

other_by : (c : ℕ) (cs : List ℕ) (o p : Option (List ℕ)) (b : Bool) → b ≡ c == 35 → ((rest : List ℕ) → c ∷ cs ≢ 35 ∷ rest) → o ≡ cond b p o
other_by c cs o p true is none = absurd (none cs (ap (λ n. n ∷ cs) (eqb-true c 35 (sym is))))
other_by c cs o p false is none = refl

pub of_other : (s : List ℕ) → ((rest : List ℕ) → s ≢ 35 ∷ rest) → None ≡ reference_token s
of_other [] none = refl
of_other (c ∷ cs) none = other_by c cs None (fragment_token (percent_decode cs)) (c == 35) refl none

pub of_name : (s : List ℕ) → ((rest : List ℕ) → s ≢ 35 ∷ rest) → Some s ≡ mapping_token s
of_name [] none = refl
of_name (c ∷ cs) none = other_by c cs (Some (c ∷ cs)) (fragment_token (percent_decode cs)) (c == 35) refl none

-- ---- flags

pub as_or : (a b : Bool) → cond a true b ≡ (a || b)
as_or true b = refl
as_or false b = refl

turned : (a b c : Bool) → (b || (a || c)) ≡ ((a || b) || c)
turned true true c = refl
turned true false c = refl
turned false b c = refl

-- one reference more is noted
pub one_more : (a b old new all : Bool) → new ≡ (a || old) → ((a || b) || old) ≡ all → (b || new) ≡ all
one_more a b old new all put before = ap (λ x. b || x) put ∙ turned a b old ∙ before
