-- Documents in brackets, merged pair by pair.
use Rattle.std.proofs.Common.{◌≡◌, ◌<◌, ◌≤◌, List, [], ◌∷◌, ◌++◌, length, Bool, false, ◌||◌, map, refl, sym, ap, ◌∙◌, subst, arith}
use Rattle.std.specs.List.{list_any}
use Rattle.std.proofs.lemmas.List.{map-append, length-append}
use Rattle.std.proofs.lemmas.List.Folds.{list_any-append}
use Rattle.utoipa_merging.specs.Merged.{IsMerged}
use Rattle.utoipa_merging.proofs.Composition.{merged_composes, merged_one}
use Rattle.utoipa.specs.Merging.{lists_have_fraction, any_list_has_fraction, leaves_of}
use Rattle.utoipa.specs.OpenApi.{openapi_doc, openapi_of_kind}
use Rattle.utoipa.specs.declared.bracketing.Bracketing.{Bracketing}
use Rattle.utoipa.specs.declared.bracketing.Bracketing.TheVariants.{Leaf, Join'}
use Rattle.utoipa.specs.declared.document.OpenApi.{OpenApi}
use Rattle.utoipa.proofs.MergedDocuments.{or_first, or_second}

-- whether one of the documents has a fraction in a list
abbrev pub any_fraction : List OpenApi → Bool
any_fraction ds = list_any lists_have_fraction (map openapi_doc ds)

both_sides : (whole xs ys : List OpenApi) → whole ≡ xs ++ ys → any_fraction whole ≡ (any_fraction xs || any_fraction ys)
both_sides whole xs ys is = ap any_fraction is ∙ ap (list_any lists_have_fraction) (map-append openapi_doc xs ys) ∙ list_any-append lists_have_fraction (map openapi_doc xs) (map openapi_doc ys)

pub left_plain : (whole xs ys : List OpenApi) → whole ≡ xs ++ ys → any_fraction whole ≡ false → any_fraction xs ≡ false
left_plain whole xs ys is h = or_first (any_fraction xs) (any_fraction ys) (sym (both_sides whole xs ys is) ∙ h)

pub right_plain : (whole xs ys : List OpenApi) → whole ≡ xs ++ ys → any_fraction whole ≡ false → any_fraction ys ≡ false
right_plain whole xs ys is h = or_second (any_fraction xs) (any_fraction ys) (sym (both_sides whole xs ys is) ∙ h)

pub pair_merged : (whole xs ys : List OpenApi) (a b d : OpenApi) → whole ≡ xs ++ ys → IsMerged (map openapi_doc xs) (openapi_doc a) → IsMerged (map openapi_doc ys) (openapi_doc b)
    → IsMerged (openapi_doc a ∷ openapi_doc b ∷ []) (openapi_doc d) → IsMerged (map openapi_doc whole) (openapi_doc d)
pair_merged whole xs ys a b d is p q m =
    subst (λ ds. IsMerged ds (openapi_doc d)) (sym (ap (map openapi_doc) is ∙ map-append openapi_doc xs ys)) (merged_composes (map openapi_doc xs) (map openapi_doc ys) (openapi_doc a) (openapi_doc b) (openapi_doc d) p q m)

pub leaf_merged : (whole : List OpenApi) (d : OpenApi) → whole ≡ d ∷ [] → IsMerged (map openapi_doc whole) (openapi_doc d)
leaf_merged whole d is = subst (λ ds. IsMerged (map openapi_doc ds) (openapi_doc d)) (sym is) (merged_one (openapi_doc d) (openapi_of_kind d))

-- ---- how many documents there are

some_leaf : (b : Bracketing) → 0 < length (leaves_of b)
some_leaf (Leaf d) = omega arith
some_leaf (Join' p left q right) = let left_some = some_leaf left in let both = length-append (leaves_of left) (leaves_of right) in omega arith

pub left_fewer : (whole : List OpenApi) (left right : Bracketing) → whole ≡ leaves_of left ++ leaves_of right → length (leaves_of left) < length whole
left_fewer whole left right is = let some = some_leaf right in let both = ap length is ∙ length-append (leaves_of left) (leaves_of right) in omega arith

pub right_fewer : (whole : List OpenApi) (left right : Bracketing) → whole ≡ leaves_of left ++ leaves_of right → length (leaves_of right) < length whole
right_fewer whole left right is = let some = some_leaf left in let both = ap length is ∙ length-append (leaves_of left) (leaves_of right) in omega arith

-- ---- documents of which there are at least two

not_alone : (b : Bracketing) → ((x : OpenApi) → b ≡ Leaf x → ⊥) → (d : OpenApi) → leaves_of b ≡ d ∷ [] → ⊥
not_alone (Leaf x) other d is = other x refl
not_alone (Join' p left q right) other d is =
    let some = some_leaf left in
    let more = some_leaf right in
    let both = sym (length-append (leaves_of left) (leaves_of right)) ∙ ap length is in
    omega arith

-- brackets that are no leaf have no one document
pub no_leaf : (b : Bracketing) → ((x : OpenApi) → b ≡ Leaf x → ⊥) → (P : OpenApi → Type 0) → (d : OpenApi) → leaves_of b ≡ d ∷ [] → P d
no_leaf b other P d is = absurd (not_alone b other d is)

any_of_list : (ds : List OpenApi) → ((d : OpenApi) → ds ≡ d ∷ [] → ⊥) → any_list_has_fraction (map openapi_doc ds) ≡ any_fraction ds
any_of_list [] several = refl
any_of_list (d ∷ []) several = absurd (several d refl)
any_of_list (d ∷ e ∷ ds) several = refl

pub any_of_brackets : (b : Bracketing) → ((x : OpenApi) → b ≡ Leaf x → ⊥) → any_list_has_fraction (map openapi_doc (leaves_of b)) ≡ any_fraction (leaves_of b)
any_of_brackets b other = any_of_list (leaves_of b) (not_alone b other)

-- documents of which none has a fraction in a list, or of which there is at most one
pub any_list_none : (ds : List OpenApi) → any_fraction ds ≡ false → any_list_has_fraction (map openapi_doc ds) ≡ false
any_list_none [] h = refl
any_list_none (d ∷ []) h = refl
any_list_none (d ∷ e ∷ ds) h = h

pub any_list_short : (ds : List OpenApi) → length ds ≤ 1 → any_list_has_fraction (map openapi_doc ds) ≡ false
any_list_short [] short = refl
any_list_short (d ∷ []) short = refl
any_list_short (d ∷ e ∷ ds) short = absurd (omega (arith, short))
