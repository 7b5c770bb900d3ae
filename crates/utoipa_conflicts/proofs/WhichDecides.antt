-- The document that is found to decide is the one that decides.
use Rattle.std.proofs.Common.{◌≡◌, ℕ, zero, suc, ◌+◌, ◌<◌, List, [], ◌∷◌, map, Bool, true, false, if◌then◌else◌, Option, None, Some, refl, sym, ap, subst, ◌∙◌, arith, true≢false}
use Rattle.std.proofs.lemmas.Option.{none-some, same_Some}
use Rattle.std.specs.List.{slice_get}
use Rattle.std.specs.Option.{option_or}
use Rattle.serde_json.specs.Data.{Data}
use Rattle.utoipa_merging.specs.Rules.{first_of, last_of}
use Rattle.utoipa_conflicts.specs.Conflicts.{Holder, has, Rule, first_decides, last_decides, Numbered, numbered, offered, by_rule}
use Rattle.utoipa_conflicts.specs.IsConflict.{Has, DecidesBy}

-- ---- small facts

is_false : (b : Bool) → (b ≡ true → ⊥) → b ≡ false
is_false true h = absurd (h refl)
is_false false h = refl

-- an offer that was made
made : (b : Bool) (t u : Numbered) → (if b then Some t else None) ≡ Some u → (b ≡ true) × (t ≡ u)
made true t u e = (refl, same_Some t u e)
made false t u e = absurd (none-some u e)

neither : (p q : Option Numbered) → option_or q p ≡ None → (p ≡ None) × (q ≡ None)
neither p None e = (e, refl)
neither p (Some t) e = absurd (none-some t (sym e))

-- a document that has a holder offers itself
offers : (h : Holder) (n : ℕ) (d : Data) → has h d ≡ true → offered h (n, d) ≡ Some (n, d)
offers h n d has_it = ap (λ b. if b then Some (n, d) else None) has_it

-- one that lacks it does not
offers_not : (h : Holder) (n : ℕ) (d : Data) → (has h d ≡ true → ⊥) → offered h (n, d) ≡ None
offers_not h n d lacks = ap (λ b. if b then Some (n, d) else None) (is_false (has h d) lacks)

-- ---- the first

-- document t is the first, of documents numbered from n on
abbrev FirstAt : ℕ → Holder → List Data → Numbered → Type 0
FirstAt n h ds t = (k : ℕ) × (t.0 ≡ n + k) × (slice_get ds k ≡ Some t.1) × (has h t.1 ≡ true) × ((l : ℕ) → l < k → Has h ds l → ⊥)

-- where the first document lacks the holder, and those before another one
none_before : (h : Holder) (d : Data) (ds : List Data) (k : ℕ) → has h d ≡ false → ((l : ℕ) → l < k → Has h ds l → ⊥) → (l : ℕ) → l < suc k → Has h (d ∷ ds) l → ⊥
none_before h d ds k lacks none zero less held = true≢false (sym held.2 ∙ ap (has h) (sym (same_Some d held.0 held.1)) ∙ lacks)
none_before h d ds k lacks none (suc l) less held = none l (omega (arith, less)) held

none_below_zero : (h : Holder) (ds : List Data) (l : ℕ) → l < zero → Has h ds l → ⊥
none_below_zero h ds l less held = omega (arith, less)

first_by : (b : Bool) (n : ℕ) (h : Holder) (d : Data) (ds : List Data) (t : Numbered) → has h d ≡ b → (first_of (map (offered h) (numbered (suc n) ds)) ≡ Some t → FirstAt (suc n) h ds t)
    → option_or (if b then Some (n, d) else None) (first_of (map (offered h) (numbered (suc n) ds))) ≡ Some t → FirstAt n h (d ∷ ds) t
first_by true n h d ds t is more e =
    let same : (n, d) ≡ t = same_Some (n, d) t e in
    let number : n ≡ t.0 = ap (λ u. u.0) same in
    (zero, omega (arith, number), ap (λ u. Some u.1) same, ap (λ u. has h u.1) (sym same) ∙ is, none_below_zero h (d ∷ ds))
first_by false n h d ds t is more e = let f = more e in (suc f.0, omega (arith, f.1), f.2, f.3, none_before h d ds f.0 is f.4)

first_found : (n : ℕ) (h : Holder) (ds : List Data) (t : Numbered) → first_of (map (offered h) (numbered n ds)) ≡ Some t → FirstAt n h ds t
first_found n h [] t e = absurd (none-some t e)
first_found n h (d ∷ ds) t e = first_by (has h d) n h d ds t refl (first_found (suc n) h ds t) e

first_when : (n : ℕ) (h : Holder) (ds : List Data) (k : ℕ) (e : Data) → slice_get ds k ≡ Some e → has h e ≡ true → ((l : ℕ) → l < k → Has h ds l → ⊥) → first_of (map (offered h) (numbered n ds)) ≡ Some (n + k, e)
first_when n h [] k e at has_it none = absurd (none-some e at)
first_when n h (d ∷ ds) zero e at has_it none =
    let same : d ≡ e = same_Some d e at in
    let number : n ≡ n + zero = omega arith in
    ap (λ o. option_or o (first_of (map (offered h) (numbered (suc n) ds)))) (offers h n d (ap (has h) same ∙ has_it)) ∙ ap (λ x. Some (n, x)) same ∙ ap (λ m. Some (m, e)) number
first_when n h (d ∷ ds) (suc k) e at has_it none =
    let number : suc n + k ≡ n + suc k = omega arith in
    ap (λ o. option_or o (first_of (map (offered h) (numbered (suc n) ds)))) (offers_not h n d (λ y. none zero (omega arith) (d, refl, y)))
    ∙ first_when (suc n) h ds k e at has_it (λ l less held. none (suc l) (omega (arith, less)) held) ∙ ap (λ m. Some (m, e)) number

-- ---- the last

-- document t is the last, of documents numbered from n on
abbrev LastAt : ℕ → Holder → List Data → Numbered → Type 0
LastAt n h ds t = (k : ℕ) × (t.0 ≡ n + k) × (slice_get ds k ≡ Some t.1) × (has h t.1 ≡ true) × ((l : ℕ) → k < l → Has h ds l → ⊥)

-- where none is found, no document has the holder
none_found : (n : ℕ) (h : Holder) (ds : List Data) → last_of (map (offered h) (numbered n ds)) ≡ None → (l : ℕ) → Has h ds l → ⊥
none_found n h [] e l held = none-some held.0 held.1
none_found n h (d ∷ ds) e zero held =
    let both = neither (offered h (n, d)) (last_of (map (offered h) (numbered (suc n) ds))) e in
    none-some (n, d) (sym both.0 ∙ offers h n d (ap (has h) (same_Some d held.0 held.1) ∙ held.2))
none_found n h (d ∷ ds) e (suc l) held =
    let both = neither (offered h (n, d)) (last_of (map (offered h) (numbered (suc n) ds))) e in
    none_found (suc n) h ds both.1 l held

-- where no document has the holder, none is found
none_when : (n : ℕ) (h : Holder) (ds : List Data) → ((l : ℕ) → Has h ds l → ⊥) → last_of (map (offered h) (numbered n ds)) ≡ None
none_when n h [] none = refl
none_when n h (d ∷ ds) none =
    ap (λ q. option_or q (offered h (n, d))) (none_when (suc n) h ds (λ l held. none (suc l) held)) ∙ offers_not h n d (λ y. none zero (d, refl, y))

-- where none of the later documents has the holder
none_after : (h : Holder) (d : Data) (ds : List Data) → ((l : ℕ) → Has h ds l → ⊥) → (l : ℕ) → zero < l → Has h (d ∷ ds) l → ⊥
none_after h d ds none zero less held = omega (arith, less)
none_after h d ds none (suc l) less held = none l held

-- where none after another one has it
none_later : (h : Holder) (d : Data) (ds : List Data) (k : ℕ) → ((l : ℕ) → k < l → Has h ds l → ⊥) → (l : ℕ) → suc k < l → Has h (d ∷ ds) l → ⊥
none_later h d ds k none zero less held = omega (arith, less)
none_later h d ds k none (suc l) less held = none l (omega (arith, less)) held

last_by : (q : Option Numbered) (n : ℕ) (h : Holder) (d : Data) (ds : List Data) (t : Numbered) → last_of (map (offered h) (numbered (suc n) ds)) ≡ q
    → ((u : Numbered) → last_of (map (offered h) (numbered (suc n) ds)) ≡ Some u → LastAt (suc n) h ds u) → option_or q (offered h (n, d)) ≡ Some t → LastAt n h (d ∷ ds) t
last_by None n h d ds t is more e =
    let offer = made (has h d) (n, d) t e in
    let number : n ≡ t.0 = ap (λ u. u.0) offer.1 in
    (zero, omega (arith, number), ap (λ u. Some u.1) offer.1, ap (λ u. has h u.1) (sym offer.1) ∙ offer.0, none_after h d ds (none_found (suc n) h ds is))
last_by (Some u) n h d ds t is more e = let f = more t (is ∙ e) in (suc f.0, omega (arith, f.1), f.2, f.3, none_later h d ds f.0 f.4)

last_found : (n : ℕ) (h : Holder) (ds : List Data) (t : Numbered) → last_of (map (offered h) (numbered n ds)) ≡ Some t → LastAt n h ds t
last_found n h [] t e = absurd (none-some t e)
last_found n h (d ∷ ds) t e = last_by (last_of (map (offered h) (numbered (suc n) ds))) n h d ds t refl (last_found (suc n) h ds) e

last_when : (n : ℕ) (h : Holder) (ds : List Data) (k : ℕ) (e : Data) → slice_get ds k ≡ Some e → has h e ≡ true → ((l : ℕ) → k < l → Has h ds l → ⊥) → last_of (map (offered h) (numbered n ds)) ≡ Some (n + k, e)
last_when n h [] k e at has_it none = absurd (none-some e at)
last_when n h (d ∷ ds) zero e at has_it none =
    let same : d ≡ e = same_Some d e at in
    let number : n ≡ n + zero = omega arith in
    ap (λ q. option_or q (offered h (n, d))) (none_when (suc n) h ds (λ l held. none (suc l) (omega arith) held)) ∙ offers h n d (ap (has h) same ∙ has_it) ∙ ap (λ x. Some (n, x)) same ∙ ap (λ m. Some (m, e)) number
last_when n h (d ∷ ds) (suc k) e at has_it none =
    let number : suc n + k ≡ n + suc k = omega arith in
    ap (λ q. option_or q (offered h (n, d))) (last_when (suc n) h ds k e at has_it (λ l less held. none (suc l) (omega (arith, less)) held)) ∙ ap (λ m. Some (m, e)) number

-- ---- by the rule

-- the document that is found decides
pub decides : (r : Rule) (h : Holder) (ds : List Data) (t : Numbered) → by_rule r (map (offered h) (numbered 0 ds)) ≡ Some t → DecidesBy r h ds t.0 × (slice_get ds t.0 ≡ Some t.1)
decides first_decides h ds t e =
    let f = first_found 0 h ds t e in
    let number : f.0 ≡ t.0 = omega (arith, f.1) in
    subst (λ i. DecidesBy first_decides h ds i × (slice_get ds i ≡ Some t.1)) number (((t.1, f.2, f.3), f.4), f.2)
decides last_decides h ds t e =
    let f = last_found 0 h ds t e in
    let number : f.0 ≡ t.0 = omega (arith, f.1) in
    subst (λ i. DecidesBy last_decides h ds i × (slice_get ds i ≡ Some t.1)) number (((t.1, f.2, f.3), f.4), f.2)

-- the document that decides is found
pub is_found : (r : Rule) (h : Holder) (ds : List Data) (i : ℕ) (e : Data) → DecidesBy r h ds i → slice_get ds i ≡ Some e → by_rule r (map (offered h) (numbered 0 ds)) ≡ Some (i, e)
is_found first_decides h ds i e by at =
    let number : 0 + i ≡ i = omega arith in
    let same : by.0.0 ≡ e = same_Some by.0.0 e (sym by.0.1 ∙ at) in
    first_when 0 h ds i e at (ap (has h) (sym same) ∙ by.0.2) by.1 ∙ ap (λ m. Some (m, e)) number
is_found last_decides h ds i e by at =
    let number : 0 + i ≡ i = omega arith in
    let same : by.0.0 ≡ e = same_Some by.0.0 e (sym by.0.1 ∙ at) in
    last_when 0 h ds i e at (ap (has h) (sym same) ∙ by.0.2) by.1 ∙ ap (λ m. Some (m, e)) number
