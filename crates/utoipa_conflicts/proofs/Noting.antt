-- What one more entry changes of what is noted.
use Rattle.std.proofs.Common.{◌≡◌, ◌⊎◌, inl, inr, ℕ, ◌+◌, ◌<◌, length, get_or, drop, drop-cons, add-one, ◌||◌, List, [], ◌∷◌, Bool, true, false, cond, if◌then◌else◌, ◌&&◌, Option, None, Some, is_some, option_map, Ordering, Less, Equal, Greater, refl, sym, ap, ◌∙◌, true≢false}
use Rattle.std.proofs.lemmas.Map.Text.{is_eq-slice_cmp}
use Rattle.std.proofs.lemmas.Slice.Eq.{bytes_eq-Decides}
use Rattle.std.specs.BTreeMap.{BTreeMap, insert_entry, is_at}
use Rattle.std.specs.Cmp.Lexicographic.{slice_cmp}
use Rattle.std.specs.Map.{lookup}
use Rattle.std.specs.Ordering.{nat_cmp, match_ordering, is_eq, ordering_then}
use Rattle.std.specs.Str.{bytes_eq}
use Rattle.utoipa_base.proofs.BoolFacts.{and_first, and_second}
use Rattle.utoipa_conflicts.specs.Conflicts as specs
use Rattle.utoipa_conflicts.specs.Conflicts.{document, component, path_entry, item_member, additional_operation, rule, Rule, first_decides, last_decides, Numbered}
use Rattle.utoipa_conflicts.specs.Deciders.{numbered_of, is_key, noted, is_last, with_one}
use Rattle.utoipa_conflicts.specs.Holders.{same_holder, is_among}
use Rattle.utoipa_conflicts.specs.Views.{holder_of, all_holders}
use Rattle.utoipa_conflicts.specs.contracts.holder.HolderOrd.TheImpl as holder_ord
use Rattle.utoipa_conflicts.specs.declared.deciders.Document.{Document}
use Rattle.utoipa_conflicts.specs.declared.holder.Holder.{Holder}
use Rattle.utoipa_conflicts.specs.declared.holder.Holder.TheVariants as variants

-- ---- the same holder

both : (a b c d : List ℕ) → bytes_eq a c && bytes_eq b d ≡ true → (a ≡ c) × (b ≡ d)
both a b c d e = ((bytes_eq-Decides a c).0 (and_first (bytes_eq a c) (bytes_eq b d) e), (bytes_eq-Decides b d).0 (and_second (bytes_eq a c) (bytes_eq b d) e))

one_of_two : (f : List ℕ → List ℕ → specs.Holder) (a b c d : List ℕ) → bytes_eq a c && bytes_eq b d ≡ true → f a b ≡ f c d
one_of_two f a b c d e = let h = both a b c d e in ap (λ x. f x b) h.0 ∙ ap (f c) h.1

-- holders that the test does not tell apart are one
pub one_holder : (h g : specs.Holder) → same_holder h g ≡ true → h ≡ g
one_holder document document e = refl
one_holder (component a b) (component c d) e = one_of_two component a b c d e
one_holder (path_entry a) (path_entry c) e = ap path_entry ((bytes_eq-Decides a c).0 e)
one_holder (item_member a b) (item_member c d) e = one_of_two item_member a b c d e
one_holder (additional_operation a b) (additional_operation c d) e = one_of_two additional_operation a b c d e
one_holder h g e = absurd (true≢false (sym e))

reflects : (s : List ℕ) → bytes_eq s s ≡ true
reflects s = (bytes_eq-Decides s s).1 refl

reflect_both : (s t : List ℕ) → bytes_eq s s && bytes_eq t t ≡ true
reflect_both s t = ap (λ b. b && bytes_eq t t) (reflects s) ∙ reflects t

pub itself : (h : specs.Holder) → same_holder h h ≡ true
itself document = refl
itself (component a b) = reflect_both a b
itself (path_entry a) = reflects a
itself (item_member a b) = reflect_both a b
itself (additional_operation a b) = reflect_both a b

-- ---- the keys of the map

chained : (o p : Ordering) → is_eq (ordering_then o p) ≡ (is_eq o && is_eq p)
chained Less p = refl
chained Equal p = refl
chained Greater p = refl

ties : (a b c d : List ℕ) → is_eq (ordering_then (slice_cmp nat_cmp a c) (slice_cmp nat_cmp b d)) ≡ (bytes_eq a c && bytes_eq b d)
ties a b c d = chained (slice_cmp nat_cmp a c) (slice_cmp nat_cmp b d) ∙ ap (λ x. x && is_eq (slice_cmp nat_cmp b d)) (is_eq-slice_cmp a c) ∙ ap (λ x. bytes_eq a c && x) (is_eq-slice_cmp b d)

-- two keys are equal where they are one holder
tie : (p q : Holder) → is_eq ((holder_ord.ghosts).cmp p q) ≡ is_key (holder_of p) q
tie variants.Document variants.Document = refl
tie (variants.Component a b) (variants.Component c d) = ties a.now b.now c.now d.now
tie (variants.PathEntry a) (variants.PathEntry c) = is_eq-slice_cmp a.now c.now
tie (variants.ItemMember a b) (variants.ItemMember c d) = ties a.now b.now c.now d.now
tie (variants.AdditionalOperation a b) (variants.AdditionalOperation c d) = ties a.now b.now c.now d.now
tie p q = refl

abbrev Entries : Type 0
Entries = List (Holder × Document)

-- a key is looked up by its holder
pub looked_up : (k : Holder) (es : Entries) → lookup (is_at ((holder_ord.ghosts).cmp k)) es ≡ lookup (is_key (holder_of k)) es
looked_up k [] = refl
looked_up k (e ∷ es) = ap (λ b. cond b (Some e.1) (lookup (is_at ((holder_ord.ghosts).cmp k)) es)) (tie k e.0) ∙ ap (λ o. cond (is_key (holder_of k) e.0) (Some e.1) o) (looked_up k es)

-- ---- one more entry

-- the same test, twice
once : {X : Type 0} (b : Bool) (x y z : X) → cond b x z ≡ cond b x (cond b y z)
once true x y z = refl
once false x y z = refl

-- two tests of which one fails
either : {X : Type 0} (b c : Bool) (x y z : X) → (b ≡ true → c ≡ true → ⊥) → cond c y (cond b x z) ≡ cond b x (cond c y z)
either true true x y z apart = absurd (apart refl refl)
either true false x y z apart = refl
either false c x y z apart = refl

-- a key that is another is not this holder where the first is
other_key : (h : specs.Holder) (k l : Holder) → is_key (holder_of k) l ≡ false → is_key h k ≡ true → is_key h l ≡ true → ⊥
other_key h k l apart one two = true≢false (sym two ∙ ap (λ g. is_key g l) (one_holder h (holder_of k) one) ∙ apart)

inserted_at : (o : Ordering) (h : specs.Holder) (k : Holder) (d : Document) (e : Holder × Document) (es : Entries) → is_eq o ≡ is_key (holder_of k) e.0
    → lookup (is_key h) (insert_entry (holder_ord.ghosts).cmp es k d) ≡ cond (is_key h k) (Some d) (lookup (is_key h) es)
    → lookup (is_key h) (match_ordering o ((k, d) ∷ e ∷ es) ((e.0, d) ∷ es) (e ∷ insert_entry (holder_ord.ghosts).cmp es k d)) ≡ cond (is_key h k) (Some d) (lookup (is_key h) (e ∷ es))
inserted_at Less h k d e es tied more = refl
inserted_at Equal h k d e es tied more =
    let same : is_key h e.0 ≡ is_key h k = ap (same_holder h) (sym (one_holder (holder_of k) (holder_of e.0) (sym tied))) in
    ap (λ b. cond b (Some d) (lookup (is_key h) es)) same ∙ once (is_key h k) (Some d) (Some e.1) (lookup (is_key h) es) ∙ ap (λ b. cond (is_key h k) (Some d) (cond b (Some e.1) (lookup (is_key h) es))) (sym same)
inserted_at Greater h k d e es tied more =
    ap (cond (is_key h e.0) (Some e.1)) more ∙ either (is_key h k) (is_key h e.0) (Some d) (Some e.1) (lookup (is_key h) es) (other_key h k e.0 (sym tied))

-- a holder has the document that was put at its key, and else what it had
inserted : (h : specs.Holder) (k : Holder) (d : Document) (es : Entries) → lookup (is_key h) (insert_entry (holder_ord.ghosts).cmp es k d) ≡ cond (is_key h k) (Some d) (lookup (is_key h) es)
inserted h k d [] = refl
inserted h k d (e ∷ es) = inserted_at ((holder_ord.ghosts).cmp k e.0) h k d e es (tie k e.0) (inserted h k d es)

-- ---- what is noted

-- where the last decides, or nothing was noted, one more document is noted
taken : (r : Rule) (t : Numbered) (o : Option Numbered) → (is_last r ≡ true) ⊎ (is_some o ≡ false) → with_one r t o ≡ Some t
taken first_decides t None h = refl
taken first_decides t (Some u) (inl h) = absurd (true≢false (sym h))
taken first_decides t (Some u) (inr h) = absurd (true≢false h)
taken last_decides t o h = refl

-- where the first decides, and one was noted, it stays
left : (r : Rule) (t : Numbered) (o : Option Numbered) → is_last r ≡ false → is_some o ≡ true → with_one r t o ≡ o
left first_decides t None l h = absurd (true≢false (sym h))
left first_decides t (Some u) l h = refl
left last_decides t o l h = absurd (true≢false l)

some_mapped : {A B : Type 0} (f : A → B) (o : Option A) → is_some (option_map f o) ≡ is_some o
some_mapped f None = refl
some_mapped f (Some x) = refl

put_by : (b : Bool) (h : specs.Holder) (k : Holder) (d : Document) (es : Entries) → same_holder h (holder_of k) ≡ b → (is_last (rule (holder_of k)) ≡ true) ⊎ (is_some (lookup (is_key (holder_of k)) es) ≡ false)
    → option_map numbered_of (cond b (Some d) (lookup (is_key h) es)) ≡ (if b then with_one (rule h) (numbered_of d) (option_map numbered_of (lookup (is_key h) es)) else option_map numbered_of (lookup (is_key h) es))
put_by true h k d es is free =
    let same : holder_of k ≡ h = sym (one_holder h (holder_of k) is) in
    sym (taken (rule h) (numbered_of d) (option_map numbered_of (lookup (is_key h) es))
    (elim free [ inl l ↦ inl (ap (λ g. is_last (rule g)) (sym same) ∙ l) | inr n ↦ inr (some_mapped numbered_of (lookup (is_key h) es) ∙ ap (λ g. is_some (lookup (is_key g) es)) (sym same) ∙ n) ]))
put_by false h k d es is free = refl

-- an entry that was put, by what its key had
pub noted_put : (m n : BTreeMap Holder Document) (k : Holder) (d : Document) → n.entries ≡ insert_entry (holder_ord.ghosts).cmp m.entries k d
    → (is_last (rule (holder_of k)) ≡ true) ⊎ (is_some (lookup (is_key (holder_of k)) m.entries) ≡ false) → (h : specs.Holder)
    → noted n h ≡ (if same_holder h (holder_of k) then with_one (rule h) (numbered_of d) (noted m h) else noted m h)
noted_put m n k d put free h =
    ap (λ es. option_map numbered_of (lookup (is_key h) es)) put ∙ ap (option_map numbered_of) (inserted h k d m.entries) ∙ put_by (same_holder h (holder_of k)) h k d m.entries refl free

kept_by : (b : Bool) (h : specs.Holder) (k : Holder) (d : Document) (es : Entries) → same_holder h (holder_of k) ≡ b → is_last (rule (holder_of k)) ≡ false → is_some (lookup (is_key (holder_of k)) es) ≡ true
    → option_map numbered_of (lookup (is_key h) es) ≡ (if b then with_one (rule h) (numbered_of d) (option_map numbered_of (lookup (is_key h) es)) else option_map numbered_of (lookup (is_key h) es))
kept_by true h k d es is first there =
    let same : holder_of k ≡ h = sym (one_holder h (holder_of k) is) in
    sym (left (rule h) (numbered_of d) (option_map numbered_of (lookup (is_key h) es)) (ap (λ g. is_last (rule g)) (sym same) ∙ first)
    (some_mapped numbered_of (lookup (is_key h) es) ∙ ap (λ g. is_some (lookup (is_key g) es)) (sym same) ∙ there))
kept_by false h k d es is first there = refl

-- nothing was put, since the first decides and was noted
pub noted_kept : (m : BTreeMap Holder Document) (k : Holder) (d : Document) → is_last (rule (holder_of k)) ≡ false → is_some (lookup (is_key (holder_of k)) m.entries) ≡ true → (h : specs.Holder)
    → noted m h ≡ (if same_holder h (holder_of k) then with_one (rule h) (numbered_of d) (noted m h) else noted m h)
noted_kept m k d first there h = kept_by (same_holder h (holder_of k)) h k d m.entries refl first there

-- ---- one holder after the other

-- a document that is noted twice is noted once
again : (b a : Bool) (r : Rule) (t : Numbered) (o : Option Numbered)
    → (if a then with_one r t (if b then with_one r t o else o) else (if b then with_one r t o else o)) ≡ (if b || a then with_one r t o else o)
again true true first_decides t None = refl
again true true first_decides t (Some u) = refl
again true true last_decides t o = refl
again true false r t o = refl
again false a r t o = refl

-- what is left to note, once the next holder was noted
pub next_noted : (all : List Holder) (i : ℕ) (none : Holder) (t : Numbered) (now after : Option Numbered) (h : specs.Holder) → i < length all
    → after ≡ (if same_holder h (holder_of (get_or all i none)) then with_one (rule h) t now else now)
    → (if is_among h (all_holders (drop (i + 1) all)) then with_one (rule h) t after else after) ≡ (if is_among h (all_holders (drop i all)) then with_one (rule h) t now else now)
next_noted all i none t now after h within is =
    let rest = is_among h (all_holders (drop (i + 1) all)) in
    let first = drop-cons all i none within ∙ ap (λ n. get_or all i none ∷ drop n all) (sym (add-one i)) in
    ap (λ o. if rest then with_one (rule h) t o else o) is ∙ again (same_holder h (holder_of (get_or all i none))) rest (rule h) t now ∙ ap (λ hs. if is_among h (all_holders hs) then with_one (rule h) t now else now) (sym first)
