-- Texts under which a place is known, and entries by their texts.
use Rattle.std.proofs.Common.{◌≡◌, ℕ, List, [], ◌∷◌, ◌++◌, Bool, true, false, cond, Option, Some, None, IsSome, Contains, refl, sym, ap, ◌∙◌, subst, true≢false, Global, Ordering, Less, Equal, Greater, nat_cmp}
use Rattle.std.specs.Prelude.{Vec}
use Rattle.std.specs.Ordering.{is_eq, match_ordering}
use Rattle.std.specs.Cmp.Lexicographic.{slice_cmp}
use Rattle.std.specs.Option.{is_some}
use Rattle.std.specs.Map.{lookup}
use Rattle.std.specs.BTreeMap.{is_at, insert_entry}
use Rattle.std.proofs.lemmas.Cmp.{nat_list_cmp_total, tied_itself}
use Rattle.std.proofs.lemmas.List.Elements.{All-push, All-weaker, All-contains}
use Rattle.utoipa_base.specs.Docs.{Doc}
use Rattle.utoipa_merging_parts.specs.Lists.{text_of, place_of, AreKnown, PlacesByText}

abbrev Texts : Type 0
Texts = List (Vec ℕ Global × ℕ)

-- what stands at a text
abbrev pub found : List ℕ → Texts → Option ℕ
found t es = lookup (is_at (λ k. slice_cmp nat_cmp t k.items)) es

-- the order of texts
abbrev pub C : Vec ℕ Global → Vec ℕ Global → Ordering
C a b = slice_cmp nat_cmp a.items b.items

some_either : (b : Bool) (v : ℕ) (o : Option ℕ) → IsSome o → IsSome (cond b (Some v) o)
some_either true v o h = refl
some_either false v o h = h

some_instead : (b : Bool) (v w : ℕ) (o : Option ℕ) → IsSome (cond b (Some w) o) → IsSome (cond b (Some v) o)
some_instead true v w o h = refl
some_instead false v w o h = h

some_past : (b : Bool) (v : ℕ) (o p : Option ℕ) → (IsSome o → IsSome p) → IsSome (cond b (Some v) o) → IsSome (cond b (Some v) p)
some_past true v o p step h = refl
some_past false v o p step h = step h

stays_at : (o : Ordering) (t : List ℕ) (e : Vec ℕ Global × ℕ) (es : Texts) (k : Vec ℕ Global) (v : ℕ) → (IsSome (found t es) → IsSome (found t (insert_entry C es k v)))
    → IsSome (found t (e ∷ es)) → IsSome (found t (match_ordering o ((k, v) ∷ e ∷ es) ((e.0, v) ∷ es) (e ∷ insert_entry C es k v)))
stays_at Less t e es k v later h = some_either (is_eq (slice_cmp nat_cmp t k.items)) v (found t (e ∷ es)) h
stays_at Equal t e es k v later h = some_instead (is_eq (slice_cmp nat_cmp t e.0.items)) v e.1 (found t es) h
stays_at Greater t e es k v later h = some_past (is_eq (slice_cmp nat_cmp t e.0.items)) e.1 (found t es) (found t (insert_entry C es k v)) later h

-- what was known stays so when an entry is put
pub stays_known : (t : List ℕ) (es : Texts) (k : Vec ℕ Global) (v : ℕ) → IsSome (found t es) → IsSome (found t (insert_entry C es k v))
stays_known t [] k v h = absurd (true≢false (sym h))
stays_known t (e ∷ es) k v h = stays_at (C k e.0) t e es k v (stays_known t es k v) h

tied : (t : List ℕ) → is_eq (slice_cmp nat_cmp t t) ≡ true
tied t = ap is_eq (tied_itself nat_list_cmp_total t)

some_at : (b : Bool) (v : ℕ) (o : Option ℕ) → b ≡ true → IsSome (cond b (Some v) o)
some_at true v o is = refl
some_at false v o is = cc

some_under : (b : Bool) (v : ℕ) (o : Option ℕ) → IsSome o → IsSome (cond b (Some v) o)
some_under true v o h = refl
some_under false v o h = h

known_at : (o : Ordering) (e : Vec ℕ Global × ℕ) (es : Texts) (k : Vec ℕ Global) (v : ℕ) → C k e.0 ≡ o → IsSome (found k.items (insert_entry C es k v))
    → IsSome (found k.items (match_ordering o ((k, v) ∷ e ∷ es) ((e.0, v) ∷ es) (e ∷ insert_entry C es k v)))
known_at Less e es k v is later = some_at (is_eq (slice_cmp nat_cmp k.items k.items)) v (found k.items (e ∷ es)) (tied k.items)
known_at Equal e es k v is later = some_at (is_eq (slice_cmp nat_cmp k.items e.0.items)) v (found k.items es) (ap is_eq is)
known_at Greater e es k v is later = some_under (is_eq (slice_cmp nat_cmp k.items e.0.items)) e.1 (found k.items (insert_entry C es k v)) later

-- the text of an entry that was put is known
pub known_now : (es : Texts) (k : Vec ℕ Global) (v : ℕ) → IsSome (found k.items (insert_entry C es k v))
known_now [] k v = some_at (is_eq (slice_cmp nat_cmp k.items k.items)) v None (tied k.items)
known_now (e ∷ es) k v = known_at (C k e.0) e es k v refl (known_now es k v)

-- once the text of one more document was put, each is known
pub all_known : (places new : PlacesByText) (k : Vec ℕ Global) (v : ℕ) (ds : List Doc) (d : Doc) → new.entries ≡ insert_entry C places.entries k v → k.items ≡ text_of d → AreKnown places ds → AreKnown new (ds ++ d ∷ [])
all_known places new k v ds d is text known =
    All-push (λ e. IsSome (place_of (text_of e) new)) ds d
    (All-weaker (λ e. IsSome (place_of (text_of e) places)) (λ e. IsSome (place_of (text_of e) new))
    (λ e h. subst (λ es. IsSome (found (text_of e) es)) (sym is) (stays_known (text_of e) places.entries k v h)) ds known)
    (subst (λ es. IsSome (found (text_of d) es)) (sym is) (subst (λ t. IsSome (found t (insert_entry C places.entries k v))) text (known_now places.entries k v)))

-- where no place is known, the document is none of those that are
pub not_known : (places : PlacesByText) (ds : List Doc) (d : Doc) (text : List ℕ) → AreKnown places ds → text ≡ text_of d → None ≡ place_of text places → Contains ds d → ⊥
not_known places ds d text known same none there =
    let some : IsSome (place_of (text_of d) places) = All-contains (λ e. IsSome (place_of (text_of e) places)) ds d known there in
    true≢false (sym some ∙ ap (λ t. is_some (place_of t places)) (sym same) ∙ ap is_some (sym none))
