-- Nothing is dropped exactly where the written tree has everything that the tree has.
use Rattle.std.proofs.Common.{◌≡◌, ◌↔◌, ℕ, suc, List, [], ◌∷◌, ◌++◌, Bool, true, false, Option, None, Some, refl, sym, ap, ◌∙◌, subst}
use Rattle.std.specs.Bool.{Decides}
use Rattle.std.specs.Float.Ieee.{to_bits}
use Rattle.std.specs.Float.{binary64}
use Rattle.std.proofs.lemmas.Bool.Decides.{Decides-eqb, Decides-int_eq}
use Rattle.std.proofs.lemmas.Slice.Eq.{bytes_eq-Decides}
use Rattle.serde_json.specs.Data.{Num, unsigned, negative, float, Data, null, boolean, number, string, array, object, Items, no_items, item, Members, no_members, member}
use Rattle.serde_json.specs.Find.{get, at}
use Rattle.utoipa_check.specs.Dropped.{Dropped, Loss, under, behind, absence, same_flag, same_number, is_alike, unless_alike, dropped, items_dropped, members_dropped}
use Rattle.utoipa_check.specs.Has.{IsSameNumber, IsAlike, Has, HasItems, HasMembers, Written}
use Rattle.utoipa_check.specs.Misfits.{Step, at_name, at_index}

-- ---- one value beside another

flag_same : (b c : Bool) → Decides (same_flag b c) (c ≡ b)
flag_same true true = (λ h. refl, λ h. refl)
flag_same true false = (λ h. h, λ h. h)
flag_same false true = (λ h. sym h, λ h. sym h)
flag_same false false = (λ h. refl, λ h. refl)

number_same : (n m : Num) → Decides (same_number n m) (IsSameNumber n m)
number_same (unsigned n) (unsigned m) = (λ h. ap unsigned (sym ((Decides-eqb n m).0 h)), λ h. (Decides-eqb n m).1 cc)
number_same (unsigned n) (negative z) = (λ h. cc, λ h. cc)
number_same (unsigned n) (float x) = (λ h. cc, λ h. cc)
number_same (negative z) (unsigned m) = (λ h. cc, λ h. cc)
number_same (negative z) (negative y) = (λ h. ap negative (sym ((Decides-int_eq z y).0 h)), λ h. (Decides-int_eq z y).1 cc)
number_same (negative z) (float x) = (λ h. cc, λ h. cc)
number_same (float x) (unsigned m) = (λ h. cc, λ h. cc)
number_same (float x) (negative z) = (λ h. cc, λ h. cc)
number_same (float x) (float y) =
    (λ h. (y, refl, (Decides-eqb (to_bits binary64 x) (to_bits binary64 y)).0 h), λ h. (Decides-eqb (to_bits binary64 x) (to_bits binary64 y)).1 (h.2 ∙ ap (to_bits binary64) cc))

pub alike : (d e : Data) → Decides (is_alike d e) (IsAlike d e)
alike null null = (λ h. refl, λ h. refl)
alike null e = (λ h. cc, λ h. cc)
alike (boolean b) (boolean c) = (λ h. ap boolean ((flag_same b c).0 h), λ h. (flag_same b c).1 cc)
alike (boolean b) e = (λ h. cc, λ h. cc)
alike (number n) (number m) = (λ h. (m, refl, (number_same n m).0 h), λ h. (number_same n m).1 (let e : h.0 ≡ m = cc in subst (λ x. IsSameNumber n x) e h.2))
alike (number n) e = (λ h. cc, λ h. cc)
alike (string s) (string t) = (λ h. ap string (sym ((bytes_eq-Decides s t).0 h)), λ h. (bytes_eq-Decides s t).1 cc)
alike (string s) e = (λ h. cc, λ h. cc)
alike (array ds) (array es) = (λ h. (es, refl), λ h. refl)
alike (array ds) e = (λ h. cc, λ h. cc)
alike (object ms) (object ns) = (λ h. (ns, refl), λ h. refl)
alike (object ms) e = (λ h. cc, λ h. cc)

-- ---- lists that are empty

both_empty : (xs ys : List Dropped) → xs ++ ys ≡ [] → (xs ≡ []) × (ys ≡ [])
both_empty [] ys e = (refl, e)
both_empty (x ∷ xs) ys e = cc

join_empty : (xs ys : List Dropped) → xs ≡ [] → ys ≡ [] → xs ++ ys ≡ []
join_empty xs ys a b = ap (λ zs. zs ++ ys) a ∙ b

under_empty : (s : Step) (xs : List Dropped) → under s xs ≡ [] → xs ≡ []
under_empty s [] e = refl
under_empty s (x ∷ xs) e = cc

alike_where_empty : (b : Bool) (xs : List Dropped) → unless_alike b xs ≡ [] → (b ≡ true) × (xs ≡ [])
alike_where_empty true xs e = (refl, e)
alike_where_empty false xs e = cc

empty_where_alike : (b : Bool) (xs : List Dropped) → b ≡ true → xs ≡ [] → unless_alike b xs ≡ []
empty_where_alike true xs a e = e
empty_where_alike false xs a e = cc

written_where_empty : (s : Step) (l : Loss) (f : Data → List Dropped) (P : Data → Type 0) (o : Option Data) → ((e : Data) → f e ≡ [] → P e) → behind s l f o ≡ [] → Written o P
written_where_empty s l f P None each e = cc
written_where_empty s l f P (Some w) each e = each w (under_empty s (f w) e)

empty_where_written : (s : Step) (l : Loss) (f : Data → List Dropped) (P : Data → Type 0) (o : Option Data) → ((e : Data) → P e → f e ≡ []) → Written o P → behind s l f o ≡ []
empty_where_written s l f P None each h = absurd h
empty_where_written s l f P (Some w) each h = ap (under s) (each w h)

-- ---- the theorem

mutual
  has_where_nothing : (d e : Data) → dropped d e ≡ [] → Has e d
  has_where_nothing null e h = (alike null e).0 (alike_where_empty (is_alike null e) [] h).0
  has_where_nothing (boolean b) e h = (alike (boolean b) e).0 (alike_where_empty (is_alike (boolean b) e) [] h).0
  has_where_nothing (number n) e h = (alike (number n) e).0 (alike_where_empty (is_alike (number n) e) [] h).0
  has_where_nothing (string s) e h = (alike (string s) e).0 (alike_where_empty (is_alike (string s) e) [] h).0
  has_where_nothing (array ds) e h = let parts = alike_where_empty (is_alike (array ds) e) (items_dropped 0 ds e) h in ((alike (array ds) e).0 parts.0, has_items ds 0 e parts.1)
  has_where_nothing (object ms) e h = let parts = alike_where_empty (is_alike (object ms) e) (members_dropped ms e) h in ((alike (object ms) e).0 parts.0, has_members ms e parts.1)

  has_items : (ds : Items) (i : ℕ) (e : Data) → items_dropped i ds e ≡ [] → HasItems e i ds
  has_items no_items i e h = tt
  has_items (item d ds) i e h =
      let parts = both_empty (behind (at_index i) (absence (at_index i) d) (dropped d) (at i e)) (items_dropped (suc i) ds e) h in
      (written_where_empty (at_index i) (absence (at_index i) d) (dropped d) (λ w. Has w d) (at i e) (λ w. has_where_nothing d w) parts.0, has_items ds (suc i) e parts.1)

  has_members : (ms : Members) (e : Data) → members_dropped ms e ≡ [] → HasMembers e ms
  has_members no_members e h = tt
  has_members (member k d ms) e h =
      let parts = both_empty (behind (at_name k) (absence (at_name k) d) (dropped d) (get k e)) (members_dropped ms e) h in
      (written_where_empty (at_name k) (absence (at_name k) d) (dropped d) (λ w. Has w d) (get k e) (λ w. has_where_nothing d w) parts.0, has_members ms e parts.1)

mutual
  nothing_where_has : (d e : Data) → Has e d → dropped d e ≡ []
  nothing_where_has null e h = empty_where_alike (is_alike null e) [] ((alike null e).1 h) refl
  nothing_where_has (boolean b) e h = empty_where_alike (is_alike (boolean b) e) [] ((alike (boolean b) e).1 h) refl
  nothing_where_has (number n) e h = empty_where_alike (is_alike (number n) e) [] ((alike (number n) e).1 h) refl
  nothing_where_has (string s) e h = empty_where_alike (is_alike (string s) e) [] ((alike (string s) e).1 h) refl
  nothing_where_has (array ds) e h = empty_where_alike (is_alike (array ds) e) (items_dropped 0 ds e) ((alike (array ds) e).1 h.0) (no_item ds 0 e h.1)
  nothing_where_has (object ms) e h = empty_where_alike (is_alike (object ms) e) (members_dropped ms e) ((alike (object ms) e).1 h.0) (no_member ms e h.1)

  no_item : (ds : Items) (i : ℕ) (e : Data) → HasItems e i ds → items_dropped i ds e ≡ []
  no_item no_items i e h = refl
  no_item (item d ds) i e h =
      join_empty (behind (at_index i) (absence (at_index i) d) (dropped d) (at i e)) (items_dropped (suc i) ds e)
      (empty_where_written (at_index i) (absence (at_index i) d) (dropped d) (λ w. Has w d) (at i e) (λ w. nothing_where_has d w) h.0) (no_item ds (suc i) e h.1)

  no_member : (ms : Members) (e : Data) → HasMembers e ms → members_dropped ms e ≡ []
  no_member no_members e h = refl
  no_member (member k d ms) e h =
      join_empty (behind (at_name k) (absence (at_name k) d) (dropped d) (get k e)) (members_dropped ms e)
      (empty_where_written (at_name k) (absence (at_name k) d) (dropped d) (λ w. Has w d) (get k e) (λ w. nothing_where_has d w) h.0) (no_member ms e h.1)

pub nothing_dropped : (d e : Data) → (dropped d e ≡ []) ↔ Has e d
nothing_dropped d e = (has_where_nothing d e, nothing_where_has d e)
