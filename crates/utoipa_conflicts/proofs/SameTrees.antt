-- Trees that the test takes for one value.
use Rattle.std.proofs.Common.{◌≡◌, ◌↔◌, ℕ, List, Bool, true, false, IsTrue, ◌&&◌, refl, sym, ap, ◌∙◌, true≢false, eqb-true, eq-eqb}
use Rattle.std.proofs.lemmas.Slice.Eq.{bytes_eq-Decides}
use Rattle.std.specs.Cmp.{signed_Decides}
use Rattle.std.specs.Float.Ieee.{to_bits}
use Rattle.std.specs.Float.{binary64}
use Rattle.std.specs.Str.{bytes_eq}
use Rattle.serde_json.specs.Data.{Num, unsigned, negative, float, Data, null, boolean, number, string, array, object, Items, no_items, item, Members, no_members, member}
use Rattle.serde_json.specs.Find.{is_float}
use Rattle.serde_json.specs.Written.{has_float, items_have_float, members_have_float}
use Rattle.utoipa_base.proofs.BoolFacts.{and_first, and_second, or_first, or_second}
use Rattle.utoipa_check.specs.Dropped.{same_flag, same_number}
use Rattle.utoipa_conflicts.specs.Same.{is_same, same_items, same_members}

both : (a b : Bool) → a ≡ true → b ≡ true → a && b ≡ true
both a b h g = ap (λ x. x && b) h ∙ g

-- ---- a tree is one value with itself

flag_itself : (b : Bool) → same_flag b b ≡ true
flag_itself true = refl
flag_itself false = refl

number_itself : (n : Num) → same_number n n ≡ true
number_itself (unsigned n) = eq-eqb n n refl
number_itself (negative z) = (signed_Decides z z).1 refl
number_itself (float x) = eq-eqb (to_bits binary64 x) (to_bits binary64 x) refl

text_itself : (s : List ℕ) → bytes_eq s s ≡ true
text_itself s = (bytes_eq-Decides s s).1 refl

mutual
  pub itself : (d : Data) → is_same d d ≡ true
  itself null = refl
  itself (boolean b) = flag_itself b
  itself (number n) = number_itself n
  itself (string s) = text_itself s
  itself (array ds) = items_itself ds
  itself (object ms) = members_itself ms

  items_itself : (ds : Items) → same_items ds ds ≡ true
  items_itself no_items = refl
  items_itself (item d ds) = both (is_same d d) (same_items ds ds) (itself d) (items_itself ds)

  members_itself : (ms : Members) → same_members ms ms ≡ true
  members_itself no_members = refl
  members_itself (member k d ms) = both (bytes_eq k k && is_same d d) (same_members ms ms) (both (bytes_eq k k) (is_same d d) (text_itself k) (itself d)) (members_itself ms)

-- ---- without fractions, one value is one tree

flag_is : (b c : Bool) → same_flag b c ≡ true → b ≡ c
flag_is true c e = sym e
flag_is false true e = absurd (true≢false (sym e))
flag_is false false e = refl

number_is : (m n : Num) → is_float m ≡ false → same_number m n ≡ true → m ≡ n
number_is (unsigned m) (unsigned n) whole e = ap unsigned (eqb-true m n e)
number_is (negative y) (negative z) whole e = ap negative ((signed_Decides y z).0 e)
number_is (float x) n whole e = absurd (true≢false whole)
number_is m n whole e = absurd (true≢false (sym e))

mutual
  tree_is : (d e : Data) → has_float d ≡ false → is_same d e ≡ true → d ≡ e
  tree_is null null whole h = refl
  tree_is (boolean b) (boolean c) whole h = ap boolean (flag_is b c h)
  tree_is (number m) (number n) whole h = ap number (number_is m n whole h)
  tree_is (string s) (string t) whole h = ap string ((bytes_eq-Decides s t).0 h)
  tree_is (array ds) (array es) whole h = ap array (items_are ds es whole h)
  tree_is (object ms) (object ns) whole h = ap object (members_are ms ns whole h)
  tree_is d e whole h = absurd (true≢false (sym h))

  items_are : (ds es : Items) → items_have_float ds ≡ false → same_items ds es ≡ true → ds ≡ es
  items_are no_items no_items whole h = refl
  items_are (item d ds) (item e es) whole h =
      ap (λ x. item x ds) (tree_is d e (or_first (has_float d) (items_have_float ds) whole) (and_first (is_same d e) (same_items ds es) h))
      ∙ ap (item e) (items_are ds es (or_second (has_float d) (items_have_float ds) whole) (and_second (is_same d e) (same_items ds es) h))
  items_are ds es whole h = absurd (true≢false (sym h))

  members_are : (ms ns : Members) → members_have_float ms ≡ false → same_members ms ns ≡ true → ms ≡ ns
  members_are no_members no_members whole h = refl
  members_are (member k d ms) (member l e ns) whole h =
      let first = and_first (bytes_eq k l && is_same d e) (same_members ms ns) h in
      ap (λ x. member x d ms) ((bytes_eq-Decides k l).0 (and_first (bytes_eq k l) (is_same d e) first))
      ∙ ap (λ x. member l x ms) (tree_is d e (or_first (has_float d) (members_have_float ms) whole) (and_second (bytes_eq k l) (is_same d e) first))
      ∙ ap (member l e) (members_are ms ns (or_second (has_float d) (members_have_float ms) whole) (and_second (bytes_eq k l && is_same d e) (same_members ms ns) h))
  members_are ms ns whole h = absurd (true≢false (sym h))

pub where_whole : (d e : Data) → has_float d ≡ false → IsTrue (is_same d e) ↔ (d ≡ e)
where_whole d e whole = (tree_is d e whole, λ same. ap (is_same d) (sym same) ∙ itself d)
