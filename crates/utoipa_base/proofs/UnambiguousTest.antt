-- The test holds exactly of the documents that are unambiguous.
use Rattle.std.proofs.Common.{◌≡◌, ℕ, List, [], ◌∷◌, Bool, true, false, true≢false, not, ◌&&◌, Option, None, Some, is_some, refl, sym, ap, subst, ◌∙◌, if◌then◌else◌, IsTrue, ◌↔◌}
use Rattle.std.proofs.lemmas.Slice.Eq.{bytes_eq-Decides}
use Rattle.std.specs.Str.{bytes_eq}
use Rattle.utoipa_base.specs.Choices.{chosen, flow_keys, IsFlow}
use Rattle.utoipa_base.specs.Docs.{Doc, text_doc, flag_doc, whole_doc, int_doc, uint_doc, tree_doc, word_doc, custom_doc, types_doc, any_value_doc, none_doc, some_doc, ref_doc, own_doc, schema_doc, tagged_doc, flow_doc, list_doc, map_doc, ordered_map_doc, entries_doc, table_doc, Docs, no_docs, doc, Entries, no_entries, entry}
use Rattle.utoipa_base.specs.Kinds.{ObjectType, Kind, named, Row}
use Rattle.utoipa_base.specs.Shape.{Place, value_of, IsOf, ItemsOf, EntriesOf, RowsOf}
use Rattle.utoipa_base.specs.Tables.{table}
use Rattle.utoipa_base.specs.WellFormed.{KeyOf, IsUnambiguous, AreUnambiguous, AreUnambiguousEntries}
use Rattle.utoipa_base.proofs.BoolFacts.{and_first, and_second}
use Rattle.utoipa_base.specs.Unambiguous.{own_key, is_key_of, is_unambiguous, are_unambiguous, entries_are_unambiguous}

-- ---- both of two tests

both_true : (a b : Bool) → a ≡ true → b ≡ true → (a && b) ≡ true
both_true a b x y = rw (x, y) refl

-- ---- a reference

none_is : {A : Type 0} (o : Option A) → not (is_some o) ≡ true → o ≡ None
none_is None e = refl
none_is (Some x) e = absurd (true≢false (sym e))

is_none : {A : Type 0} (o : Option A) → o ≡ None → not (is_some o) ≡ true
is_none o e = ap (λ p. not (is_some p)) e

-- ---- the key of a flow

-- this key is the own one of this type, and chooses it
abbrev IsOwnKey : List ℕ → ObjectType → Type 0
IsOwnKey key n = (own_key n ≡ key) × (chosen key flow_keys ≡ Some n)

-- each of some keys is the own one of the type beside it
abbrev AreOwnKeys : List (List ℕ × ObjectType) → Type 0
AreOwnKeys [] = Unit {0}
AreOwnKeys (c ∷ cs) = IsOwnKey c.0 c.1 × AreOwnKeys cs

keys_are_own : AreOwnKeys flow_keys
keys_are_own = ((refl, refl), ((refl, refl), ((refl, refl), ((refl, refl), ((refl, refl), tt)))))

-- a key that chooses a type is its own key
own_of_chosen : (b : Bool) (key : List ℕ) (c : List ℕ × ObjectType) (cs : List (List ℕ × ObjectType)) (n : ObjectType) → bytes_eq key c.0 ≡ b → IsOwnKey c.0 c.1
    → (chosen key cs ≡ Some n → IsOwnKey key n) → (if b then Some c.1 else chosen key cs) ≡ Some n → IsOwnKey key n
own_of_chosen true key c cs n same own others e =
    let at : key ≡ c.0 = (bytes_eq-Decides key c.0).0 same in
    let of : c.1 ≡ n = cc in
    subst (λ k. IsOwnKey k n) (sym at) (subst (λ m. IsOwnKey c.0 m) of own)
own_of_chosen false key c cs n same own others e = others e

own_among : (key : List ℕ) (cs : List (List ℕ × ObjectType)) (n : ObjectType) → AreOwnKeys cs → chosen key cs ≡ Some n → IsOwnKey key n
own_among key [] n own e = cc
own_among key (c ∷ cs) n own e = own_of_chosen (bytes_eq key c.0) key c cs n refl own.0 (own_among key cs n own.1) e

-- under its own key, a flow's type is chosen
chosen_by_own : (key : List ℕ) (n : ObjectType) → IsFlow n → bytes_eq key (own_key n) ≡ true → chosen key flow_keys ≡ Some n
chosen_by_own key n flow e =
    let own : IsOwnKey flow.0 n = own_among flow.0 flow_keys n keys_are_own flow.1 in
    let at : key ≡ flow.0 = (bytes_eq-Decides key (own_key n)).0 e ∙ own.0 in
    subst (λ k. chosen k flow_keys ≡ Some n) (sym at) flow.1

own_by_chosen : (key : List ℕ) (n : ObjectType) → chosen key flow_keys ≡ Some n → bytes_eq key (own_key n) ≡ true
own_by_chosen key n e = (bytes_eq-Decides key (own_key n)).1 (sym (own_among key flow_keys n keys_are_own e).0)

-- a document that may stand under a key, where it is one of a place
abbrev Keys : List ℕ → Doc → Type 0
Keys key d = (is_key_of key d ≡ true → KeyOf key d) × (KeyOf key d → is_key_of key d ≡ true)

flow_keyed : (key : List ℕ) (d : Doc) (n : ObjectType) → IsFlow n → IsOf d (value_of (named n)) → Keys key (flow_doc d)
unfolding IsOf
flow_keyed key (table_doc m ds e) n flow i =
    let places : value_of (named n) ≡ value_of (named m) = i.0 in
    let same : n ≡ m = cc in
    let own : IsFlow m = subst IsFlow same flow in
    (chosen_by_own key m own, own_by_chosen key m)
flow_keyed key (text_doc s) n flow i = (λ h. tt, λ h. refl)
flow_keyed key (flag_doc b) n flow i = (λ h. tt, λ h. refl)
flow_keyed key (whole_doc m) n flow i = (λ h. tt, λ h. refl)
flow_keyed key (int_doc z) n flow i = (λ h. tt, λ h. refl)
flow_keyed key (uint_doc m) n flow i = (λ h. tt, λ h. refl)
flow_keyed key (tree_doc d) n flow i = (λ h. tt, λ h. refl)
flow_keyed key (word_doc s) n flow i = (λ h. tt, λ h. refl)
flow_keyed key (custom_doc s) n flow i = (λ h. tt, λ h. refl)
flow_keyed key (types_doc d) n flow i = (λ h. tt, λ h. refl)
flow_keyed key any_value_doc n flow i = (λ h. tt, λ h. refl)
flow_keyed key none_doc n flow i = (λ h. tt, λ h. refl)
flow_keyed key (some_doc d) n flow i = (λ h. tt, λ h. refl)
flow_keyed key (ref_doc k d) n flow i = (λ h. tt, λ h. refl)
flow_keyed key (own_doc d) n flow i = (λ h. tt, λ h. refl)
flow_keyed key (schema_doc d) n flow i = (λ h. tt, λ h. refl)
flow_keyed key (tagged_doc name word d) n flow i = (λ h. tt, λ h. refl)
flow_keyed key (flow_doc d) n flow i = (λ h. tt, λ h. refl)
flow_keyed key (list_doc ds) n flow i = (λ h. tt, λ h. refl)
flow_keyed key (map_doc es) n flow i = (λ h. tt, λ h. refl)
flow_keyed key (ordered_map_doc es) n flow i = (λ h. tt, λ h. refl)
flow_keyed key (entries_doc es e) n flow i = (λ h. tt, λ h. refl)

keyed : (key : List ℕ) (d : Doc) (p : Place) → IsOf d p → Keys key d
unfolding IsOf
keyed key (text_doc s) p i = (λ h. tt, λ h. refl)
keyed key (flag_doc b) p i = (λ h. tt, λ h. refl)
keyed key (whole_doc n) p i = (λ h. tt, λ h. refl)
keyed key (int_doc z) p i = (λ h. tt, λ h. refl)
keyed key (uint_doc n) p i = (λ h. tt, λ h. refl)
keyed key (tree_doc d) p i = (λ h. tt, λ h. refl)
keyed key (word_doc s) p i = (λ h. tt, λ h. refl)
keyed key (custom_doc s) p i = (λ h. tt, λ h. refl)
keyed key (types_doc d) p i = (λ h. tt, λ h. refl)
keyed key any_value_doc p i = (λ h. tt, λ h. refl)
keyed key none_doc p i = (λ h. tt, λ h. refl)
keyed key (some_doc d) p i = (λ h. tt, λ h. refl)
keyed key (ref_doc k d) p i = (λ h. tt, λ h. refl)
keyed key (own_doc d) p i = (λ h. tt, λ h. refl)
keyed key (schema_doc d) p i = (λ h. tt, λ h. refl)
keyed key (tagged_doc name word d) p i = (λ h. tt, λ h. refl)
keyed key (flow_doc d) p i = flow_keyed key d i.0 i.2 i.3
keyed key (list_doc ds) p i = (λ h. tt, λ h. refl)
keyed key (map_doc es) p i = (λ h. tt, λ h. refl)
keyed key (ordered_map_doc es) p i = (λ h. tt, λ h. refl)
keyed key (entries_doc es e) p i = (λ h. tt, λ h. refl)
keyed key (table_doc n ds e) p i = (λ h. tt, λ h. refl)

-- ---- the test, both ways

mutual
  unfolding IsOf ItemsOf EntriesOf RowsOf is_unambiguous are_unambiguous entries_are_unambiguous IsUnambiguous AreUnambiguous AreUnambiguousEntries

  pub tested : (d : Doc) (p : Place) → IsOf d p → is_unambiguous d ≡ true → IsUnambiguous d
  tested (text_doc s) p i h = tt
  tested (flag_doc b) p i h = tt
  tested (whole_doc n) p i h = tt
  tested (int_doc z) p i h = tt
  tested (uint_doc n) p i h = tt
  tested (tree_doc d) p i h = tt
  tested (word_doc s) p i h = tt
  tested (custom_doc s) p i h = tt
  tested (types_doc d) p i h = tested d _ i.1 h
  tested any_value_doc p i h = tt
  tested none_doc p i h = tt
  tested (some_doc d) p i h = tested d _ i.2 h
  tested (ref_doc k d) p i h = tested d _ i.1 h
  tested (own_doc d) p i h = (tested d _ i.2 (and_first _ _ h), none_is _ (and_second _ _ h))
  tested (schema_doc d) p i h = tested d _ i.3 h
  tested (tagged_doc name word d) p i h = tested d _ i.4 h
  tested (flow_doc d) p i h = tested d _ i.3 h
  tested (list_doc ds) p i h = tested_items ds i.0 i.2 h
  tested (map_doc es) p i h = tested_entries es i.0 i.2 h
  tested (ordered_map_doc es) p i h = tested_entries es _ i.2 h
  tested (entries_doc es e) p i h = (tested_entries es _ i.2 (and_first _ _ h), and_first _ _ (and_second _ _ h), and_second _ _ (and_second _ _ h))
  tested (table_doc n ds e) p i h = (tested_rows ds (table n) i.1 (and_first _ _ h), and_second _ _ h)

  tested_items : (ds : Docs) (k : Kind) → ItemsOf ds k → are_unambiguous ds ≡ true → AreUnambiguous ds
  tested_items no_docs k i h = tt
  tested_items (doc d ds) k i h = (tested d _ i.0 (and_first _ _ h), tested_items ds k i.1 (and_second _ _ h))

  tested_entries : (es : Entries) (p : Place) → EntriesOf es p → entries_are_unambiguous es ≡ true → AreUnambiguousEntries es
  tested_entries no_entries p i h = tt
  tested_entries (entry key d es) p i h =
      (tested d p i.0 (and_first _ _ h), (keyed key d p i.0).0 (and_first _ _ (and_second _ _ h)), tested_entries es p i.1 (and_second _ _ (and_second _ _ h)))

  tested_rows : (ds : Docs) (rs : List Row) → RowsOf ds rs → are_unambiguous ds ≡ true → AreUnambiguous ds
  tested_rows no_docs rs i h = tt
  tested_rows (doc d ds) [] i h = absurd i
  tested_rows (doc d ds) (r ∷ rs) i h = (tested d _ i.0 (and_first _ _ h), tested_rows ds rs i.1 (and_second _ _ h))

mutual
  unfolding IsOf ItemsOf EntriesOf RowsOf is_unambiguous are_unambiguous entries_are_unambiguous IsUnambiguous AreUnambiguous AreUnambiguousEntries

  pub passes : (d : Doc) (p : Place) → IsOf d p → IsUnambiguous d → is_unambiguous d ≡ true
  passes (text_doc s) p i h = refl
  passes (flag_doc b) p i h = refl
  passes (whole_doc n) p i h = refl
  passes (int_doc z) p i h = refl
  passes (uint_doc n) p i h = refl
  passes (tree_doc d) p i h = refl
  passes (word_doc s) p i h = refl
  passes (custom_doc s) p i h = refl
  passes (types_doc d) p i h = passes d _ i.1 h
  passes any_value_doc p i h = refl
  passes none_doc p i h = refl
  passes (some_doc d) p i h = passes d _ i.2 h
  passes (ref_doc k d) p i h = passes d _ i.1 h
  passes (own_doc d) p i h = both_true _ _ (passes d _ i.2 h.0) (is_none _ h.1)
  passes (schema_doc d) p i h = passes d _ i.3 h
  passes (tagged_doc name word d) p i h = passes d _ i.4 h
  passes (flow_doc d) p i h = passes d _ i.3 h
  passes (list_doc ds) p i h = items_pass ds i.0 i.2 h
  passes (map_doc es) p i h = entries_pass es i.0 i.2 h
  passes (ordered_map_doc es) p i h = entries_pass es _ i.2 h
  passes (entries_doc es e) p i h = both_true _ _ (entries_pass es _ i.2 h.0) (both_true _ _ h.1 h.2)
  passes (table_doc n ds e) p i h = both_true _ _ (rows_pass ds (table n) i.1 h.0) h.1

  items_pass : (ds : Docs) (k : Kind) → ItemsOf ds k → AreUnambiguous ds → are_unambiguous ds ≡ true
  items_pass no_docs k i h = refl
  items_pass (doc d ds) k i h = both_true _ _ (passes d _ i.0 h.0) (items_pass ds k i.1 h.1)

  entries_pass : (es : Entries) (p : Place) → EntriesOf es p → AreUnambiguousEntries es → entries_are_unambiguous es ≡ true
  entries_pass no_entries p i h = refl
  entries_pass (entry key d es) p i h = both_true _ _ (passes d p i.0 h.0) (both_true _ _ ((keyed key d p i.0).1 h.1) (entries_pass es p i.1 h.2))

  rows_pass : (ds : Docs) (rs : List Row) → RowsOf ds rs → AreUnambiguous ds → are_unambiguous ds ≡ true
  rows_pass no_docs rs i h = refl
  rows_pass (doc d ds) [] i h = absurd i
  rows_pass (doc d ds) (r ∷ rs) i h = both_true _ _ (passes d _ i.0 h.0) (rows_pass ds rs i.1 h.1)

-- a test that is as the document's holds exactly where the document is unambiguous
pub decides : (b : Bool) (d : Doc) (p : Place) → IsOf d p → b ≡ is_unambiguous d → IsTrue b ↔ IsUnambiguous d
decides b d p i e = (λ h. tested d p i (sym e ∙ h), λ h. e ∙ passes d p i h)
