-- A document of a kind that holds no schema counts no schema places. For a part of a table the fact is `rows_count_none` with `refl`.
use Rattle.std.proofs.Common.{◌≡◌, ℕ, List, [], ◌∷◌, Bool, true, false, ◌&&◌, cond, Some, refl, sym, ap, ◌∙◌, true≢false, arith}
use Rattle.std.specs.Prelude.{codes}
use Rattle.std.specs.Str.{bytes_eq}
use Rattle.utoipa_base.specs.Kinds.{ObjectType, open_api_object, components_object, path_item_object, operation_object, parameter_object, request_body_object, media_type_object, encoding_object, response_object, header_object, one_of_schema, all_of_schema, any_of_schema, array_schema, object_schema, Kind, list_of, map_of, ordered_map_of, entries_of, ref_or, named, schema, array_items, additional_properties, security_scheme, api_key, flows, Mark, required, optional, or_null, defaulted, Row}
use Rattle.utoipa_base.specs.Choices.{chosen, scheme_types, api_key_places, flow_keys}
use Rattle.utoipa_base.specs.Docs.{Doc, text_doc, flag_doc, whole_doc, int_doc, uint_doc, tree_doc, word_doc, custom_doc, types_doc, any_value_doc, none_doc, some_doc, ref_doc, own_doc, schema_doc, tagged_doc, flow_doc, list_doc, map_doc, ordered_map_doc, entries_doc, table_doc, Docs, no_docs, doc, Entries, no_entries, entry}
use Rattle.utoipa_base.specs.Tables.{table}
use Rattle.utoipa_base.specs.Shape.{Place, value_of, option_of, flow_place, field_place, own_kind, choices_of, entry_place, IsOf, ItemsOf, EntriesOf, RowsOf}
use Rattle.utoipa_base.specs.Values.{reference_schema_count, schema_count, docs_schema_count, entries_schema_count}
use Rattle.utoipa_base.proofs.BoolFacts.{and_first, and_second}

-- ---- what holds no schema, at any depth

-- an object of a type: these are the types that lead to a schema
abbrev pub type_holds_no_schema : ObjectType → Bool
type_holds_no_schema open_api_object = false
type_holds_no_schema components_object = false
type_holds_no_schema path_item_object = false
type_holds_no_schema operation_object = false
type_holds_no_schema parameter_object = false
type_holds_no_schema request_body_object = false
type_holds_no_schema media_type_object = false
type_holds_no_schema encoding_object = false
type_holds_no_schema response_object = false
type_holds_no_schema header_object = false
type_holds_no_schema one_of_schema = false
type_holds_no_schema all_of_schema = false
type_holds_no_schema any_of_schema = false
type_holds_no_schema array_schema = false
type_holds_no_schema object_schema = false
type_holds_no_schema n = true

-- a value of a kind
abbrev pub holds_no_schema : Kind → Bool
holds_no_schema (list_of k) = holds_no_schema k
holds_no_schema (map_of k) = holds_no_schema k
holds_no_schema (ordered_map_of k) = holds_no_schema k
holds_no_schema (entries_of k) = holds_no_schema k
holds_no_schema (ref_or k) = holds_no_schema k
holds_no_schema (named n) = type_holds_no_schema n
holds_no_schema schema = false
holds_no_schema array_items = false
holds_no_schema additional_properties = false
holds_no_schema k = true

-- what may stand at a place
abbrev pub place_holds_no_schema : Place → Bool
place_holds_no_schema (value_of k) = holds_no_schema k
place_holds_no_schema (option_of k) = holds_no_schema k
place_holds_no_schema flow_place = true

-- the fields of rows
abbrev pub rows_hold_no_schema : List Row → Bool
rows_hold_no_schema [] = true
rows_hold_no_schema (r ∷ rs) = holds_no_schema r.kind && rows_hold_no_schema rs

-- what a word may choose, each by a test
abbrev all_chosen : {A : Type 0} → (A → Bool) → List (List ℕ × A) → Bool
all_chosen f [] = true
all_chosen f (c ∷ cs) = f c.1 && all_chosen f cs

-- ---- from a place to what stands in it

-- the rows of a type that holds no schema hold none
rows_of_type : (n : ObjectType) → type_holds_no_schema n ≡ true → rows_hold_no_schema (table n) ≡ true
rows_of_type open_api_object h = absurd (true≢false (sym h))
rows_of_type components_object h = absurd (true≢false (sym h))
rows_of_type path_item_object h = absurd (true≢false (sym h))
rows_of_type operation_object h = absurd (true≢false (sym h))
rows_of_type parameter_object h = absurd (true≢false (sym h))
rows_of_type request_body_object h = absurd (true≢false (sym h))
rows_of_type media_type_object h = absurd (true≢false (sym h))
rows_of_type encoding_object h = absurd (true≢false (sym h))
rows_of_type response_object h = absurd (true≢false (sym h))
rows_of_type header_object h = absurd (true≢false (sym h))
rows_of_type one_of_schema h = absurd (true≢false (sym h))
rows_of_type all_of_schema h = absurd (true≢false (sym h))
rows_of_type any_of_schema h = absurd (true≢false (sym h))
rows_of_type array_schema h = absurd (true≢false (sym h))
rows_of_type object_schema h = absurd (true≢false (sym h))
rows_of_type n h = refl

-- the place of a row's field, by the row's kind
row_place : (m : Mark) (k : Kind) → holds_no_schema k ≡ true → place_holds_no_schema (field_place m k) ≡ true
row_place required k h = h
row_place optional k h = h
row_place or_null k h = h
row_place defaulted k h = h

-- the kind that stands where a reference could
own_place : (p : Place) (k : Kind) → place_holds_no_schema p ≡ true → own_kind p ≡ Some k → holds_no_schema k ≡ true
own_place (value_of (ref_or j)) k h o = let same : k ≡ j = cc in ap holds_no_schema same ∙ h
own_place (value_of array_items) k h o = absurd (true≢false (sym h))
own_place (value_of additional_properties) k h o = absurd (true≢false (sym h))
own_place p k h o = cc

-- a reference in the place of a kind that is no schema
reference_none : (k : Kind) → holds_no_schema k ≡ true → reference_schema_count k ≡ 0
reference_none schema h = absurd (true≢false (sym h))
reference_none k h = refl

-- the place of a map's entries
entries_place : (p q : Place) → place_holds_no_schema p ≡ true → entry_place p ≡ Some q → place_holds_no_schema q ≡ true
entries_place (value_of (map_of k)) q h o = let same : q ≡ value_of k = cc in ap place_holds_no_schema same ∙ h
entries_place (value_of flows) q h o = let same : q ≡ flow_place = cc in ap place_holds_no_schema same
entries_place p q h o = cc

-- what a member decides
choices_place : (p : Place) (name : List ℕ) (choices : List (List ℕ × Kind)) → choices_of p ≡ Some (name, choices) → all_chosen holds_no_schema choices ≡ true
choices_place (value_of security_scheme) name choices o =
    let same : (name, choices) ≡ (codes "type", scheme_types) = cc in
    ap (λ (c : List ℕ × List (List ℕ × Kind)). all_chosen holds_no_schema c.1) same
choices_place (value_of api_key) name choices o =
    let same : (name, choices) ≡ (codes "in", api_key_places) = cc in
    ap (λ (c : List ℕ × List (List ℕ × Kind)). all_chosen holds_no_schema c.1) same
choices_place p name choices o = cc

-- the first choice or a later one
chosen_at : {A : Type 0} (b : Bool) (f : A → Bool) (word : List ℕ) (c : List ℕ × A) (cs : List (List ℕ × A)) (x : A) → f c.1 && all_chosen f cs ≡ true
    → (all_chosen f cs ≡ true → chosen word cs ≡ Some x → f x ≡ true) → cond b (Some c.1) (chosen word cs) ≡ Some x → f x ≡ true
chosen_at true f word c cs x h later e = let same : x ≡ c.1 = cc in ap f same ∙ and_first _ _ h
chosen_at false f word c cs x h later e = later (and_second _ _ h) e

-- what a word chooses
chosen_is : {A : Type 0} (f : A → Bool) (word : List ℕ) (cs : List (List ℕ × A)) (x : A) → all_chosen f cs ≡ true → chosen word cs ≡ Some x → f x ≡ true
chosen_is f word [] x h e = cc
chosen_is f word (c ∷ cs) x h e = chosen_at (bytes_eq word c.0) f word c cs x h (chosen_is f word cs x) e

-- ---- the counts

mutual
  unfolding IsOf ItemsOf EntriesOf RowsOf schema_count docs_schema_count entries_schema_count

  -- what stands at a place that holds no schema counts none
  pub place_counts_none : (d : Doc) (p : Place) → place_holds_no_schema p ≡ true → IsOf d p → schema_count d ≡ 0
  place_counts_none (text_doc s) p h i = refl
  place_counts_none (flag_doc b) p h i = refl
  place_counts_none (whole_doc n) p h i = refl
  place_counts_none (int_doc z) p h i = refl
  place_counts_none (uint_doc n) p h i = refl
  place_counts_none (tree_doc d) p h i = refl
  place_counts_none (word_doc s) p h i = refl
  place_counts_none (custom_doc s) p h i = refl
  place_counts_none (types_doc d) p h i = refl
  place_counts_none any_value_doc p h i = refl
  place_counts_none none_doc p h i = refl
  place_counts_none (some_doc d) p h i = place_counts_none d (value_of i.0) (ap place_holds_no_schema (sym i.1) ∙ h) i.2
  place_counts_none (ref_doc k d) p h i = reference_none k (own_place p k h i.0)
  place_counts_none (own_doc d) p h i = place_counts_none d (value_of i.0) (own_place p i.0 h i.1) i.2
  place_counts_none (schema_doc d) p h i = absurd (true≢false (sym h ∙ ap place_holds_no_schema i.1))
  place_counts_none (tagged_doc name word d) p h i =
      place_counts_none d (value_of i.1) (chosen_is holds_no_schema word i.0 i.1 (choices_place p name i.0 i.2) i.3) i.4
  place_counts_none (flow_doc d) p h i = place_counts_none d (value_of (named i.0)) (chosen_is type_holds_no_schema i.2.0 flow_keys i.0 refl i.2.1) i.3
  place_counts_none (list_doc ds) p h i = items_count_none ds i.0 (ap place_holds_no_schema (sym i.1) ∙ h) i.2
  place_counts_none (map_doc es) p h i = entries_count_none es i.0 (entries_place p i.0 h i.1) i.2
  place_counts_none (ordered_map_doc es) p h i = entries_count_none es (value_of i.0) (ap place_holds_no_schema (sym i.1) ∙ h) i.2
  place_counts_none (entries_doc es e) p h i = entries_count_none es (value_of i.0) (ap place_holds_no_schema (sym i.1) ∙ h) i.2
  place_counts_none (table_doc n ds e) p h i = rows_count_none ds (table n) (rows_of_type n (ap place_holds_no_schema (sym i.0) ∙ h)) i.1

  -- the items of a list
  pub items_count_none : (ds : Docs) (k : Kind) → holds_no_schema k ≡ true → ItemsOf ds k → docs_schema_count ds ≡ 0
  items_count_none no_docs k h i = refl
  items_count_none (doc d ds) k h i = omega (arith, place_counts_none d (value_of k) h i.0, items_count_none ds k h i.1)

  -- the entries of a map
  pub entries_count_none : (es : Entries) (p : Place) → place_holds_no_schema p ≡ true → EntriesOf es p → entries_schema_count es ≡ 0
  entries_count_none no_entries p h i = refl
  entries_count_none (entry name d es) p h i = omega (arith, place_counts_none d p h i.0, entries_count_none es p h i.1)

  -- the fields of rows, be they a table or a part of one
  pub rows_count_none : (ds : Docs) (rs : List Row) → rows_hold_no_schema rs ≡ true → RowsOf ds rs → docs_schema_count ds ≡ 0
  rows_count_none no_docs rs h i = refl
  rows_count_none (doc d ds) [] h i = absurd i
  rows_count_none (doc d ds) (r ∷ rs) h i =
      omega (
        arith,
        place_counts_none d (field_place r.mark r.kind) (row_place r.mark r.kind (and_first _ _ h)) i.0,
        rows_count_none ds rs (and_second _ _ h) i.1,
      )

-- a document of a kind that holds no schema counts none
pub counts_none : (d : Doc) (k : Kind) → holds_no_schema k ≡ true → IsOf d (value_of k) → schema_count d ≡ 0
counts_none d k h i = place_counts_none d (value_of k) h i
