-- What places were read as, by the member that they stand in.
use Rattle.std.specs.Prelude.{◌≡◌, ℕ, ◌+◌, ◌≤◌, List, [], ◌∷◌, ◌++◌, true, false, map, Option, None, Some, option_map, Box, Vec, String, string_cmp, Result, IfOk, IfErr}
use Rattle.std.specs.BTreeMap.{BTreeMap, insert_entry}
use Rattle.std.specs.Cmp.Lexicographic.{slice_cmp}
use Rattle.std.specs.Ordering.{nat_cmp}
use Rattle.std.specs.declared.alloc.Global.{Global}
use Rattle.std.specs.List.Sorted.{IsStrictlySortedBy}
use Rattle.std.specs.Map.{keys_of}
use Rattle.serde_json.specs.Data.{Data, null, boolean, number, string, array, object}
use Rattle.serde_json.specs.View.{members_view}
use Rattle.serde_json.specs.declared.value.Value.{Value}
use Rattle.utoipa_base.specs.Docs.{Doc, own_doc, list_doc, docs_of, entries_of_list}
use Rattle.utoipa_base.specs.Faults.{Refuses}
use Rattle.utoipa_base.specs.Kinds.{schema}
use Rattle.utoipa_base.specs.Refs.{ref_or_doc}
use Rattle.utoipa_base.specs.Values.{schema_count, docs_schema_count, entries_schema_count}
use Rattle.utoipa_base.specs.Views.{boxed, pairs_of}
use Rattle.utoipa_base.specs.declared.fault.ReadFault.{ReadFault}
use Rattle.utoipa_base.specs.declared.refs.RefOr.{RefOr}
use Rattle.utoipa_schema.specs.Docs.{schema_doc}
use Rattle.utoipa_schema.specs.Places.{Place, Stands, by_itself, first_in_list, next_in_list, first_in_map, next_in_map, read_place, elements, entries, alone, part, InnerData, of_content}
use Rattle.utoipa_schema.specs.declared.outcomes.Group.{Group}
use Rattle.utoipa_schema.specs.declared.outcomes.Group.TheVariants as groups
use Rattle.utoipa_schema.specs.declared.outcomes.CombinationOutcomes.{CombinationOutcomes}
use Rattle.utoipa_schema.specs.declared.outcomes.ArrayOutcomes.{ArrayOutcomes}
use Rattle.utoipa_schema.specs.declared.outcomes.ObjectOutcomes.{ObjectOutcomes}
use Rattle.utoipa_schema.specs.declared.outcomes.InnerOutcomes.{InnerOutcomes}
use Rattle.utoipa_schema.specs.declared.types.Schema.{Schema}

-- what a place was read as, if it is something
abbrev pub Outcome : Type 0
Outcome = Option (Box (RefOr Schema) Global)

-- its document
abbrev pub outcome_doc : Outcome → Option Doc
outcome_doc = option_map (boxed (ref_or_doc schema schema_doc))

-- what the places of a list were read as, if each is something, and their documents
abbrev pub ListOutcome : Type 0
ListOutcome = Option (Vec (RefOr Schema) Global)

abbrev pub list_docs : ListOutcome → Option (List Doc)
list_docs = option_map (λ v. map (ref_or_doc schema schema_doc) v.items)

-- the same of a map, with their names
abbrev pub MapOutcome : Type 0
MapOutcome = Option (BTreeMap (String Global) (RefOr Schema))

abbrev pub map_docs : MapOutcome → Option (List (List ℕ × Doc))
map_docs = option_map (λ m. pairs_of (ref_or_doc schema schema_doc) m.entries)

-- ---- the outcomes of the places of a member

-- those of the one place that it is, or of those of a list or a map: none where one of them fits nothing
pub data Outcomes : Type 0 where
  of_one : Option Doc → Outcomes
  of_list : Option (List Doc) → Outcomes
  of_map : Option (List (List ℕ × Doc)) → Outcomes

abbrev pub outcomes_of : Group → Outcomes
outcomes_of (groups.One o) = of_one (outcome_doc o)
outcomes_of (groups.List v) = of_list (list_docs v)
outcomes_of (groups.Map m) = of_map (map_docs m)

abbrev pub all_outcomes : List Group → List Outcomes
all_outcomes = map outcomes_of

abbrev pub one_of_outcomes : Outcomes → Option Doc
one_of_outcomes (of_one o) = o
one_of_outcomes (of_list ds) = None
one_of_outcomes (of_map es) = None

abbrev pub list_of_outcomes : Outcomes → Option (List Doc)
list_of_outcomes (of_one o) = None
list_of_outcomes (of_list ds) = ds
list_of_outcomes (of_map es) = None

abbrev pub map_of_outcomes : Outcomes → Option (List (List ℕ × Doc))
map_of_outcomes (of_one o) = None
map_of_outcomes (of_list ds) = None
map_of_outcomes (of_map es) = es

-- one place more
abbrev pub add_place : Option Doc → Outcomes → Outcomes
add_place (Some d) (of_list (Some ds)) = of_list (Some (ds ++ d ∷ []))
add_place (Some d) (of_list None) = of_list None
add_place (Some d) (of_one o) = of_one o
add_place (Some d) (of_map es) = of_map es
add_place None (of_list ds) = of_list None
add_place None (of_one o) = of_one o
add_place None (of_map es) = of_map es

abbrev pub add_entry : List ℕ → Option Doc → Outcomes → Outcomes
add_entry name (Some d) (of_map (Some es)) = of_map (Some (insert_entry (slice_cmp nat_cmp) es name d))
add_entry name (Some d) (of_map None) = of_map None
add_entry name (Some d) (of_one o) = of_one o
add_entry name (Some d) (of_list ds) = of_list ds
add_entry name None (of_map es) = of_map None
add_entry name None (of_one o) = of_one o
add_entry name None (of_list ds) = of_list ds

abbrev pub with_last : (Outcomes → Outcomes) → List Outcomes → List Outcomes
with_last f [] = []
with_last f (g ∷ []) = f g ∷ []
with_last f (g ∷ h ∷ gs) = g ∷ with_last f (h ∷ gs)

-- a place that was read, after those before it
abbrev pub put : List Outcomes → Stands → Option Doc → List Outcomes
put gs by_itself o = gs ++ of_one o ∷ []
put gs first_in_list o = gs ++ add_place o (of_list (Some [])) ∷ []
put gs next_in_list o = with_last (add_place o) gs
put gs (first_in_map name) o = gs ++ add_entry name o (of_map (Some [])) ∷ []
put gs (next_in_map name) o = with_last (add_entry name o) gs

unfoldable pub grouped_after : List Outcomes → List Place → List Outcomes
grouped_after gs [] = gs
grouped_after gs (p ∷ ps) = grouped_after (put gs p.stands (read_place p)) ps

-- what places were read as, member by member
abbrev pub grouped : List Place → List Outcomes
grouped = grouped_after []

-- ---- counts

-- the schema places of the documents that there are
abbrev pub count_of : Option Doc → ℕ
count_of None = 0
count_of (Some d) = schema_count d

abbrev pub count_of_list : Option (List Doc) → ℕ
count_of_list None = 0
count_of_list (Some ds) = docs_schema_count (docs_of ds)

abbrev pub count_of_map : Option (List (List ℕ × Doc)) → ℕ
count_of_map None = 0
count_of_map (Some es) = entries_schema_count (entries_of_list es)

abbrev pub count_of_outcomes : Outcomes → ℕ
count_of_outcomes (of_one o) = count_of o
count_of_outcomes (of_list ds) = count_of_list ds
count_of_outcomes (of_map es) = count_of_map es

unfoldable pub counts : List Outcomes → ℕ
counts [] = 0
counts (g ∷ gs) = count_of_outcomes g + counts gs

-- ---- what all places of a member are

-- the one that there is
abbrev pub last : List Place → Option Doc
last [] = None
last (p ∷ ps) = read_place p

abbrev pub and_doc : Option Doc → Option (List Doc) → Option (List Doc)
and_doc None ds = None
and_doc (Some d) ds = option_map (λ l. d ∷ l) ds

-- all of a list, if each fits something
abbrev pub all_docs : List Place → Option (List Doc)
all_docs [] = Some []
all_docs (p ∷ ps) = and_doc (read_place p) (all_docs ps)

abbrev pub name_of : Stands → List ℕ
name_of by_itself = []
name_of first_in_list = []
name_of next_in_list = []
name_of (first_in_map name) = name
name_of (next_in_map name) = name

abbrev pub and_entry : List ℕ → Option Doc → Option (List (List ℕ × Doc)) → Option (List (List ℕ × Doc))
and_entry name None es = None
and_entry name (Some d) es = option_map (λ l. (name, d) ∷ l) es

-- all of a map, with their names
abbrev pub all_entries : List Place → Option (List (List ℕ × Doc))
all_entries [] = Some []
all_entries (p ∷ ps) = and_entry (name_of p.stands) (read_place p) (all_entries ps)

-- the document that is a place's own, which is none where a reference stands
abbrev pub own_doc_of : Doc → Option Doc
own_doc_of (own_doc d) = Some d
own_doc_of d = None

abbrev pub own_part : Option Doc → Option Doc
own_part None = None
own_part (Some d) = own_doc_of d

-- the list of the documents that are places' own, if each is one
abbrev pub all_own : List Doc → Option (List Doc)
all_own [] = Some []
all_own (d ∷ ds) = and_doc (own_doc_of d) (all_own ds)

abbrev pub list_of_own : List Doc → Option Doc
list_of_own ds = option_map (λ l. list_doc (docs_of l)) (all_own ds)

-- ---- the outcomes of the inner places of a tree, by its members that may hold schemas

pub record AreCombinations (m : InnerData) (o : CombinationOutcomes) : Type 0 where
  pub one_of : list_docs o.one_of ≡ all_docs (part (elements true) m.one_of)
  pub all_of : list_docs o.all_of ≡ all_docs (part (elements true) m.all_of)
  pub any_of : list_docs o.any_of ≡ all_docs (part (elements true) m.any_of)

pub record AreOfArray (m : InnerData) (o : ArrayOutcomes) : Type 0 where
  pub items : outcome_doc o.items ≡ last (part (alone true) m.items)
  pub prefix_items : list_docs o.prefix_items ≡ all_docs (part (elements false) m.prefix_items)

pub record AreOfObject (m : InnerData) (o : ObjectOutcomes) : Type 0 where
  pub properties : map_docs o.properties ≡ all_entries (part (entries true) m.properties)
  pub additional_properties : outcome_doc o.additional_properties ≡ last (part (alone true) m.additional_properties)
  pub property_names : outcome_doc o.property_names ≡ last (part (alone false) m.property_names)

pub record AreInner (m : InnerData) (o : InnerOutcomes) : Type 0 where
  pub combinations : AreCombinations m o.combinations
  pub array : AreOfArray m o.array
  pub object : AreOfObject m o.object
  pub content_schema : outcome_doc o.content_schema ≡ last (of_content m)

-- ---- their schema places

abbrev pub counts_of_combinations : CombinationOutcomes → ℕ
counts_of_combinations o = count_of_list (list_docs o.one_of) + (count_of_list (list_docs o.all_of) + count_of_list (list_docs o.any_of))

abbrev pub counts_of_array : ArrayOutcomes → ℕ
counts_of_array o = count_of (outcome_doc o.items) + count_of_list (list_docs o.prefix_items)

abbrev pub counts_of_object : ObjectOutcomes → ℕ
counts_of_object o = count_of_map (map_docs o.properties) + (count_of (outcome_doc o.additional_properties) + count_of (outcome_doc o.property_names))

abbrev pub counts_of_inner : InnerOutcomes → ℕ
counts_of_inner o = counts_of_combinations o.combinations + (counts_of_array o.array + (counts_of_object o.object + count_of (outcome_doc o.content_schema)))

-- an object has entries whose names ascend
abbrev pub AreEntries : Data → Type 0
AreEntries null = Unit {0}
AreEntries (boolean b) = Unit {0}
AreEntries (number n) = Unit {0}
AreEntries (string s) = Unit {0}
AreEntries (array ds) = Unit {0}
AreEntries (object ms) = (es : List (String Global × Value)) × (ms ≡ members_view es) × IsStrictlySortedBy string_cmp (keys_of es)

-- groups that are taken off: if they are those of some places, which were read last, then those of the places before are left
abbrev pub Takes : List Group → List Group → List Place → Type 0 → Type 0
Takes old new ps Taken = (rest : List Place) → all_outcomes old ≡ grouped (rest ++ ps) → Taken × (all_outcomes new ≡ grouped rest)

-- ---- what a reader comes to that is given the outcomes of the places inside

-- `o` is the document that the definitions give, and the outcomes have `places` schema places
pub record Fits {A : Type 0} (o : Option Doc) (doc : A → Doc) (result : Result A ReadFault) (places : ℕ) : Type 0 where
  -- a value has that document
  pub ok : IfOk result (λ v. o ≡ Some (doc v))
  -- a fault comes where there is none, or where memory runs out
  pub err : IfErr result (Refuses o)
  -- a value has no more schema places than the outcomes
  pub counted : IfOk result (λ v. schema_count (doc v) ≤ places)
