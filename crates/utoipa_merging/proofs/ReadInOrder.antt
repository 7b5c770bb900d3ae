-- What is read from a sorted tree has its maps in the order of their keys: entries are read in the order of the members.
use Rattle.std.proofs.Common.{◌≡◌, ℕ, List, [], ◌∷◌, Bool, true, false, not, cond, Option, Some, None, IfSome, option_map, refl, sym, ap, subst, codes, nat_cmp, if◌then◌else◌}
use Rattle.std.specs.Str.{bytes_eq}
use Rattle.std.specs.List.{filter, All}
use Rattle.std.specs.List.Sorted.{IsStrictlySortedBy}
use Rattle.std.specs.Cmp.Lexicographic.{slice_cmp}
use Rattle.std.specs.Map.{keys_of, values_of}
use Rattle.std.specs.BTreeMap.{is_at}
use Rattle.std.proofs.lemmas.List.Elements.{All-nil, All-cons}
use Rattle.std.proofs.lemmas.List.Kept.{IsStrictlySortedBy-filter}
use Rattle.std.proofs.lemmas.Map.Views.{IfSome-lookup_from_All}
use Rattle.serde_json.specs.Data.{Data, null, boolean, number, string, array, object, Members, no_members, member}
use Rattle.utoipa_base.specs.Kinds.{ObjectType, open_api_object, path_item_object, components_object, Kind, named, map_of, required, optional, defaulted, Row}
use Rattle.utoipa_base.specs.Docs.{Doc, none_doc, some_doc, map_doc, entries_doc, table_doc, Docs, Entries}
use Rattle.utoipa_base.specs.Extensions.{is_extension, extension_members, some_if_any, extensions_of, members_or_none}
use Rattle.utoipa_base.specs.Tables.{row, table, paths, has_extensions}
use Rattle.utoipa_base.specs.Reading.{both, both_entries, Part, part_is_null, part_reads, Parts, part_name, named_part, part, entry_parts, empty_doc, fits, read_rows, read_entries, reader, parts, part_of, read}
use Rattle.utoipa_base.proofs.Results.{if_is, if_map, by_order}
use Rattle.utoipa_merging.specs.Slots.{first_doc, rest_docs, row_field, field_at, pairs_in, paths_of, components_of, ComponentMap, schema_map, response_map, parameter_map, example_map, request_body_map, header_map, link_map, callback_map, path_item_map, media_type_map, security_scheme_map, map_member}
use Rattle.utoipa_merging.specs.Merged.{IsInOrder, names_in, ArePathsInOrder, IsInKeyOrder}
use Rattle.utoipa_merging.specs.Sorted.{IsSorted, AreMembersSorted}
use Rattle.utoipa_merging.proofs.Shapes.{row_at}

-- ---- parts of sorted trees

-- the part is a sorted tree's
abbrev IsSortedPart : Part → Type 0
IsSortedPart m = (t : Data) × (m ≡ part_of t) × IsSorted t

-- each of the parts is
abbrev AreSortedParts : Parts → Type 0
AreSortedParts [] = Unit {0}
AreSortedParts (p ∷ ps) = IsSortedPart (named_part p) × AreSortedParts ps

-- the parts of an object's members
parts_sorted : (ms : Members) → AreMembersSorted ms → AreSortedParts (parts ms)
unfolding parts
parts_sorted no_members h = tt
parts_sorted (member k d ms) h = ((d, refl, h.0), parts_sorted ms h.1)

-- the part at a name
part_sorted : (name : List ℕ) (ps : Parts) → AreSortedParts ps → IfSome (part name ps) IsSortedPart
part_sorted name [] h = tt
part_sorted name (p ∷ ps) h =
    by_order (λ o. IfSome o IsSortedPart) (slice_cmp nat_cmp name (part_name p)) (part name ps) (Some (named_part p)) (part name ps) (part_sorted name ps h.1) h.0 (part_sorted name ps h.1)

-- the parts that are no extensions, with one more
kept_parts : (b : Bool) (p : List ℕ × Part) (ps : Parts) → IsSortedPart (named_part p) → AreSortedParts ps → AreSortedParts (cond b ps (p ∷ ps))
kept_parts true p ps g h = h
kept_parts false p ps g h = (g, h)

-- the parts that are no extensions
entry_parts_sorted : (ps : Parts) → AreSortedParts ps → AreSortedParts (entry_parts ps)
entry_parts_sorted [] h = tt
entry_parts_sorted (p ∷ ps) h = kept_parts (is_extension (part_name p)) p (entry_parts ps) h.0 (entry_parts_sorted ps h.1)

-- what reading any sorted tree gives, reading the part of one gives
part_gives : (P : Doc → Type 0) (k : Kind) → ((t : Data) → IsSorted t → IfSome (read k t) P) → (m : Part) → IsSortedPart m → IfSome (part_reads m k) P
part_gives P k h m s = subst (λ m. IfSome (part_reads m k) P) (sym s.1) (h s.0 s.2)

-- ---- fields

-- the first of two results, beside the second
first_holds : (P : Doc → Type 0) (o : Option Doc) (p : Option Docs) → IfSome o P → IfSome (both o p) (λ ds. P (first_doc ds))
first_holds P None p h = tt
first_holds P (Some d) None h = tt
first_holds P (Some d) (Some ds) h = h

-- the second of two results, beside the first
rest_holds : (P : Docs → Type 0) (o : Option Doc) (p : Option Docs) → IfSome p P → IfSome (both o p) (λ ds. P (rest_docs ds))
rest_holds P None p h = tt
rest_holds P (Some d) None h = tt
rest_holds P (Some d) (Some ds) h = h

-- the field at a row is the first one or a later one
row_holds_if : (P : Doc → Type 0) (b : Bool) (f : Row → Option Doc) (later : Docs → Doc) (r q : Row) (o : Option Row) (p : Option Docs) → (if b then Some r else o) ≡ Some q → IfSome (f q) P
    → (o ≡ Some q → IfSome p (λ ds. P (later ds))) → IfSome (both (f r) p) (λ ds. P (if b then first_doc ds else later (rest_docs ds)))
row_holds_if P true f later r q o p is here there = let same : q ≡ r = cc in first_holds P (f r) p (subst (λ x. IfSome (f x) P) same here)
row_holds_if P false f later r q o p is here there = rest_holds (λ ds. P (later ds)) (f r) p (there is)

-- what holds of what a row reads holds of the field at that row
row_holds : (P : Doc → Type 0) (name : List ℕ) (rs : List Row) (ps : Parts) (q : Row) → row_at name rs ≡ Some q → IfSome (fits q.mark q.kind (part q.name ps)) P
    → IfSome (read_rows rs ps) (λ ds. P (row_field name rs ds))
row_holds P name [] ps q is h = cc
row_holds P name (r ∷ rs) ps q is h =
    row_holds_if P (bytes_eq name r.name) (λ r. fits r.mark r.kind (part r.name ps)) (row_field name rs) r q (row_at name rs) (read_rows rs ps) is h (λ later. row_holds P name rs ps q later h)

-- the same of the field of an object that is read from a sorted tree
field_holds : (P : Doc → Type 0) (n : ObjectType) (name : List ℕ) (q : Row) → row_at name (table n) ≡ Some q → ((o : Option Part) → IfSome o IsSortedPart → IfSome (fits q.mark q.kind o) P)
    → (t : Data) → IsSorted t → IfSome (read (named n) t) (λ d. P (field_at name d))
unfolding reader
field_holds P n name q is h null s = tt
field_holds P n name q is h (boolean b) s = tt
field_holds P n name q is h (number m) s = tt
field_holds P n name q is h (string x) s = tt
field_holds P n name q is h (array ds) s = tt
field_holds P n name q is h (object ms) s =
    if_map (λ ds. P (row_field name (table n) ds)) (λ d. P (field_at name d)) (λ ds. table_doc n ds (extensions_of (has_extensions n) ms)) (λ ds p. p) (read_rows (table n) (parts ms))
    (row_holds P name (table n) (parts ms) q is (h (part q.name (parts ms)) (part_sorted q.name (parts ms) (parts_sorted ms s.1))))

-- what a required row reads
required_holds : (P : Doc → Type 0) (k : Kind) → ((t : Data) → IsSorted t → IfSome (read k t) P) → (o : Option Part) → IfSome o IsSortedPart → IfSome (fits required k o) P
required_holds P k h None s = tt
required_holds P k h (Some m) s = part_gives P k h m s

-- what a defaulted row reads
defaulted_holds : (P : Doc → Type 0) (k : Kind) → P (empty_doc k) → ((t : Data) → IsSorted t → IfSome (read k t) P) → (o : Option Part) → IfSome o IsSortedPart → IfSome (fits defaulted k o) P
defaulted_holds P k empty h None s = empty
defaulted_holds P k empty h (Some m) s = part_gives P k h m s

-- what an optional row reads, by whether its member is null
optional_holds_if : (P : Doc → Type 0) (b : Bool) (o : Option Doc) → P none_doc → IfSome o (λ d. P (some_doc d)) → IfSome (cond b (Some none_doc) (option_map some_doc o)) P
optional_holds_if P true o none h = none
optional_holds_if P false o none h = if_map (λ d. P (some_doc d)) P some_doc (λ d p. p) o h

-- what an optional row reads
optional_holds : (P : Doc → Type 0) (k : Kind) → P none_doc → ((t : Data) → IsSorted t → IfSome (read k t) (λ d. P (some_doc d))) → (o : Option Part) → IfSome o IsSortedPart → IfSome (fits optional k o) P
optional_holds P k none h None s = none
optional_holds P k none h (Some m) s = optional_holds_if P (part_is_null m) (part_reads m k) none (part_gives (λ d. P (some_doc d)) k h m s)

-- ---- the names of entries

-- the parts stand under the members' names
parts_names : (ms : Members) → keys_of (parts ms) ≡ names_in ms
unfolding parts
parts_names no_members = refl
parts_names (member k d ms) = ap (λ names. k ∷ names) (parts_names ms)

-- one more entry, under its name and with its document
entry_and_others : (P : Doc → Type 0) (k : List ℕ) (names : List (List ℕ)) (o : Option Doc) (p : Option Entries) → IfSome o P → IfSome p (λ es. (keys_of (pairs_in es) ≡ names) × All P (values_of (pairs_in es)))
    → IfSome (both_entries k o p) (λ es. (keys_of (pairs_in es) ≡ k ∷ names) × All P (values_of (pairs_in es)))
entry_and_others P k names None p g h = tt
entry_and_others P k names (Some d) None g h = tt
entry_and_others P k names (Some d) (Some es) g h = (ap (λ l. k ∷ l) h.0, All-cons P d (values_of (pairs_in es)) g h.1)

-- the entries stand under the names of the parts, and what holds of each document that is read holds of theirs
entries_hold : (P : Doc → Type 0) (k : Kind) → ((t : Data) → IsSorted t → IfSome (read k t) P) → (ps : Parts) → AreSortedParts ps
    → IfSome (read_entries k ps) (λ es. (keys_of (pairs_in es) ≡ keys_of ps) × All P (values_of (pairs_in es)))
entries_hold P k h [] s = (refl, All-nil P)
entries_hold P k h (p ∷ ps) s =
    entry_and_others P (part_name p) (keys_of ps) (part_reads (named_part p) k) (read_entries k ps) (part_gives P k h (named_part p) s.0) (entries_hold P k h ps s.1)

-- ---- maps

-- what holds of any document, for maps of whose documents nothing is asked
abbrev Any : Doc → Type 0
Any d = Unit {0}

any_holds : (o : Option Doc) → IfSome o Any
any_holds None = tt
any_holds (Some d) = tt

-- a map that is read from a sorted tree
map_in_order : (k : Kind) (t : Data) → IsSorted t → IfSome (read (map_of k) t) IsInOrder
unfolding reader
map_in_order k null s = tt
map_in_order k (boolean b) s = tt
map_in_order k (number n) s = tt
map_in_order k (string x) s = tt
map_in_order k (array ds) s = tt
map_in_order k (object ms) s =
    if_map (λ es. (keys_of (pairs_in es) ≡ keys_of (parts ms)) × All Any (values_of (pairs_in es))) IsInOrder map_doc (λ es h. rw (h.0, parts_names ms) s.0) (read_entries k (parts ms))
    (entries_hold Any k (λ t g. any_holds (read k t)) (parts ms) (parts_sorted ms s.1))

-- a map that a row of an object leaves out where it is empty
map_field_in_order : (n : ObjectType) (name : List ℕ) (k : Kind) → row_at name (table n) ≡ Some (row name defaulted (map_of k)) → (t : Data) → IsSorted t
    → IfSome (read (named n) t) (λ d. IsInOrder (field_at name d))
unfolding IsStrictlySortedBy
map_field_in_order n name k is = field_holds IsInOrder n name (row name defaulted (map_of k)) is (defaulted_holds IsInOrder (map_of k) tt (map_in_order k))

-- ---- paths

-- one more name, whether it is kept or not
kept_name : (b : Bool) (p : List ℕ × Part) (ps : Parts) (names : List (List ℕ)) → keys_of ps ≡ names → keys_of (cond b ps (p ∷ ps)) ≡ cond (not b) (part_name p ∷ names) names
kept_name true p ps names h = h
kept_name false p ps names h = ap (λ l. part_name p ∷ l) h

-- the parts that are no extensions stand under the other names
entry_parts_names : (ps : Parts) → keys_of (entry_parts ps) ≡ filter (λ name. not (is_extension name)) (keys_of ps)
entry_parts_names [] = refl
entry_parts_names (p ∷ ps) = kept_name (is_extension (part_name p)) p (entry_parts ps) _ (entry_parts_names ps)

-- one more extension, or another member
extension_name : (b : Bool) (name : List ℕ) (d : Data) (ms : Members) (names : List (List ℕ)) → names_in ms ≡ names → names_in (cond b (member name d ms) ms) ≡ cond b (name ∷ names) names
extension_name true name d ms names h = ap (λ l. name ∷ l) h
extension_name false name d ms names h = h

-- the extensions among the members stand under those names that begin so
extension_names : (ms : Members) → names_in (extension_members ms) ≡ filter is_extension (names_in ms)
extension_names no_members = refl
extension_names (member k d ms) = extension_name (is_extension k) k d (extension_members ms) _ (extension_names ms)

-- members, or none where there are none, are the members
any_or_none : (ms : Members) → members_or_none (some_if_any ms) ≡ ms
any_or_none no_members = refl
any_or_none (member k d ms) = refl

-- the additional operations of a path item
abbrev HasOperationsInOrder : Doc → Type 0
HasOperationsInOrder item = IsInOrder (field_at (codes "additionalOperations") item)

-- paths that are read from a sorted tree
paths_in_order : (t : Data) → IsSorted t → IfSome (read paths t) ArePathsInOrder
unfolding reader
paths_in_order null s = tt
paths_in_order (boolean b) s = tt
paths_in_order (number n) s = tt
paths_in_order (string x) s = tt
paths_in_order (array ds) s = tt
paths_in_order (object ms) s =
    if_map (λ es. (keys_of (pairs_in es) ≡ keys_of (entry_parts (parts ms))) × All HasOperationsInOrder (values_of (pairs_in es))) ArePathsInOrder (λ es. entries_doc es (extensions_of true ms)) in_order
    (read_entries (named path_item_object) (entry_parts (parts ms)))
    (entries_hold HasOperationsInOrder (named path_item_object) (map_field_in_order path_item_object (codes "additionalOperations") _ refl) (entry_parts (parts ms)) (entry_parts_sorted (parts ms) (parts_sorted ms s.1)))
  where
    in_order : (es : Entries) → (keys_of (pairs_in es) ≡ keys_of (entry_parts (parts ms))) × All HasOperationsInOrder (values_of (pairs_in es)) → ArePathsInOrder (entries_doc es (extensions_of true ms))
    in_order es h = record {
      entries = rw (h.0, entry_parts_names (parts ms), parts_names ms) (IsStrictlySortedBy-filter (slice_cmp nat_cmp) (λ name. not (is_extension name)) (names_in ms) s.0);
      extensions = rw (any_or_none (extension_members ms), extension_names ms) (IsStrictlySortedBy-filter (slice_cmp nat_cmp) is_extension (names_in ms) s.0);
      operations = λ path. IfSome-lookup_from_All HasOperationsInOrder (is_at (slice_cmp nat_cmp path)) (pairs_in es) h.1;
    }

-- ---- components

-- components that are read from a sorted tree
components_in_order : (m : ComponentMap) (t : Data) → IsSorted t → IfSome (read (named components_object) t) (λ d. IsInOrder (field_at (map_member m) d))
components_in_order schema_map = map_field_in_order components_object (map_member schema_map) _ refl
components_in_order response_map = map_field_in_order components_object (map_member response_map) _ refl
components_in_order parameter_map = map_field_in_order components_object (map_member parameter_map) _ refl
components_in_order example_map = map_field_in_order components_object (map_member example_map) _ refl
components_in_order request_body_map = map_field_in_order components_object (map_member request_body_map) _ refl
components_in_order header_map = map_field_in_order components_object (map_member header_map) _ refl
components_in_order link_map = map_field_in_order components_object (map_member link_map) _ refl
components_in_order callback_map = map_field_in_order components_object (map_member callback_map) _ refl
components_in_order path_item_map = map_field_in_order components_object (map_member path_item_map) _ refl
components_in_order media_type_map = map_field_in_order components_object (map_member media_type_map) _ refl
components_in_order security_scheme_map = map_field_in_order components_object (map_member security_scheme_map) _ refl

-- ---- documents

-- a document that is read from a sorted tree
pub read_in_order : (tree : Data) (d : Doc) → IsSorted tree → read (named open_api_object) tree ≡ Some d → IsInKeyOrder d
unfolding IsStrictlySortedBy
read_in_order tree d s e = record {
  paths =
      if_is (λ d. ArePathsInOrder (paths_of d)) (read (named open_api_object) tree) d
      (field_holds ArePathsInOrder open_api_object (codes "paths") (row (codes "paths") required paths) refl (required_holds ArePathsInOrder paths paths_in_order) tree s) e;
  components =
      λ m. if_is (λ d. IsInOrder (field_at (map_member m) (components_of d))) (read (named open_api_object) tree) d
      (field_holds (λ c. IsInOrder (field_at (map_member m) c)) open_api_object (codes "components") (row (codes "components") optional (named components_object)) refl
      (optional_holds (λ c. IsInOrder (field_at (map_member m) c)) (named components_object) tt (components_in_order m)) tree s) e;
}
