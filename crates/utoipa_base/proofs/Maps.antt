-- A map's entries beside the members that they are read from and written as.
use Rattle.std.proofs.Common.{◌≡◌, ℕ, List, [], ◌∷◌, ◌++◌, Option, Some, None, option_map, option_and_then, map, refl, sym, ap, ◌∙◌, String, Global, Less, Greater, string_bytes, string_cmp, nat_cmp}
use Rattle.std.proofs.lemmas.Cmp.{nat_list_cmp_total}
use Rattle.std.specs.Ordering.{ordering_reverse}
use Rattle.std.specs.Cmp.Lexicographic.{slice_cmp}
use Rattle.std.specs.List.{AllByRecursion}
use Rattle.std.specs.List.Sorted.{IsStrictlySortedBy}
use Rattle.std.specs.Map.{keys_of}
use Rattle.std.specs.BTreeMap.{insert_entry}
use Rattle.serde_json.specs.Data.{Data, null, boolean, number, string, array, object, Members, no_members, member}
use Rattle.serde_json.specs.Find.{as_object}
use Rattle.serde_json.specs.View.{view, members_view}
use Rattle.serde_json.proofs.Views.{Entry}
use Rattle.utoipa_base.specs.Kinds.{Kind, map_of}
use Rattle.utoipa_base.specs.Docs.{Doc, map_doc, Entries, no_entries, entries_of_list}
use Rattle.utoipa_base.specs.Views.{pairs_of}
use Rattle.utoipa_base.specs.Reading.{reader, parts, read, read_entries, both_entries}
use Rattle.utoipa_base.specs.Writing.{write, write_entries}

abbrev pub members_read : Kind → Members → Option Entries
members_read k ms = read_entries k (parts ms)

pub read-map : (k : Kind) (d : Data) → read (map_of k) d ≡ option_and_then (λ ms. option_map map_doc (members_read k ms)) (as_object d)
unfolding reader
read-map k null = refl
read-map k (boolean b) = refl
read-map k (number n) = refl
read-map k (string s) = refl
read-map k (array ds) = refl
read-map k (object ms) = refl

pub write-map : (es : Entries) → write (map_doc es) ≡ object (write_entries es)
unfolding write
write-map es = refl

-- entries before those that are still to come
abbrev pub prepend_entries : List (List ℕ × Doc) → Option Entries → Option Entries
prepend_entries [] o = o
prepend_entries (e ∷ es) o = both_entries e.0 (Some e.1) (prepend_entries es o)

pub prepend_entries-none : (es : List (List ℕ × Doc)) → prepend_entries es None ≡ None
prepend_entries-none [] = refl
prepend_entries-none (e ∷ es) = rw (prepend_entries-none es)

pub prepend_entries-some : (es : List (List ℕ × Doc)) → prepend_entries es (Some no_entries) ≡ Some (entries_of_list es)
prepend_entries-some [] = refl
prepend_entries-some (e ∷ es) = rw (prepend_entries-some es)

pub prepend_entries-append : (es : List (List ℕ × Doc)) (e : List ℕ × Doc) (o : Option Entries) → prepend_entries (es ++ e ∷ []) o ≡ prepend_entries es (both_entries e.0 (Some e.1) o)
prepend_entries-append [] e o = refl
prepend_entries-append (x ∷ es) e o = rw (prepend_entries-append es e o)

abbrev pub entries_read : Kind → List Entry → Option Entries
entries_read k es = members_read k (members_view es)

pub entries_read-nil : (k : Kind) → entries_read k [] ≡ Some no_entries
unfolding parts
entries_read-nil k = refl

pub entries_read-cons : (k : Kind) (e : Entry) (es : List Entry) → entries_read k (e ∷ es) ≡ both_entries (string_bytes e.0) (read k (view e.1)) (entries_read k es)
unfolding parts
entries_read-cons k e es = refl

pub entries_read-step : (k : Kind) (e : Entry) (es : List Entry) (ds : List (List ℕ × Doc)) (d : Doc) (o : Option Entries) → o ≡ prepend_entries ds (entries_read k (e ∷ es)) → read k (view e.1) ≡ Some d
    → o ≡ prepend_entries (ds ++ (string_bytes e.0, d) ∷ []) (entries_read k es)
entries_read-step k e es ds d o before is =
    before ∙ ap (prepend_entries ds) (entries_read-cons k e es ∙ ap (λ r. both_entries (string_bytes e.0) r (entries_read k es)) is) ∙ sym (prepend_entries-append ds (string_bytes e.0, d) (entries_read k es))

pub entries_read-stop : (k : Kind) (e : Entry) (es : List Entry) (ds : List (List ℕ × Doc)) (o : Option Entries) → o ≡ prepend_entries ds (entries_read k (e ∷ es)) → read k (view e.1) ≡ None → o ≡ None
entries_read-stop k e es ds o before is =
    before ∙ ap (prepend_entries ds) (entries_read-cons k e es ∙ ap (λ r. both_entries (string_bytes e.0) r (entries_read k es)) is) ∙ prepend_entries-none ds

pub entries_read-end : (k : Kind) (ds : List (List ℕ × Doc)) (o : Option Entries) → o ≡ prepend_entries ds (entries_read k []) → o ≡ Some (entries_of_list ds)
entries_read-end k ds o before = before ∙ ap (prepend_entries ds) (entries_read-nil k) ∙ prepend_entries-some ds

-- a tree that is an object, with its members read
pub map_by_entries : (k : Kind) (d : Data) (es : List Entry) (o : Option Entries) → Some (members_view es) ≡ as_object d → entries_read k es ≡ o → read (map_of k) d ≡ option_map map_doc o
map_by_entries k d es o is read_as = read-map k d ∙ ap (option_and_then (λ ms. option_map map_doc (members_read k ms))) (sym is) ∙ ap (option_map map_doc) read_as

-- ---- the keys ascend, so that each entry comes last

abbrev pub texts : {X : Type 0} → List (String Global × X) → List (List ℕ)
texts es = map (λ e. string_bytes e.0) es

pub above : {X : Type 0} (first : String Global × X) (es : List (String Global × X)) (e : String Global × X) (more : List (String Global × X)) → AllByRecursion (λ y. string_cmp first.0 y ≡ Less) (keys_of (es ++ e ∷ more))
    → slice_cmp nat_cmp (string_bytes e.0) (string_bytes first.0) ≡ Greater
above first [] e more h = nat_list_cmp_total.antisymm (string_bytes e.0) (string_bytes first.0) ∙ ap ordering_reverse h.0
above first (x ∷ es) e more h = above first es e more h.1

-- an entry with the text of e, put among entries with the texts of those before e
pub insert_last : {X Y : Type 0} (es : List (String Global × Y)) (done : List (String Global × X)) (e : String Global × X) (more : List (String Global × X)) (name : String Global) (v : Y)
    → texts es ≡ texts done → IsStrictlySortedBy string_cmp (keys_of (done ++ e ∷ more)) → string_bytes name ≡ string_bytes e.0 → insert_entry string_cmp es name v ≡ es ++ (name, v) ∷ []
unfolding IsStrictlySortedBy
insert_last [] done e more name v same sorted is = refl
insert_last (x ∷ es) [] e more name v same sorted is = cc
insert_last (x ∷ es) (y ∷ done) e more name v same sorted is =
    let first : string_bytes x.0 ≡ string_bytes y.0 = cc in
    let others : texts es ≡ texts done = cc in
    let later : slice_cmp nat_cmp (string_bytes name) (string_bytes x.0) ≡ Greater = rw (is, first) (above y done e more sorted.0) in
    rw later (ap (λ l. x ∷ l) (insert_last es done e more name v others sorted.1 is))

abbrev pub members_by : {X : Type 0} → (X → Data) → List (String Global × X) → Members
members_by f [] = no_members
members_by f (e ∷ es) = member (string_bytes e.0) (f e.1) (members_by f es)

pub write_entries-entries_of_list : {X : Type 0} (f : X → Doc) (es : List (String Global × X)) → write_entries (entries_of_list (pairs_of f es)) ≡ members_by (λ x. write (f x)) es
unfolding write_entries
write_entries-entries_of_list f [] = refl
write_entries-entries_of_list f (e ∷ es) = ap (member (string_bytes e.0) (write (f e.1))) (write_entries-entries_of_list f es)

pub ruleset by_maps = (read-map, write-map)
