-- What places were read as, put together member by member.
use Rattle.std.proofs.Common.{◌≡◌, ℕ, ◌+◌, ◌≤◌, List, [], ◌∷◌, ◌++◌, map, Bool, Option, Some, None, IfSome, option_map, String, Global, Ordering, Less, Equal, Greater, refl, sym, ap, ◌∙◌, subst, arith, append_assoc, string_bytes, string_cmp, nat_cmp}
use Rattle.std.proofs.lemmas.List.{append-nil, map-append}
use Rattle.std.specs.BTreeMap.{insert_entry}
use Rattle.std.specs.Cmp.Lexicographic.{slice_cmp}
use Rattle.std.specs.List.Sorted.{IsStrictlySortedBy}
use Rattle.std.specs.Map.{keys_of}
use Rattle.std.specs.Ordering.{match_ordering}
use Rattle.serde_json.specs.Data.{Data, Items, item}
use Rattle.serde_json.specs.View.{view, members_view}
use Rattle.serde_json.proofs.Views.{Entry}
use Rattle.utoipa_base.specs.Docs.{Doc, entries_of_list}
use Rattle.utoipa_base.specs.Values.{schema_count, entries_schema_count}
use Rattle.utoipa_base.specs.Views.{pairs_of}
use Rattle.utoipa_base.proofs.Maps.{texts, above}
use Rattle.utoipa_base.proofs.Places.{docs_schema_count-none, entries_schema_count-none}
use Rattle.utoipa_base.proofs.Values.{docs_schema_count-last}
use Rattle.utoipa_schema.specs.Outcomes.{Outcomes, of_one, of_list, of_map, add_place, add_entry, with_last, put, grouped, grouped_after, count_of, count_of_outcomes, counts, and_doc, all_docs, and_entry, all_entries}
use Rattle.utoipa_schema.specs.Places.{Place, Stands, by_itself, first_in_list, next_in_list, first_in_map, next_in_map, place_at, read_by, read_place, items_list, elements_of, next_entries, entries_of}

-- ---- one place after the other

pub grouped-append : (gs : List Outcomes) (xs ys : List Place) → grouped_after gs (xs ++ ys) ≡ grouped_after (grouped_after gs xs) ys
unfolding grouped_after
grouped-append gs [] ys = refl
grouped-append gs (x ∷ xs) ys = grouped-append (put gs x.stands (read_place x)) xs ys

pub grouped-one : (gs : List Outcomes) (p : Place) → grouped_after gs (p ∷ []) ≡ put gs p.stands (read_place p)
unfolding grouped_after
grouped-one gs p = refl

pub grouped-none : (gs : List Outcomes) → grouped_after gs [] ≡ gs
unfolding grouped_after
grouped-none gs = refl

pub grouped-last : (xs : List Place) (p : Place) → grouped (xs ++ p ∷ []) ≡ put (grouped xs) p.stands (read_place p)
grouped-last xs p = grouped-append [] xs (p ∷ []) ∙ grouped-one (grouped xs) p

pub with_last-snoc : (f : Outcomes → Outcomes) (gs : List Outcomes) (g : Outcomes) → with_last f (gs ++ g ∷ []) ≡ gs ++ f g ∷ []
with_last-snoc f [] g = refl
with_last-snoc f (h ∷ []) g = refl
with_last-snoc f (h ∷ i ∷ gs) g = ap (λ l. h ∷ l) (with_last-snoc f (i ∷ gs) g)

-- ---- what was read before, and what is read after it

abbrev pub appended : {X : Type 0} → Option (List X) → Option (List X) → Option (List X)
appended None ys = None
appended (Some xs) None = None
appended (Some xs) (Some ys) = Some (xs ++ ys)

abbrev one_of : {X : Type 0} → Option X → Option (List X)
one_of = option_map (λ x. x ∷ [])

pub appended-nil : {X : Type 0} (v : Option (List X)) → appended v (Some []) ≡ v
appended-nil None = refl
appended-nil (Some xs) = ap Some (append-nil xs)

pub appended-start : {X : Type 0} (v : Option (List X)) → appended (Some []) v ≡ v
appended-start None = refl
appended-start (Some xs) = refl

-- ---- a list

added : (v : Option (List Doc)) (o : Option Doc) → add_place o (of_list v) ≡ of_list (appended v (one_of o))
added None None = refl
added None (Some d) = refl
added (Some ds) None = refl
added (Some ds) (Some d) = refl

pub and_doc-appended : (v : Option (List Doc)) (o : Option Doc) (w : Option (List Doc)) → appended (appended v (one_of o)) w ≡ appended v (and_doc o w)
and_doc-appended None o w = refl
and_doc-appended (Some xs) None w = refl
and_doc-appended (Some xs) (Some d) None = refl
and_doc-appended (Some xs) (Some d) (Some ys) = ap Some (append_assoc xs (d ∷ []) ys)

list_after : (gs : List Outcomes) (v : Option (List Doc)) (b : Bool) (ds : List Data)
    → grouped_after (gs ++ of_list v ∷ []) (map (place_at b next_in_list) ds) ≡ gs ++ of_list (appended v (all_docs (map (place_at b next_in_list) ds))) ∷ []
unfolding grouped_after
list_after gs v b [] = ap (λ w. gs ++ of_list w ∷ []) (sym (appended-nil v))
list_after gs v b (d ∷ ds) =
    ap (λ hs. grouped_after hs (map (place_at b next_in_list) ds)) (with_last-snoc (add_place (read_by b d)) gs (of_list v) ∙ ap (λ g. gs ++ g ∷ []) (added v (read_by b d)))
    ∙ list_after gs (appended v (one_of (read_by b d))) b ds
    ∙ ap (λ w. gs ++ of_list w ∷ []) (and_doc-appended v (read_by b d) (all_docs (map (place_at b next_in_list) ds)))

list_put : (gs : List Outcomes) (b : Bool) (d : Data) (ds : Items) → grouped_after gs (elements_of b (item d ds)) ≡ gs ++ of_list (all_docs (elements_of b (item d ds))) ∷ []
unfolding grouped_after
list_put gs b d ds =
    ap (λ g. grouped_after (gs ++ g ∷ []) (map (place_at b next_in_list) (items_list ds))) (added (Some []) (read_by b d))
    ∙ list_after gs (appended (Some []) (one_of (read_by b d))) b (items_list ds)
    ∙ ap (λ w. gs ++ of_list w ∷ []) (and_doc-appended (Some []) (read_by b d) (all_docs (map (place_at b next_in_list) (items_list ds))) ∙ appended-start _)

-- the elements of a list that is not empty, read last
pub list_grouped : (rest : List Place) (b : Bool) (d : Data) (ds : Items) → grouped (rest ++ elements_of b (item d ds)) ≡ grouped rest ++ of_list (all_docs (elements_of b (item d ds))) ∷ []
list_grouped rest b d ds = grouped-append [] rest (elements_of b (item d ds)) ∙ list_put (grouped rest) b d ds

-- ---- a map, whose names ascend

abbrev names : List (List ℕ × Doc) → List (List ℕ)
names = map (λ e. e.0)

-- a name above all others comes last
entered_last : (ps : List (List ℕ × Doc)) (done : List Entry) (e : Entry) (more : List Entry) (d : Doc) → names ps ≡ texts done → IsStrictlySortedBy string_cmp (keys_of (done ++ e ∷ more))
    → insert_entry (slice_cmp nat_cmp) ps (string_bytes e.0) d ≡ ps ++ (string_bytes e.0, d) ∷ []
unfolding IsStrictlySortedBy
entered_last [] done e more d same sorted = refl
entered_last (x ∷ ps) [] e more d same sorted = cc
entered_last (x ∷ ps) (y ∷ done) e more d same sorted =
    let first : x.0 ≡ string_bytes y.0 = cc in
    let others : names ps ≡ texts done = cc in
    let later : slice_cmp nat_cmp (string_bytes e.0) x.0 ≡ Greater = rw first (above y done e more sorted.0) in
    rw later (ap (λ l. x ∷ l) (entered_last ps done e more d others sorted.1))

entered : (v : Option (List (List ℕ × Doc))) (done : List Entry) (e : Entry) (more : List Entry) (o : Option Doc) → IfSome v (λ ps. names ps ≡ texts done) → IsStrictlySortedBy string_cmp (keys_of (done ++ e ∷ more))
    → add_entry (string_bytes e.0) o (of_map v) ≡ of_map (appended v (one_of (option_map (λ d. (string_bytes e.0, d)) o)))
entered None done e more None same sorted = refl
entered None done e more (Some d) same sorted = refl
entered (Some ps) done e more None same sorted = refl
entered (Some ps) done e more (Some d) same sorted = ap (λ es. of_map (Some es)) (entered_last ps done e more d same sorted)

-- the names of those that were read before and of one more
names_so_far : (v : Option (List (List ℕ × Doc))) (done : List Entry) (e : Entry) (o : Option Doc) → IfSome v (λ ps. names ps ≡ texts done)
    → IfSome (appended v (one_of (option_map (λ d. (string_bytes e.0, d)) o))) (λ ps. names ps ≡ texts (done ++ e ∷ []))
names_so_far None done e o same = tt
names_so_far (Some ps) done e None same = tt
names_so_far (Some ps) done e (Some d) same = map-append _ ps _ ∙ ap (λ l. l ++ string_bytes e.0 ∷ []) same ∙ sym (map-append _ done (e ∷ []))

and_entry-appended : (v : Option (List (List ℕ × Doc))) (name : List ℕ) (o : Option Doc) (w : Option (List (List ℕ × Doc))) → appended (appended v (one_of (option_map (λ d. (name, d)) o))) w ≡ appended v (and_entry name o w)
and_entry-appended None name o w = refl
and_entry-appended (Some xs) name None w = refl
and_entry-appended (Some xs) name (Some d) None = refl
and_entry-appended (Some xs) name (Some d) (Some ys) = ap Some (append_assoc xs ((name, d) ∷ []) ys)

map_after : (gs : List Outcomes) (v : Option (List (List ℕ × Doc))) (b : Bool) (done more : List Entry) → IfSome v (λ ps. names ps ≡ texts done) → IsStrictlySortedBy string_cmp (keys_of (done ++ more))
    → grouped_after (gs ++ of_map v ∷ []) (next_entries b (members_view more)) ≡ gs ++ of_map (appended v (all_entries (next_entries b (members_view more)))) ∷ []
unfolding grouped_after
map_after gs v b done [] same sorted = ap (λ w. gs ++ of_map w ∷ []) (sym (appended-nil v))
map_after gs v b done (e ∷ more) same sorted =
    let o = read_by b (view e.1) in
    let w = appended v (one_of (option_map (λ d. (string_bytes e.0, d)) o)) in
    ap (λ hs. grouped_after hs (next_entries b (members_view more))) (with_last-snoc (add_entry (string_bytes e.0) o) gs (of_map v) ∙ ap (λ g. gs ++ g ∷ []) (entered v done e more o same sorted))
    ∙ map_after gs w b (done ++ e ∷ []) more (names_so_far v done e o same) (subst (λ es. IsStrictlySortedBy string_cmp (keys_of es)) (sym (append_assoc done (e ∷ []) more)) sorted)
    ∙ ap (λ u. gs ++ of_map u ∷ []) (and_entry-appended v (string_bytes e.0) o (all_entries (next_entries b (members_view more))))

map_put : (gs : List Outcomes) (b : Bool) (e : Entry) (es : List Entry) → IsStrictlySortedBy string_cmp (keys_of (e ∷ es))
    → grouped_after gs (entries_of b (members_view (e ∷ es))) ≡ gs ++ of_map (all_entries (entries_of b (members_view (e ∷ es)))) ∷ []
unfolding grouped_after
map_put gs b e es sorted =
    let o = read_by b (view e.1) in
    let w = appended (Some []) (one_of (option_map (λ d. (string_bytes e.0, d)) o)) in
    ap (λ g. grouped_after (gs ++ g ∷ []) (next_entries b (members_view es))) (entered (Some []) [] e es o refl sorted)
    ∙ map_after gs w b (e ∷ []) es (names_so_far (Some []) [] e o refl) sorted
    ∙ ap (λ u. gs ++ of_map u ∷ []) (and_entry-appended (Some []) (string_bytes e.0) o (all_entries (next_entries b (members_view es))) ∙ appended-start _)

-- the values of a map that is not empty, read last
pub map_grouped : (rest : List Place) (b : Bool) (e : Entry) (es : List Entry) → IsStrictlySortedBy string_cmp (keys_of (e ∷ es))
    → grouped (rest ++ entries_of b (members_view (e ∷ es))) ≡ grouped rest ++ of_map (all_entries (entries_of b (members_view (e ∷ es)))) ∷ []
map_grouped rest b e es sorted = grouped-append [] rest (entries_of b (members_view (e ∷ es))) ∙ map_put (grouped rest) b e es sorted

-- ---- counts

pub counts-none : counts [] ≡ 0
unfolding counts
counts-none = refl

pub counts-append : (gs hs : List Outcomes) → counts (gs ++ hs) ≡ counts gs + counts hs
unfolding counts
counts-append [] hs = omega arith
counts-append (g ∷ gs) hs = omega (arith, counts-append gs hs)

pub counts-last : (gs : List Outcomes) (g : Outcomes) → counts (gs ++ g ∷ []) ≡ counts gs + count_of_outcomes g
unfolding counts
counts-last gs g = counts-append gs (g ∷ []) ∙ omega arith

counts-with_last : (f : Outcomes → Outcomes) (n : ℕ) (gs : List Outcomes) → ((g : Outcomes) → count_of_outcomes (f g) ≤ count_of_outcomes g + n) → counts (with_last f gs) ≤ counts gs + n
unfolding counts
counts-with_last f n [] h = omega arith
counts-with_last f n (g ∷ []) h = omega (arith, h g)
counts-with_last f n (g ∷ i ∷ gs) h = omega (arith, counts-with_last f n (i ∷ gs) h)

added_count : (o : Option Doc) (g : Outcomes) → count_of_outcomes (add_place o g) ≤ count_of_outcomes g + count_of o
added_count (Some d) (of_list (Some ds)) = omega (arith, docs_schema_count-last ds d)
added_count (Some d) (of_list None) = omega arith
added_count (Some d) (of_one o) = omega arith
added_count (Some d) (of_map es) = omega arith
added_count None (of_list ds) = omega arith
added_count None (of_one o) = omega arith
added_count None (of_map es) = omega arith

entries_count-cons : (name : List ℕ) (d : Doc) (es : List (List ℕ × Doc)) → entries_schema_count (entries_of_list ((name, d) ∷ es)) ≡ schema_count d + entries_schema_count (entries_of_list es)
unfolding entries_schema_count
entries_count-cons name d es = refl

entered_by : (c : Ordering) (name : List ℕ) (d : Doc) (e : List ℕ × Doc) (es new : List (List ℕ × Doc)) → entries_schema_count (entries_of_list new) ≤ entries_schema_count (entries_of_list es) + schema_count d
    → entries_schema_count (entries_of_list (match_ordering c ((name, d) ∷ e ∷ es) ((e.0, d) ∷ es) (e ∷ new))) ≤ entries_schema_count (entries_of_list (e ∷ es)) + schema_count d
entered_by Less name d e es new h = omega (arith, entries_count-cons name d (e ∷ es))
entered_by Equal name d e es new h = omega (arith, entries_count-cons e.0 d es, entries_count-cons e.0 e.1 es)
entered_by Greater name d e es new h = omega (arith, entries_count-cons e.0 e.1 new, entries_count-cons e.0 e.1 es, h)

entered_count_in : (name : List ℕ) (d : Doc) (es : List (List ℕ × Doc)) → entries_schema_count (entries_of_list (insert_entry (slice_cmp nat_cmp) es name d)) ≤ entries_schema_count (entries_of_list es) + schema_count d
entered_count_in name d [] = omega (arith, entries_count-cons name d [])
entered_count_in name d (e ∷ es) = entered_by (slice_cmp nat_cmp name e.0) name d e es (insert_entry (slice_cmp nat_cmp) es name d) (entered_count_in name d es)

entered_count : (name : List ℕ) (o : Option Doc) (g : Outcomes) → count_of_outcomes (add_entry name o g) ≤ count_of_outcomes g + count_of o
entered_count name (Some d) (of_map (Some es)) = entered_count_in name d es
entered_count name (Some d) (of_map None) = omega arith
entered_count name (Some d) (of_one o) = omega arith
entered_count name (Some d) (of_list ds) = omega arith
entered_count name None (of_map es) = omega arith
entered_count name None (of_one o) = omega arith
entered_count name None (of_list ds) = omega arith

-- a place that is put adds at most its own count
pub put_count : (gs : List Outcomes) (s : Stands) (o : Option Doc) → counts (put gs s o) ≤ counts gs + count_of o
put_count gs by_itself o = omega (arith, counts-last gs (of_one o))
put_count gs first_in_list o = omega (arith, counts-last gs (add_place o (of_list (Some []))), added_count o (of_list (Some [])), docs_schema_count-none)
put_count gs next_in_list o = counts-with_last (add_place o) (count_of o) gs (added_count o)
put_count gs (first_in_map name) o = omega (arith, counts-last gs (add_entry name o (of_map (Some []))), entered_count name o (of_map (Some [])), entries_schema_count-none)
put_count gs (next_in_map name) o = counts-with_last (add_entry name o) (count_of o) gs (entered_count name o)

-- ---- a map of the program

pairs_by : {X : Type 0} (f : X → Doc) (c : Ordering) (ls bs cs : List (String Global × X)) → pairs_of f (match_ordering c ls bs cs) ≡ match_ordering c (pairs_of f ls) (pairs_of f bs) (pairs_of f cs)
pairs_by f Less ls bs cs = refl
pairs_by f Equal ls bs cs = refl
pairs_by f Greater ls bs cs = refl

-- an entry is put in a map as its document is put among those of the others
pub pairs_entered : {X : Type 0} (f : X → Doc) (es : List (String Global × X)) (name : String Global) (v : X) → pairs_of f (insert_entry string_cmp es name v) ≡ insert_entry (slice_cmp nat_cmp) (pairs_of f es) (string_bytes name) (f v)
pairs_entered f [] name v = refl
pairs_entered f (e ∷ es) name v =
    pairs_by f (string_cmp name e.0) ((name, v) ∷ e ∷ es) ((e.0, v) ∷ es) (e ∷ insert_entry string_cmp es name v)
    ∙ ap (λ l. match_ordering (string_cmp name e.0) ((string_bytes name, f v) ∷ pairs_of f (e ∷ es)) ((string_bytes e.0, f v) ∷ pairs_of f es) ((string_bytes e.0, f e.1) ∷ l)) (pairs_entered f es name v)
