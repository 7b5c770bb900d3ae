-- Outcomes taken off the end of those that were read, member by member.
use Rattle.std.proofs.Common.{◌≡◌, ℕ, Bool, ◌+◌, ◌≤◌, List, [], ◌∷◌, ◌++◌, length, Option, Some, refl, sym, ap, ◌∙◌, arith, append_assoc, map, String, Vec, BTreeMap, Global, string_cmp}
use Rattle.std.proofs.lemmas.List.{append-nil, map-append}
use Rattle.std.specs.List.Sorted.{IsStrictlySortedBy}
use Rattle.std.specs.Map.{keys_of}
use Rattle.serde_json.specs.Data.{Data, null, boolean, number, string, array, object, Members, no_items, item}
use Rattle.serde_json.specs.View.{members_view}
use Rattle.serde_json.proofs.Views.{Entry}
use Rattle.utoipa_base.specs.Docs.{Doc, docs_of, entries_of_list}
use Rattle.utoipa_base.specs.Kinds.{schema}
use Rattle.utoipa_base.specs.Refs.{ref_or_doc}
use Rattle.utoipa_base.specs.Values.{docs_schema_count, entries_schema_count}
use Rattle.utoipa_base.specs.Views.{pairs_of}
use Rattle.utoipa_base.specs.declared.refs.RefOr.{RefOr}
use Rattle.utoipa_schema.specs.Docs.{schema_doc}
use Rattle.utoipa_schema.specs.declared.types.Schema.{Schema}
use Rattle.utoipa_base.proofs.Places.{docs_schema_count-none, entries_schema_count-none}
use Rattle.utoipa_schema.specs.Outcomes.{Outcomes, of_one, of_list, of_map, one_of_outcomes, list_of_outcomes, map_of_outcomes, count_of, count_of_list, count_of_map, outcomes_of, all_outcomes, list_docs, map_docs, grouped, counts, count_of_outcomes, all_docs, all_entries, Takes, AreEntries, with_last}
use Rattle.utoipa_schema.specs.Places.{Place, elements, entries, entries_of}
use Rattle.utoipa_schema.specs.declared.outcomes.Group.{Group}
use Rattle.utoipa_schema.proofs.Groups.{list_grouped, map_grouped, with_last-snoc, counts-last}

-- ---- where nothing was put, nothing is taken

pub nothing_taken : (gs : List Group) (ps : List Place) (Taken : Type 0) → ps ≡ [] → Taken → Takes gs gs ps Taken
nothing_taken gs ps Taken none taken = λ rest is. (taken, is ∙ ap (λ qs. grouped (rest ++ qs)) none ∙ ap grouped (append-nil rest))

-- ---- the last group

snoc_same : {X : Type 0} (xs ys : List X) (x y : X) → xs ++ x ∷ [] ≡ ys ++ y ∷ [] → (xs ≡ ys) × (x ≡ y)
snoc_same [] [] x y e = (refl, cc)
snoc_same [] (z ∷ []) x y e = cc
snoc_same [] (z ∷ w ∷ ys) x y e = cc
snoc_same (z ∷ []) [] x y e = cc
snoc_same (z ∷ w ∷ xs) [] x y e = cc
snoc_same (z ∷ xs) (w ∷ ys) x y e =
    let others : xs ++ x ∷ [] ≡ ys ++ y ∷ [] = cc in
    let first : z ≡ w = cc in
    let same = snoc_same xs ys x y others in
    (ap (λ l. z ∷ l) same.0 ∙ ap (λ v. v ∷ ys) first, same.1)

-- the group that is taken off is the last of the outcomes, and the others are left
pub last_taken : (old new : List Group) (g : Group) (gs : List Outcomes) (o : Outcomes) → old ≡ new ++ g ∷ [] → all_outcomes old ≡ gs ++ o ∷ [] → (outcomes_of g ≡ o) × (all_outcomes new ≡ gs)
last_taken old new g gs o off is =
    let same = snoc_same (all_outcomes new) gs (outcomes_of g) o (sym (map-append outcomes_of new (g ∷ [])) ∙ ap all_outcomes (sym off) ∙ is) in
    (same.1, same.0)

-- there is one
pub some_last : (old : List Group) (gs : List Outcomes) (o : Outcomes) → old ≡ [] → all_outcomes old ≡ gs ++ o ∷ [] → ⊥
some_last old [] o none is = (let bad : [] ≡ o ∷ [] = sym (ap all_outcomes none) ∙ is in cc)
some_last old (g ∷ gs) o none is = (let bad : [] ≡ g ∷ (gs ++ o ∷ []) = sym (ap all_outcomes none) ∙ is in cc)

-- a group in place of the last one
pub last_put : (f : Outcomes → Outcomes) (old new others : List Group) (g h : Group) → old ≡ others ++ g ∷ [] → new ≡ others ++ h ∷ [] → outcomes_of h ≡ f (outcomes_of g) → all_outcomes new ≡ with_last f (all_outcomes old)
last_put f old new others g h off on is =
    ap all_outcomes on ∙ map-append outcomes_of others (h ∷ []) ∙ ap (λ o. all_outcomes others ++ o ∷ []) is ∙ sym (with_last-snoc f (all_outcomes others) (outcomes_of g))
    ∙ ap (with_last f) (sym (ap all_outcomes off ∙ map-append outcomes_of others (g ∷ [])))

-- the outcomes of a list that is not empty are the last
pub list_last : (rest : List Place) (b : Bool) (d : Data) (n : ℕ) → n ≡ length (elements b d) → (n ≡ 0 → ⊥) → grouped (rest ++ elements b d) ≡ grouped rest ++ of_list (all_docs (elements b d)) ∷ []
list_last rest b null n is some = absurd (some is)
list_last rest b (boolean c) n is some = absurd (some is)
list_last rest b (number m) n is some = absurd (some is)
list_last rest b (string s) n is some = absurd (some is)
list_last rest b (array no_items) n is some = absurd (some is)
list_last rest b (array (item d ds)) n is some = list_grouped rest b d ds
list_last rest b (object ms) n is some = absurd (some is)

map_last_of : (rest : List Place) (b : Bool) (ms : Members) (n : ℕ) (es : List Entry) → ms ≡ members_view es → IsStrictlySortedBy string_cmp (keys_of es) → n ≡ length (entries_of b ms) → (n ≡ 0 → ⊥)
    → grouped (rest ++ entries_of b ms) ≡ grouped rest ++ of_map (all_entries (entries_of b ms)) ∷ []
map_last_of rest b ms n [] same sorted is some = absurd (some (is ∙ ap (λ m. length (entries_of b m)) same))
map_last_of rest b ms n (e ∷ es) same sorted is some =
    ap (λ m. grouped (rest ++ entries_of b m)) same ∙ map_grouped rest b e es sorted ∙ ap (λ m. grouped rest ++ of_map (all_entries (entries_of b m)) ∷ []) (sym same)

-- those of a map that is not empty too
pub map_last : (rest : List Place) (b : Bool) (d : Data) (n : ℕ) → AreEntries d → n ≡ length (entries b d) → (n ≡ 0 → ⊥) → grouped (rest ++ entries b d) ≡ grouped rest ++ of_map (all_entries (entries b d)) ∷ []
map_last rest b null n ordered is some = absurd (some is)
map_last rest b (boolean c) n ordered is some = absurd (some is)
map_last rest b (number m) n ordered is some = absurd (some is)
map_last rest b (string s) n ordered is some = absurd (some is)
map_last rest b (array ds) n ordered is some = absurd (some is)
map_last rest b (object ms) n ordered is some = map_last_of rest b ms n ordered.0 ordered.1 ordered.2 is some

-- what is left, and what was taken, have no more schema places than there were
pub left_count : (old new : List Group) (g : Group) (n : ℕ) → old ≡ new ++ g ∷ [] → n ≤ count_of_outcomes (outcomes_of g) → counts (all_outcomes new) + n ≤ counts (all_outcomes old)
left_count old new g n off within = omega (arith, within, ap (λ l. counts (all_outcomes l)) off, ap counts (map-append outcomes_of new (g ∷ [])), counts-last (all_outcomes new) (outcomes_of g))

pub one_count : (o : Option Doc) (g : Outcomes) → o ≡ one_of_outcomes g → count_of o ≤ count_of_outcomes g
one_count o (of_one p) is = omega (arith, ap count_of is)
one_count o (of_list ds) is = omega (arith, ap count_of is)
one_count o (of_map es) is = omega (arith, ap count_of is)

pub list_count : (o : Option (List Doc)) (g : Outcomes) → o ≡ list_of_outcomes g → count_of_list o ≤ count_of_outcomes g
list_count o (of_one p) is = omega (arith, ap count_of_list is)
list_count o (of_list ds) is = omega (arith, ap count_of_list is)
list_count o (of_map es) is = omega (arith, ap count_of_list is)

pub map_count : (o : Option (List (List ℕ × Doc))) (g : Outcomes) → o ≡ map_of_outcomes g → count_of_map o ≤ count_of_outcomes g
map_count o (of_one p) is = omega (arith, ap count_of_map is)
map_count o (of_list ds) is = omega (arith, ap count_of_map is)
map_count o (of_map es) is = omega (arith, ap count_of_map is)

pub no_list_count : (v : Vec (RefOr Schema) Global) → v.items ≡ [] → count_of_list (list_docs (Some v)) ≡ 0
no_list_count v none = ap (λ vs. docs_schema_count (docs_of (map (ref_or_doc schema schema_doc) vs))) none ∙ docs_schema_count-none

pub no_map_count : (m : BTreeMap (String Global) (RefOr Schema)) → m.entries ≡ [] → count_of_map (map_docs (Some m)) ≡ 0
no_map_count m none = ap (λ es. entries_schema_count (entries_of_list (pairs_of (ref_or_doc schema schema_doc) es))) none ∙ entries_schema_count-none

-- ---- two members after one another, of which the second is taken first

pub both_taken : (old between new : List Group) (ps qs : List Place) (First Second : Type 0) → Takes old between qs Second → Takes between new ps First → Takes old new (ps ++ qs) (First × Second)
both_taken old between new ps qs First Second second first = λ rest is.
    let a = second (rest ++ ps) (is ∙ ap grouped (sym (append_assoc rest ps qs))) in
    let b = first rest a.1 in
    ((b.0, a.0), b.1)

-- what is taken, said in other words
pub taken_as : (old new : List Group) (ps qs : List Place) (First Second : Type 0) → ps ≡ qs → Takes old new ps First → (First → Second) → Takes old new qs Second
taken_as old new ps qs First Second same taken say = λ rest is.
    let a = taken rest (is ∙ ap (λ l. grouped (rest ++ l)) (sym same)) in
    (say a.0, a.1)
