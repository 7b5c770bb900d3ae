-- Items that are put where a document is nested.
use Rattle.std.proofs.Common.{◌≡◌, ℕ, ◌+◌, ◌<◌, ◌≤◌, length, get_or, drop, take, List, [], ◌∷◌, ◌++◌, Bool, true, false, cond, if◌then◌else◌, Option, Some, None, Bor, map, option_map, refl, sym, ap, ◌∙◌, String, Global, string_bytes, string_cmp}
use Rattle.std.proofs.lemmas.List.{append-nil, append_assoc, drop_all, map-append, take_more}
use Rattle.std.specs.BTreeMap.{BTreeMap, get_by_text, insert_entry}
use Rattle.std.specs.List.{flat_map}
use Rattle.std.specs.Option.{option_or}
use Rattle.std.specs.Str.{bytes_eq}
use Rattle.serde_json.specs.Data.{Data}
use Rattle.serde_json.specs.View.{view}
use Rattle.serde_json.specs.declared.value.Value.{Value}
use Rattle.utoipa_merging.specs.Rules.{last_of}
use Rattle.utoipa_merging.proofs.Lookups.{found}
use Rattle.utoipa_merging.proofs.Options.{last_of-append}
use Rattle.utoipa_merging.proofs.PutEach.{found-insert_entry}
use Rattle.utoipa_conflicts.specs.Conflicts.{place_of_item, Filled, slots, Conflict, dropped_by}
use Rattle.utoipa_conflicts.specs.Nested as specs
use Rattle.utoipa_conflicts.specs.Nested.{path_items, item_if, put_at, answered, unless_same, covered, own_decides, rest_dropped, nested_conflicts}
use Rattle.utoipa_conflicts.specs.Views.{item_of, all_items}
use Rattle.utoipa_conflicts.specs.declared.nested.ItemAt.{ItemAt}

-- ---- answers

-- where no item is left
answered_none : (answers : List (List ℕ)) → answered answers [] ≡ []
answered_none [] = refl
answered_none (a ∷ answers) = refl

pub all_answered : (put : List specs.ItemAt) (answers left : List (List ℕ)) (items : List ItemAt) (n : ℕ) → length items ≤ n → put ++ answered left (all_items (drop n items)) ≡ answered answers (all_items items) → put ≡ answered answers (all_items items)
all_answered put answers left items n past so_far =
    sym (append-nil put) ∙ ap (λ xs. put ++ xs) (sym (ap (λ xs. answered left (all_items xs)) (drop_all n items past) ∙ answered_none left)) ∙ so_far

-- ---- one item more

over : (b : Bool) (d : Data) (o : Option Data) → option_or (option_or None (if b then Some d else None)) o ≡ (if b then Some d else o)
over true d o = refl
over false d o = refl

one_put : (items : List specs.ItemAt) (i : specs.ItemAt) (path : List ℕ) → put_at (items ++ i ∷ []) path ≡ (if bytes_eq path i.0 then Some i.1 else put_at items path)
one_put items i path =
    ap last_of (map-append (item_if path) items (i ∷ [])) ∙ last_of-append (map (item_if path) items) (item_if path i ∷ []) ∙ over (bytes_eq path i.0) i.1 (put_at items path)

-- the tree of a reference
abbrev pub tree : Bor Value → Data
tree v = view v.now

tree_cond : (b : Bool) (v : Bor Value) (o : Option (Bor Value)) → option_map tree (cond b (Some v) o) ≡ (if b then Some (tree v) else option_map tree o)
tree_cond true v o = refl
tree_cond false v o = refl

items_more : (items : List ItemAt) (n : ℕ) (x : ItemAt) → n < length items → x ≡ get_or items n x → all_items (take (n + 1) items) ≡ all_items (take n items) ++ item_of x ∷ []
items_more items n x within is = ap all_items (take_more items n x within ∙ ap (λ y. take n items ++ y ∷ []) (sym is)) ∙ map-append item_of (take n items) (x ∷ [])

-- what stands at a path once the next item was put
pub next_put : (m after : BTreeMap (String Global) (Bor Value)) (k : String Global) (items : List ItemAt) (n : ℕ) (x : ItemAt) → n < length items → x ≡ get_or items n x → string_bytes k ≡ x.path.now
    → after.entries ≡ insert_entry string_cmp m.entries k x.item
    → ((path : List ℕ) → option_map tree (get_by_text m path) ≡ put_at (all_items (take n items)) path)
    → (path : List ℕ) → option_map tree (get_by_text after path) ≡ put_at (all_items (take (n + 1) items)) path
next_put m after k items n x within is named put so_far path =
    ap (option_map tree) (ap (λ es. found es path) put ∙ found-insert_entry m.entries k x.item path) ∙ tree_cond (bytes_eq path (string_bytes k)) x.item (get_by_text m path)
    ∙ ap (λ o. if bytes_eq path (string_bytes k) then Some (tree x.item) else o) (so_far path)
    ∙ ap (λ l. if bytes_eq path l then Some (tree x.item) else put_at (all_items (take n items)) path) named
    ∙ sym (one_put (all_items (take n items)) (item_of x) path) ∙ ap (λ is. put_at is path) (sym (items_more items n x within is))

-- ---- what is put, in place of the look-ups

pub covered_by : (look : List ℕ → Option Data) (put : List specs.ItemAt) (j : ℕ) (items : List specs.ItemAt) → ((path : List ℕ) → look path ≡ put_at put path)
    → flat_map (λ i. unless_same (place_of_item i.0) 1 j i.1 (look i.0)) items ≡ covered put j items
covered_by look put j [] same = refl
covered_by look put j (i ∷ items) same =
    ap (λ o. unless_same (place_of_item i.0) 1 j i.1 o ++ flat_map (λ k. unless_same (place_of_item k.0) 1 j k.1 (look k.0)) items) (same i.0)
    ∙ ap (λ cs. unless_same (place_of_item i.0) 1 j i.1 (put_at put i.0) ++ cs) (covered_by look put j items same)

-- all that is dropped
pub nested_listed : (c0 c1 c2 c3 : List Conflict) (look : List ℕ → Option Data) (own_items put : List specs.ItemAt) (ss : List Filled) (answers : List (List ℕ)) (own nested : Data) → c0 ≡ []
    → c1 ≡ c0 ++ flat_map (λ i. unless_same (place_of_item i.0) 1 0 i.1 (look i.0)) own_items
    → c2 ≡ c1 ++ flat_map (λ i. unless_same (place_of_item i.0) 1 1 i.1 (look i.0)) put
    → c3 ≡ c2 ++ flat_map (λ s. if own_decides s.0 own then dropped_by 1 s (Some (0, own)) else []) ss
    → own_items ≡ path_items own → put ≡ answered answers (path_items nested) → ((path : List ℕ) → look path ≡ put_at put path) → ss ≡ slots nested → c3 ≡ nested_conflicts answers own nested
nested_listed c0 c1 c2 c3 look own_items put ss answers own nested e0 e1 e2 e3 is_own is_put same is_slots =
    let first = flat_map (λ i. unless_same (place_of_item i.0) 1 0 i.1 (look i.0)) own_items in
    let second = flat_map (λ i. unless_same (place_of_item i.0) 1 1 i.1 (look i.0)) put in
    let more = flat_map (λ s. if own_decides s.0 own then dropped_by 1 s (Some (0, own)) else []) ss in
    let all = answered answers (path_items nested) in
    let of_own : first ≡ covered all 0 (path_items own) = covered_by look put 0 own_items same ∙ ap (λ p. covered p 0 own_items) is_put ∙ ap (covered all 0) is_own in
    let of_put : second ≡ covered all 1 all = covered_by look put 1 put same ∙ ap (λ p. covered p 1 p) is_put in
    let of_rest : more ≡ rest_dropped own nested = ap (flat_map (λ s. if own_decides s.0 own then dropped_by 1 s (Some (0, own)) else [])) is_slots in
    e3 ∙ ap (λ cs. cs ++ more) (e2 ∙ ap (λ cs. cs ++ second) (e1 ∙ ap (λ cs. cs ++ first) e0)) ∙ append_assoc first second more ∙ ap (λ cs. cs ++ (second ++ more)) of_own
    ∙ ap (λ cs. covered all 0 (path_items own) ++ cs) (ap (λ cs. cs ++ more) of_put ∙ ap (λ cs. covered all 1 all ++ cs) of_rest)
