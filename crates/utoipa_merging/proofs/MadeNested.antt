-- A document can be nested into another: the paths with the nested items are made, and then the two documents are merged.
use Rattle.std.proofs.Common.{◌≡◌, ℕ, List, [], ◌∷◌, ◌++◌, Bool, true, false, cond, Option, Some, None, IfSome, map, length, refl, sym, ap, ◌∙◌, subst, codes, if◌then◌else◌}
use Rattle.std.specs.List.{AllByRecursion}
use Rattle.std.specs.Map.{keys_of}
use Rattle.std.specs.Option.{option_or}
use Rattle.std.specs.Str.{bytes_eq}
use Rattle.std.proofs.lemmas.Map.Text.{is_eq-slice_cmp}
use Rattle.serde_json.specs.Data.{Members}
use Rattle.utoipa_base.specs.Kinds.{named, open_api_object, path_item_object, Row}
use Rattle.utoipa_base.specs.Docs.{Doc, Docs, doc, Entries, no_entries, entry, entries_doc, entries_of_list, table_doc}
use Rattle.utoipa_base.specs.OfKind.{extends_of_kind}
use Rattle.utoipa_base.specs.Tables.{table, paths}
use Rattle.utoipa_base.specs.Shape.{value_of, field_place, IsOf, EntriesOf, RowsOf}
use Rattle.utoipa_merging.specs.Rules.{last_of}
use Rattle.utoipa_merging.specs.Slots.{entries_in, entry_at, extensions_in, paths_of, pairs_in}
use Rattle.utoipa_merging.specs.Merged.{IsOpenApi, IsInKeyOrder}
use Rattle.utoipa_merging.specs.Nested.{with_field, with_paths, answered, item_if, mounted_at, IsNested}
use Rattle.utoipa_merging.proofs.Determined.{IsItem}
use Rattle.utoipa_merging.proofs.Gathered.{AreGathered, gathered, is_named, not_named, none_found}
use Rattle.utoipa_merging.proofs.InOrder.{find_in, all_found}
use Rattle.utoipa_merging.proofs.MadePaths.{object_field, finds_items, paths_fit}
use Rattle.utoipa_merging.proofs.MadeDocuments.{IsMade, made_of_two}
use Rattle.utoipa_merging.proofs.MapViews.{pairs_in-entries_of_list}
use Rattle.utoipa_merging.proofs.Shapes.{table_shape, object_shape, first_fits, rest_fit}

-- ---- the answers

-- each answered item is an item
answered_items : (answers : List (List ℕ)) (nested : List (List ℕ × Doc)) → AllByRecursion (λ e. IsItem e.1) nested → AllByRecursion (λ e. IsItem e.1) (answered answers nested)
answered_items [] nested h = tt
answered_items (a ∷ answers) [] h = tt
answered_items (a ∷ answers) (p ∷ nested) h = (h.0, answered_items answers nested h.1)

-- the last that is answered with a path is an item
item_fits : (path : List ℕ) (es : List (List ℕ × Doc)) → AllByRecursion (λ e. IsItem e.1) es → IfSome (last_of (map (item_if path) es)) IsItem
item_fits path [] h = tt
item_fits path (e ∷ es) h = go (bytes_eq path e.0) (last_of (map (item_if path) es)) (item_fits path es h.1)
  where
    go : (b : Bool) (o : Option Doc) → IfSome o IsItem → IfSome (option_or o (if b then Some e.1 else None)) IsItem
    go true None g = h.0
    go false None g = tt
    go b (Some i) g = g

-- a name that is no answer has no nested item
not_answered : (path : List ℕ) (answers : List (List ℕ)) (nested : List (List ℕ × Doc)) → is_named path answers ≡ false → last_of (map (item_if path) (answered answers nested)) ≡ None
not_answered path [] nested h = refl
not_answered path (a ∷ answers) [] h = refl
not_answered path (a ∷ answers) (p ∷ nested) h =
    go (bytes_eq path a) (subst (λ b. cond b true (is_named path answers) ≡ false) (is_eq-slice_cmp path a) h) (not_answered path answers nested)
  where
    go : (b : Bool) → cond b true (is_named path answers) ≡ false → (is_named path answers ≡ false → last_of (map (item_if path) (answered answers nested)) ≡ None)
        → option_or (last_of (map (item_if path) (answered answers nested))) (if b then Some p.1 else None) ≡ None
    go true e later = cc
    go false e later = ap (λ o. option_or o None) (later e)

either : (o p : Option Doc) → IfSome o IsItem → IfSome p IsItem → IfSome (option_or o p) IsItem
either None p h g = g
either (Some i) p h g = h

-- ---- a document with other paths

next_fits : (r : Row) (rs : List Row) (d : Doc) (ds : Docs) → IsOf d (field_place r.mark r.kind) → RowsOf ds rs → RowsOf (doc d ds) (r ∷ rs)
unfolding RowsOf
next_fits r rs d ds h g = (h, g)

rows_with : (ds : Docs) (p : Doc) → RowsOf ds (table open_api_object) → IsOf p (value_of paths) → RowsOf (with_field (codes "paths") p (table open_api_object) ds) (table open_api_object)
rows_with ds p h0 is =
    let h1 = rest_fit _ _ _ h0 in
    let h2 = rest_fit _ _ _ h1 in
    let h3 = rest_fit _ _ _ h2 in
    let h4 = rest_fit _ _ _ h3 in
    let h5 = rest_fit _ _ _ h4 in
    let h6 = rest_fit _ _ _ h5 in
    let h7 = rest_fit _ _ _ h6 in
    next_fits _ _ _ _ (first_fits _ _ _ h0)
    (next_fits _ _ _ _ (first_fits _ _ _ h1)
    (next_fits _ _ _ _ (first_fits _ _ _ h2)
    (next_fits _ _ _ _ (first_fits _ _ _ h3)
    (next_fits _ _ _ _ (first_fits _ _ _ h4)
    (next_fits _ _ _ _ (first_fits _ _ _ h5) (next_fits _ _ _ _ (first_fits _ _ _ h6) (next_fits _ _ _ _ is (rest_fit _ _ _ h7))))))))

table_fits : (ds : Docs) (e : Option Members) → RowsOf ds (table open_api_object) → IsOpenApi (table_doc open_api_object ds e)
unfolding IsOf
table_fits ds e h = (refl, h, extends_of_kind e)

paths_put : (es : List (List ℕ × Doc)) (e : Option Members) (d : Doc) → IsOpenApi d → AllByRecursion (λ e. IsItem e.1) es → IsOpenApi (with_paths (entries_of_list es) e d)
paths_put es e d h each =
    let t = table_shape open_api_object d h in
    subst (λ d. IsOpenApi (with_paths (entries_of_list es) e d)) (sym t.is)
    (table_fits (with_field (codes "paths") (entries_doc (entries_of_list es) e) (table open_api_object) t.fields) t.extensions (rows_with t.fields (entries_doc (entries_of_list es) e) t.rows (paths_fit es e each)))

-- ---- a document nested into another

-- a document with the other nested into it, with its maps in the order of their keys
pub record IsMadeNested (answers : List (List ℕ)) (own other : Doc) : Type 0 where
  pub made : Doc
  pub nested : IsNested answers own other made
  pub order : IsInKeyOrder made

entries_all : (es : Entries) → EntriesOf es (value_of (named path_item_object)) → AllByRecursion (λ e. IsItem e.1) (pairs_in es)
unfolding EntriesOf
entries_all no_entries h = tt
entries_all (entry name d es) h = (h.0, entries_all es h.1)

items_of : (p : Doc) → IsOf p (value_of paths) → AllByRecursion (λ e. IsItem e.1) (entries_in p)
items_of p h = let a = object_shape (named path_item_object) p h in subst (λ x. AllByRecursion (λ e. IsItem e.1) (entries_in x)) (sym a.is) (entries_all a.entries a.each)

-- after the nested items were put, an item stands at a path or nothing
mounted_items : (answers : List (List ℕ)) (own other : Doc) → IsOpenApi own → IsOpenApi other → (path : List ℕ) → IfSome (mounted_at answers other own path) IsItem
mounted_items answers own other h g path =
    either (last_of (map (item_if path) (answered answers (entries_in (paths_of other))))) (entry_at path (paths_of own))
    (item_fits path (answered answers (entries_in (paths_of other))) (answered_items answers (entries_in (paths_of other)) (items_of (paths_of other) (object_field open_api_object other (codes "paths") _ g refl))))
    (finds_items (paths_of own) (object_field open_api_object own (codes "paths") _ h refl) path)

items_mounted : (answers : List (List ℕ)) (own other : Doc) → AreGathered (mounted_at answers other own)
items_mounted answers own other =
    gathered (mounted_at answers other own) (answers ++ keys_of (entries_in (paths_of own)))
    (λ path unnamed.
    let n = not_named path answers (keys_of (entries_in (paths_of own))) unnamed in
    ap (λ o. option_or o (entry_at path (paths_of own))) (not_answered path answers (entries_in (paths_of other)) n.0) ∙ none_found (entries_in (paths_of own)) path n.1)

nested_of_items : (answers : List (List ℕ)) (own other : Doc) → length answers ≡ length (entries_in (paths_of other)) → (items : AreGathered (mounted_at answers other own))
    → IsMade (with_paths (entries_of_list items.entries) (extensions_in (paths_of own)) own ∷ with_paths no_entries None other ∷ []) → IsMadeNested answers own other
nested_of_items answers own other each_answered items whole = record {
  made = whole.made;
  nested = record {
    items = entries_of_list items.entries;
    each_answered = each_answered;
    mounted = λ path. ap (λ es. find_in es path) (pairs_in-entries_of_list items.entries) ∙ items.found path;
    merged = whole.merged;
  };
  order = whole.order;
}

pub made_nested : (answers : List (List ℕ)) (own other : Doc) → length answers ≡ length (entries_in (paths_of other)) → IsOpenApi own → IsOpenApi other → IsMadeNested answers own other
made_nested answers own other each_answered h g =
    let items = items_mounted answers own other in
    nested_of_items answers own other each_answered items
    (made_of_two (with_paths (entries_of_list items.entries) (extensions_in (paths_of own)) own) (with_paths no_entries None other)
    (paths_put items.entries (extensions_in (paths_of own)) own h
    (all_found (λ path i. IsItem i) items.entries items.ascend (λ path. subst (λ o. IfSome o IsItem) (sym (items.found path)) (mounted_items answers own other h g path))))
    (paths_put [] None other g tt))
