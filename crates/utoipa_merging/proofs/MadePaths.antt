-- Two path items and the paths of two documents are merged: here what they are merged to is made.
use Rattle.std.proofs.Common.{◌≡◌, ℕ, List, [], ◌∷◌, Option, Some, None, IfSome, option_and_then, refl, sym, ap, ◌∙◌, subst, codes}
use Rattle.std.specs.List.{AllByRecursion}
use Rattle.std.specs.Option.{option_or}
use Rattle.std.specs.Map.{keys_of}
use Rattle.serde_json.specs.Data.{Members}
use Rattle.utoipa_base.specs.Kinds.{ObjectType, named, path_item_object, operation_object, defaulted, map_of, Row}
use Rattle.utoipa_base.specs.Docs.{Doc, no_docs, doc, option_doc, entries_doc, table_doc, entries_of_list}
use Rattle.utoipa_base.specs.OfKind.{no_rows, next_row, table_of_kind, extends_of_kind}
use Rattle.utoipa_base.specs.Tables.{table, paths}
use Rattle.utoipa_base.specs.Shape.{value_of, option_of, field_place, IsOf}
use Rattle.utoipa_merging.specs.Rules.{first_of}
use Rattle.utoipa_merging.specs.Slots.{held, field_at, extensions_in, entries_in, entry_at, Method, get_method, put_method, post_method, delete_method, options_method, head_method, patch_method, trace_method, query_method, method_member, ItemSlot, base, operation, additional, item_slot}
use Rattle.utoipa_merging.specs.Merged.{IsInOrder, ArePathsInOrder, ArePathsMerged}
use Rattle.utoipa_merging.proofs.Determined.{IsItem, AdditionalInOrder, found_is_of}
use Rattle.utoipa_merging.proofs.Gathered.{AreGathered, gathered, not_named, none_found}
use Rattle.utoipa_merging.proofs.InOrder.{find_in, all_found}
use Rattle.utoipa_merging.proofs.MadeParts.{first_fits, held_fits, option_fits, held-option_doc, IsMadeMap, made_map, map_finds, entries_fit, names_of, AreMadeExtensions, made_extensions}
use Rattle.utoipa_merging.proofs.MapViews.{pairs_in-entries_of_list}
use Rattle.utoipa_merging.proofs.Options.{or_none, or_itself}
use Rattle.utoipa_merging.proofs.Shapes.{table_shape, object_shape, row_at, field_fits}

-- the field of an object is of its row's kind
pub object_field : (n : ObjectType) (d : Doc) (name : List ℕ) (q : Row) → IsOf d (value_of (named n)) → row_at name (table n) ≡ Some q → IsOf (field_at name d) (field_place q.mark q.kind)
object_field n d name q h is = let t = table_shape n d h in subst (λ x. IsOf (field_at name x) (field_place q.mark q.kind)) (sym t.is) (field_fits name (table n) t.fields q t.rows is)

-- ---- path items

-- the operation of the first item that has one
first_operation : Doc → Doc → Method → Doc
first_operation i j m = option_doc (first_of (held (field_at (method_member m) i) ∷ held (field_at (method_member m) j) ∷ []))

operation_fits : (i j : Doc) (m : Method) → IsOf (field_at (method_member m) i) (option_of (named operation_object)) → IsOf (field_at (method_member m) j) (option_of (named operation_object))
    → IsOf (first_operation i j m) (option_of (named operation_object))
unfolding first_operation
operation_fits i j m h g =
    option_fits (named operation_object) _ (first_fits (λ x. IsOf x (value_of (named operation_object))) (held (field_at (method_member m) i)) (held (field_at (method_member m) j)) (held_fits _ _ h) (held_fits _ _ g))

held_operation : (i j : Doc) (m : Method) → held (first_operation i j m) ≡ first_of (held (field_at (method_member m) i) ∷ held (field_at (method_member m) j) ∷ [])
unfolding first_operation
held_operation i j m = held-option_doc _

-- the first item with these additional operations, and with the second's operations where it has none
item_of : Doc → Doc → Doc → Doc
item_of i j more =
    table_doc path_item_object
    (doc (field_at (codes "$ref") i)
    (doc more
    (doc (first_operation i j delete_method)
    (doc (field_at (codes "description") i)
    (doc (first_operation i j get_method)
    (doc (first_operation i j head_method)
    (doc (first_operation i j options_method)
    (doc (field_at (codes "parameters") i)
    (doc (first_operation i j patch_method)
    (doc (first_operation i j post_method)
    (doc (first_operation i j put_method)
    (doc (first_operation i j query_method)
    (doc (field_at (codes "servers") i)
    (doc (field_at (codes "summary") i)
    (doc (first_operation i j trace_method) no_docs)))))))))))))))
    (extensions_in i)

item_fits : (i j more : Doc) → IsItem i → IsItem j → IsOf more (field_place defaulted (map_of (named operation_object))) → IsItem (item_of i j more)
unfolding item_of
item_fits i j more h g fits =
    table_of_kind path_item_object (extensions_in i)
    (next_row (object_field path_item_object i (codes "$ref") _ h refl)
    (next_row fits
    (next_row (operation_fits i j delete_method (object_field path_item_object i (codes "delete") _ h refl) (object_field path_item_object j (codes "delete") _ g refl))
    (next_row (object_field path_item_object i (codes "description") _ h refl)
    (next_row (operation_fits i j get_method (object_field path_item_object i (codes "get") _ h refl) (object_field path_item_object j (codes "get") _ g refl))
    (next_row (operation_fits i j head_method (object_field path_item_object i (codes "head") _ h refl) (object_field path_item_object j (codes "head") _ g refl))
    (next_row (operation_fits i j options_method (object_field path_item_object i (codes "options") _ h refl) (object_field path_item_object j (codes "options") _ g refl))
    (next_row (object_field path_item_object i (codes "parameters") _ h refl)
    (next_row (operation_fits i j patch_method (object_field path_item_object i (codes "patch") _ h refl) (object_field path_item_object j (codes "patch") _ g refl))
    (next_row (operation_fits i j post_method (object_field path_item_object i (codes "post") _ h refl) (object_field path_item_object j (codes "post") _ g refl))
    (next_row (operation_fits i j put_method (object_field path_item_object i (codes "put") _ h refl) (object_field path_item_object j (codes "put") _ g refl))
    (next_row (operation_fits i j query_method (object_field path_item_object i (codes "query") _ h refl) (object_field path_item_object j (codes "query") _ g refl))
    (next_row (object_field path_item_object i (codes "servers") _ h refl)
    (next_row (object_field path_item_object i (codes "summary") _ h refl)
    (next_row (operation_fits i j trace_method (object_field path_item_object i (codes "trace") _ h refl) (object_field path_item_object j (codes "trace") _ g refl)) no_rows)))))))))))))))
    (extends_of_kind (extensions_in i))

operation_slot : (i j more : Doc) (m : Method) → held (field_at (method_member m) (item_of i j more)) ≡ first_of (held (field_at (method_member m) i) ∷ held (field_at (method_member m) j) ∷ [])
unfolding item_of
operation_slot i j more get_method = held_operation i j get_method
operation_slot i j more put_method = held_operation i j put_method
operation_slot i j more post_method = held_operation i j post_method
operation_slot i j more delete_method = held_operation i j delete_method
operation_slot i j more options_method = held_operation i j options_method
operation_slot i j more head_method = held_operation i j head_method
operation_slot i j more patch_method = held_operation i j patch_method
operation_slot i j more trace_method = held_operation i j trace_method
operation_slot i j more query_method = held_operation i j query_method

-- what two items are merged to
record IsMadeItem (i j : Doc) : Type 0 where
  pub item : Doc
  pub of_kind : IsItem item
  pub order : AdditionalInOrder item
  pub slots : (s : ItemSlot) → item_slot s item ≡ first_of (item_slot s i ∷ item_slot s j ∷ [])

more_stands : (i j more : Doc) → field_at (codes "additionalOperations") (item_of i j more) ≡ more
unfolding item_of
more_stands i j more = refl

base_stands : (i j more : Doc) → item_slot base (item_of i j more) ≡ item_slot base i
unfolding item_of
base_stands i j more = refl

abbrev additional_of : Doc → Doc
additional_of i = field_at (codes "additionalOperations") i

item_slots : (i j : Doc) (more : IsMadeMap (named operation_object) (additional_of i) (additional_of j)) (s : ItemSlot)
    → item_slot s (item_of i j more.made) ≡ first_of (item_slot s i ∷ item_slot s j ∷ [])
item_slots i j more base = base_stands i j more.made
item_slots i j more (operation m) = operation_slot i j more.made m
item_slots i j more (additional name) = ap (entry_at name) (more_stands i j more.made) ∙ more.found name

made_item : (i j : Doc) → IsItem i → IsItem j → IsMadeItem i j
made_item i j h g =
    let more =
    made_map (named operation_object) (additional_of i) (additional_of j) (map_finds _ _ (object_field path_item_object i (codes "additionalOperations") _ h refl))
    (map_finds _ _ (object_field path_item_object j (codes "additionalOperations") _ g refl)) in
    record {
      item = item_of i j more.made;
      of_kind = item_fits i j more.made h g more.of_kind;
      order = subst IsInOrder (sym (more_stands i j more.made)) more.order;
      slots = item_slots i j more;
    }

-- ---- items that may be absent

record IsMadeOption (o p : Option Doc) : Type 0 where
  pub item : Option Doc
  pub of_kind : IfSome item IsItem
  pub order : IfSome item AdditionalInOrder
  pub slots : (s : ItemSlot) → option_and_then (item_slot s) item ≡ first_of (option_and_then (item_slot s) o ∷ option_and_then (item_slot s) p ∷ [])

-- the first of two that are the same
twice : {A : Type 0} (o : Option A) → first_of (o ∷ o ∷ []) ≡ o
twice o = ap (option_or o) (or_none o) ∙ or_itself o

made_option : (o p : Option Doc) → IfSome o IsItem → IfSome p IsItem → IsMadeOption o p
made_option None None h g = record { item = None; of_kind = tt; order = tt; slots = λ s. refl }
made_option None (Some j) h g =
    let m = made_item j j g g in
    record { item = Some m.item; of_kind = m.of_kind; order = m.order; slots = λ s. m.slots s ∙ twice (item_slot s j) ∙ sym (or_none (item_slot s j)) }
made_option (Some i) None h g =
    let m = made_item i i h h in
    record { item = Some m.item; of_kind = m.of_kind; order = m.order; slots = λ s. m.slots s ∙ twice (item_slot s i) ∙ sym (or_none (item_slot s i)) }
made_option (Some i) (Some j) h g =
    let m = made_item i j h g in
    record { item = Some m.item; of_kind = m.of_kind; order = m.order; slots = m.slots }

-- without slots there is no item
none_by_base : (o : Option Doc) → option_and_then (item_slot base) o ≡ None → o ≡ None
none_by_base None e = refl
none_by_base (Some i) e = cc

-- no items are merged to none
made_none : (o p : Option Doc) (m : IsMadeOption o p) → o ≡ None → p ≡ None → m.item ≡ None
made_none o p m e f =
    none_by_base m.item
    (m.slots base
    ∙ ap (λ o. first_of (option_and_then (item_slot base) o ∷ option_and_then (item_slot base) p ∷ [])) e
    ∙ ap (λ p. first_of (None ∷ option_and_then (item_slot base) p ∷ [])) f)

-- ---- paths

-- what is found at a path is an item
pub finds_items : (p : Doc) → IsOf p (value_of paths) → (path : List ℕ) → IfSome (entry_at path p) IsItem
finds_items p h path =
    let a = object_shape (named path_item_object) p h in
    subst (λ x. IfSome (entry_at path x) IsItem) (sym a.is) (found_is_of (value_of (named path_item_object)) a.entries path a.each)

-- items by their paths are paths
pub paths_fit : (es : List (List ℕ × Doc)) (e : Option Members) → AllByRecursion (λ e. IsItem e.1) es → IsOf (entries_doc (entries_of_list es) e) (value_of paths)
unfolding IsOf
paths_fit es e each = (named path_item_object, refl, entries_fit (value_of (named path_item_object)) es each)

-- what two documents' paths are merged to
pub record AreMadePaths (p q : Doc) : Type 0 where
  pub made : Doc
  pub of_kind : IsOf made (value_of paths)
  pub order : ArePathsInOrder made
  pub merged : ArePathsMerged (p ∷ q ∷ []) made

-- the items at a path, merged
abbrev AreMadeItems : Doc → Doc → Type 0
AreMadeItems p q = (path : List ℕ) → IsMadeOption (entry_at path p) (entry_at path q)

items_by_path : (p q : Doc) (at : AreMadeItems p q) → AreGathered (λ path. (at path).item)
items_by_path p q at =
    gathered (λ path. (at path).item) (names_of p q)
    (λ path unnamed.
    let n = not_named path (keys_of (entries_in p)) (keys_of (entries_in q)) unnamed in
    made_none (entry_at path p) (entry_at path q) (at path) (none_found (entries_in p) path n.0) (none_found (entries_in q) path n.1))

paths_of_items : (p q : Doc) (at : AreMadeItems p q) → AreGathered (λ path. (at path).item) → AreMadeExtensions (extensions_in p) (extensions_in q) → AreMadePaths p q
paths_of_items p q at items extensions = record {
  made = entries_doc (entries_of_list items.entries) extensions.made;
  of_kind =
      paths_fit items.entries extensions.made
      (all_found (λ path i. IsItem i) items.entries items.ascend (λ path. subst (λ o. IfSome o IsItem) (sym (items.found path)) (at path).of_kind));
  order = record {
    entries = rw (pairs_in-entries_of_list items.entries) items.ascend;
    extensions = extensions.order;
    operations = λ path. subst (λ o. IfSome o AdditionalInOrder) (sym (stands path)) (at path).order;
  };
  merged = record {
    items = λ path s. ap (option_and_then (item_slot s)) (stands path) ∙ (at path).slots s;
    extended = extensions.there;
    extensions = extensions.found;
  };
}
  where
    stands : (path : List ℕ) → entry_at path (entries_doc (entries_of_list items.entries) extensions.made) ≡ (at path).item
    stands path = ap (λ es. find_in es path) (pairs_in-entries_of_list items.entries) ∙ items.found path

pub made_paths : (p q : Doc) → IsOf p (value_of paths) → IsOf q (value_of paths) → AreMadePaths p q
made_paths p q h g =
    let at = λ (path : List ℕ). made_option (entry_at path p) (entry_at path q) (finds_items p h path) (finds_items q g path) in
    paths_of_items p q at (items_by_path p q at) (made_extensions (extensions_in p) (extensions_in q))
