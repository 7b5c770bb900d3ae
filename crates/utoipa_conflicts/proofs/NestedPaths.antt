-- What stands at a path of what comes of nesting.
use Rattle.std.proofs.Common.{◌≡◌, ℕ, List, [], ◌∷◌, ◌++◌, Bool, true, false, if◌then◌else◌, Option, None, Some, IfSome, map, option_map, option_and_then, refl, sym, ap, ◌∙◌, subst, Ordering, Less, Equal, Greater, nat_cmp, codes}
use Rattle.std.proofs.lemmas.List.Elements.{recursion_from_All}
use Rattle.std.proofs.lemmas.Option.{none-some}
use Rattle.std.specs.Cmp.Lexicographic.{slice_cmp}
use Rattle.std.specs.List.{AllByRecursion}
use Rattle.std.specs.Option.{option_or}
use Rattle.std.specs.Ordering.{match_ordering}
use Rattle.std.specs.Str.{bytes_eq}
use Rattle.serde_json.specs.Data.{Data, Members, no_members, member}
use Rattle.utoipa_base.specs.Docs.{Doc, Entries, no_entries, entry}
use Rattle.utoipa_base.specs.Extensions.{is_extension, all_extensions, members_or_none}
use Rattle.utoipa_base.specs.Kinds.{named, open_api_object, path_item_object}
use Rattle.utoipa_base.specs.Shape.{IsOf, value_of}
use Rattle.utoipa_base.specs.WellFormed.{names_no_extension}
use Rattle.utoipa_base.specs.Writing.{write, write_entries, merge_member, merge_members}
use Rattle.utoipa_base.proofs.BoolFacts.{and_first, and_second, not_true}
use Rattle.utoipa_base.specs.EachMember.{each_member}
use Rattle.utoipa_check.specs.Places.{members_at}
use Rattle.utoipa_merging.specs.Merged.{IsInOrder, IsInKeyOrder}
use Rattle.utoipa_merging.specs.Nested as nesting
use Rattle.utoipa_merging.specs.Nested.{mounted_at}
use Rattle.utoipa_merging.specs.Rules.{last_of}
use Rattle.utoipa_merging.specs.Slots.{field_at, pairs_in, entries_in, entry_at, ItemSlot, base, item_slot, paths_of}
use Rattle.utoipa_merging.proofs.Determined.{found_is_of, same_items}
use Rattle.utoipa_merging.proofs.InOrder.{all_found}
use Rattle.utoipa_merging.proofs.Nesting.{nested_items}
use Rattle.utoipa_merging.proofs.UnambiguousMerged.{nested_unambiguous}
use Rattle.utoipa_conflicts.specs.Conflicts.{place_of_item}
use Rattle.utoipa_conflicts.specs.Nested.{ItemAt, item_unless_extension, items_in, path_items, answered, put_at}
use Rattle.utoipa_conflicts.specs.NestedInto.{IsNoExtension, AreNestedInto}
use Rattle.utoipa_conflicts.specs.Trees.{at_place}
use Rattle.utoipa_conflicts.proofs.Written.{IsTable, clear_table}
use Rattle.utoipa_conflicts.proofs.WrittenSlots.{paths_shape, under_paths, path_written}

-- ---- the items of a written document

-- an entry as it is written
abbrev pub pair_written : List ℕ × Doc → ItemAt
pair_written p = (p.0, write p.1)

no_items : (ms : Members) → all_extensions ms ≡ true → each_member item_unless_extension ms ≡ []
no_items no_members x = refl
no_items (member k d ms) x =
    ap (λ b. (if b then [] else (k, d) ∷ []) ++ each_member item_unless_extension ms) (and_first (is_extension k) (all_extensions ms) x) ∙ no_items ms (and_second (is_extension k) (all_extensions ms) x)

-- an item that is put among extensions comes first
first_item : (k : List ℕ) (d : Data) (ns : Members) (own : List ItemAt) → is_extension k ≡ false → each_member item_unless_extension ns ≡ own → each_member item_unless_extension (member k d ns) ≡ (k, d) ∷ own
first_item k d ns own plain is =
    ap (λ b. (if b then [] else (k, d) ∷ []) ++ each_member item_unless_extension ns) plain ∙ ap (λ is. (k, d) ∷ is) is

items_put : (k : List ℕ) (d : Data) (rest : Members → Members) (own : List ItemAt) → is_extension k ≡ false
    → ((ns : Members) → all_extensions ns ≡ true → each_member item_unless_extension (rest ns) ≡ own) → (ms : Members) → all_extensions ms ≡ true
    → each_member item_unless_extension (merge_member k d rest ms) ≡ (k, d) ∷ own
items_put k d rest own plain each no_members x = first_item k d (rest no_members) own plain (each no_members refl)
items_put k d rest own plain each (member l e ms) x = go (slice_cmp nat_cmp k l) (items_put k d rest own plain each ms (and_second (is_extension l) (all_extensions ms) x))
  where
    go : (o : Ordering) → each_member item_unless_extension (merge_member k d rest ms) ≡ (k, d) ∷ own
        → each_member item_unless_extension (match_ordering o (member k d (rest (member l e ms))) (member k d (rest ms)) (member l e (merge_member k d rest ms))) ≡ (k, d) ∷ own
    go Less later = first_item k d (rest (member l e ms)) own plain (each (member l e ms) x)
    go Equal later = first_item k d (rest ms) own plain (each ms (and_second (is_extension l) (all_extensions ms) x))
    go Greater later =
        ap (λ b. (if b then [] else (l, e) ∷ []) ++ each_member item_unless_extension (merge_member k d rest ms)) (and_first (is_extension l) (all_extensions ms) x) ∙ later

items_beside : (es : Entries) (ms : Members) → names_no_extension es ≡ true → all_extensions ms ≡ true → each_member item_unless_extension (merge_members (write_entries es) ms) ≡ map pair_written (pairs_in es)
unfolding write_entries
items_beside no_entries ms n x = no_items ms x
items_beside (entry k d es) ms n x =
    items_put k (write d) (merge_members (write_entries es)) (map pair_written (pairs_in es)) (not_true (is_extension k) (and_first _ _ n)) (λ ns y. items_beside es ns (and_second _ _ n) y) ms x

pub items_written : (d : Doc) → IsTable open_api_object d → path_items (write d) ≡ map pair_written (entries_in (paths_of d))
unfolding write
items_written d t =
    let p = paths_shape d t in
    ap items_in (under_paths d t)
    ∙ subst (λ x. each_member item_unless_extension (members_at (write x)) ≡ map pair_written (entries_in x)) (sym p.is) (items_beside p.entries (members_or_none p.extensions) p.plain p.extended)

-- ---- items at the answers to their paths

answered_written : (answers : List (List ℕ)) (ps : List (List ℕ × Doc)) → answered answers (map pair_written ps) ≡ map pair_written (nesting.answered answers ps)
answered_written [] ps = refl
answered_written (a ∷ answers) [] = refl
answered_written (a ∷ answers) (p ∷ ps) = ap (λ is. (a, write p.1) ∷ is) (answered_written answers ps)

if_written : (b : Bool) (d : Doc) (o : Option Doc) → option_or (option_map write o) (if b then Some (write d) else None) ≡ option_map write (option_or o (if b then Some d else None))
if_written true d None = refl
if_written false d None = refl
if_written b d (Some x) = refl

put_written : (path : List ℕ) (ps : List (List ℕ × Doc)) → put_at (map pair_written ps) path ≡ option_map write (last_of (map (nesting.item_if path) ps))
put_written path [] = refl
put_written path (p ∷ ps) = ap (λ o. option_or o (if bytes_eq path p.0 then Some (write p.1) else None)) (put_written path ps) ∙ if_written (bytes_eq path p.0) p.1 (last_of (map (nesting.item_if path) ps))

pub put_as_mounted : (answers : List (List ℕ)) (d : Doc) (path : List ℕ) → IsTable open_api_object d
    → put_at (answered answers (path_items (write d))) path ≡ option_map write (last_of (map (nesting.item_if path) (nesting.answered answers (entries_in (paths_of d)))))
put_as_mounted answers d path t =
    ap (λ is. put_at (answered answers is) path) (items_written d t) ∙ ap (λ is. put_at is path) (answered_written answers (entries_in (paths_of d)))
    ∙ put_written path (nesting.answered answers (entries_in (paths_of d)))

-- ---- items that are in order

-- a path item, its additional operations in the order of their names
abbrev IsItem : Doc → Type 0
IsItem i = IsOf i (value_of (named path_item_object)) × IsInOrder (field_at (codes "additionalOperations") i)

both_of : (P Q : Doc → Type 0) (o : Option Doc) → IfSome o P → IfSome o Q → IfSome o (λ x. P x × Q x)
both_of P Q None h g = tt
both_of P Q (Some x) h g = (h, g)

item_there : (path : List ℕ) (d : Doc) → IsTable open_api_object d → IsInKeyOrder d → IfSome (entry_at path (paths_of d)) IsItem
item_there path d t ordered =
    let p = paths_shape d t in
    both_of (λ i. IsOf i (value_of (named path_item_object))) (λ i. IsInOrder (field_at (codes "additionalOperations") i)) (entry_at path (paths_of d))
    (subst (λ x. IfSome (entry_at path x) (λ i. IsOf i (value_of (named path_item_object)))) (sym p.is) (found_is_of (value_of (named path_item_object)) p.entries path p.each))
    (ordered.paths.operations path)

all_items : (d : Doc) → IsTable open_api_object d → IsInKeyOrder d → AllByRecursion (λ e. IsItem e.1) (entries_in (paths_of d))
all_items d t ordered = all_found (λ path. IsItem) (entries_in (paths_of d)) ordered.paths.entries (λ path. item_there path d t ordered)

answered_items : (answers : List (List ℕ)) (ps : List (List ℕ × Doc)) → AllByRecursion (λ e. IsItem e.1) ps → AllByRecursion (λ e. IsItem e.1) (nesting.answered answers ps)
answered_items [] ps h = tt
answered_items (a ∷ answers) [] h = tt
answered_items (a ∷ answers) (p ∷ ps) h = (h.0, answered_items answers ps h.1)

either_item : (b : Bool) (d : Doc) (o : Option Doc) → IsItem d → IfSome o IsItem → IfSome (option_or o (if b then Some d else None)) IsItem
either_item true d None h g = h
either_item false d None h g = tt
either_item b d (Some x) h g = g

last_item : (path : List ℕ) (ps : List (List ℕ × Doc)) → AllByRecursion (λ e. IsItem e.1) ps → IfSome (last_of (map (nesting.item_if path) ps)) IsItem
last_item path [] h = tt
last_item path (p ∷ ps) h = either_item (bytes_eq path p.0) p.1 (last_of (map (nesting.item_if path) ps)) h.0 (last_item path ps h.1)

or_item : (o q : Option Doc) → IfSome o IsItem → IfSome q IsItem → IfSome (option_or o q) IsItem
or_item None q h g = g
or_item (Some x) q h g = h

mounted_item : (answers : List (List ℕ)) (other own : Doc) (path : List ℕ) → IsTable open_api_object other → IsTable open_api_object own → IsInKeyOrder other → IsInKeyOrder own
    → IfSome (mounted_at answers other own path) IsItem
mounted_item answers other own path t s o p =
    or_item (last_of (map (nesting.item_if path) (nesting.answered answers (entries_in (paths_of other))))) (entry_at path (paths_of own))
    (last_item path (nesting.answered answers (entries_in (paths_of other))) (answered_items answers (entries_in (paths_of other)) (all_items other t o))) (item_there path own s p)

-- items of the same slots, or none
one_item : (o q : Option Doc) → IfSome o IsItem → IfSome q IsItem → ((k : ItemSlot) → option_and_then (item_slot k) o ≡ option_and_then (item_slot k) q) → o ≡ q
one_item None None h g slots = refl
one_item None (Some j) h g slots = absurd (none-some _ (slots base))
one_item (Some i) None h g slots = absurd (none-some _ (sym (slots base)))
one_item (Some i) (Some j) h g slots = ap Some (same_items i j h.0 g.0 h.1 g.1 slots)

-- ---- what stands at a path

or_written : (o q : Option Doc) → option_or (option_map write o) (option_map write q) ≡ option_map write (option_or o q)
or_written None q = refl
or_written (Some x) q = refl

-- both documents, and what comes of nesting, are OpenAPI Objects, unambiguous
pub own_table : (answers : List (List ℕ)) (own other d : Doc) → AreNestedInto answers own other d → IsTable open_api_object own
own_table answers own other d n = clear_table open_api_object own n.own_kind n.own_unambiguous

pub other_table : (answers : List (List ℕ)) (own other d : Doc) → AreNestedInto answers own other d → IsTable open_api_object other
other_table answers own other d n = clear_table open_api_object other n.other_kind n.other_unambiguous

pub nested_table : (answers : List (List ℕ)) (own other d : Doc) → AreNestedInto answers own other d → IsTable open_api_object d
nested_table answers own other d n =
    clear_table open_api_object d n.nested.merged.of_kind
    (nested_unambiguous answers own other d n.own_kind n.other_kind n.nested n.own_unambiguous n.other_unambiguous (recursion_from_All IsNoExtension answers n.answered) n.ordered)

-- at a path stands what was put there, or else the item of the document that is nested into
pub item_at_path : (answers : List (List ℕ)) (own other d : Doc) → AreNestedInto answers own other d → (path : List ℕ) → is_extension path ≡ false
    → at_place (place_of_item path) (write d) ≡ option_or (put_at (answered answers (path_items (write other))) path) (at_place (place_of_item path) (write own))
item_at_path answers own other d n path plain =
    let s = own_table answers own other d n in
    let t = other_table answers own other d n in
    let u = nested_table answers own other d n in
    let last = last_of (map (nesting.item_if path) (nesting.answered answers (entries_in (paths_of other)))) in
    let same : entry_at path (paths_of d) ≡ mounted_at answers other own path =
    one_item (entry_at path (paths_of d)) (mounted_at answers other own path) (item_there path d u n.ordered) (mounted_item answers other own path t s n.other_ordered n.own_ordered)
    (λ k. nested_items answers own other d n.own_kind n.other_kind n.nested path k)
    in
    path_written path d u plain ∙ ap (option_map write) same ∙ sym (or_written last (entry_at path (paths_of own)))
    ∙ ap (λ o. option_or o (option_map write (entry_at path (paths_of own)))) (sym (put_as_mounted answers other path t))
    ∙ ap (option_or (put_at (answered answers (path_items (write other))) path)) (sym (path_written path own s plain))
