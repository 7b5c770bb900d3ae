-- A document has a property where its slots have it and its maps stand in the order of their keys.
use Rattle.std.proofs.Common.{◌≡◌, ℕ, suc, List, [], ◌∷◌, false, Option, Some, IfSome, option_and_then, None, inl, inr, refl, sym, ap, ◌∙◌, subst, codes}
use Rattle.std.specs.List.{AllByRecursion}
use Rattle.std.proofs.lemmas.Option.{IfSome_then}
use Rattle.serde_json.specs.Data.{Members, no_members, member}
use Rattle.serde_json.specs.Find.{get_member}
use Rattle.utoipa_base.specs.Kinds.{ObjectType, Kind, named, list_of, map_of, open_api_object, path_item_object, components_object, operation_object, optional, defaulted, Row}
use Rattle.utoipa_base.specs.Docs.{Doc, some_doc, list_doc, table_doc, Docs, no_docs, doc}
use Rattle.utoipa_base.specs.Extensions.{members_or_none}
use Rattle.utoipa_base.specs.Reading.{is_null}
use Rattle.utoipa_base.specs.Tables.{row, table, paths}
use Rattle.utoipa_base.specs.Shape.{value_of, option_of, IsOf, RowsOf}
use Rattle.utoipa_base.specs.Writing.{write}
use Rattle.utoipa_merging.specs.Slots.{first_doc, rest_docs, row_field, extensions_in, held, list_in, items_in, pairs_in, entry_at, parts, fixed_members, base_members, Joined, servers_joined, security_joined, tags_joined, joined_member, Method, get_method, put_method, post_method, delete_method, options_method, head_method, patch_method, trace_method, query_method, method_member, ItemSlot, base, operation, additional, item_slot, path_slot, extension_at, ComponentMap, schema_map, response_map, parameter_map, example_map, request_body_map, header_map, link_map, callback_map, path_item_map, media_type_map, security_scheme_map, map_member, component_at}
use Rattle.utoipa_merging.specs.Merged.{Ascends, IsInOrder, ArePathsInOrder, IsInKeyOrder, IsOpenApi, names_in}
use Rattle.utoipa_merging.proofs.InOrder.{all_found, all_members_found}
use Rattle.utoipa_merging.proofs.Shapes.{table_shape, option_shape, list_shape, map_shape, object_shape, row_at, field_fits}
use Rattle.utoipa_merging.proofs.Determined.{found_is_of, IsItem, AdditionalInOrder, MapsInOrder}
use Rattle.utoipa_merging.proofs.Properties.{IsLevel, level_0, level_1, level_2, level_3, Property}
use Rattle.utoipa_merging.proofs.PropertySlots.{part_has, HasUnder, ItemHas, PathHas, HasSlots}

-- ---- fields that may be absent, lists, maps, extensions

-- an object is written, and not left null
object_written : (n : ObjectType) (d : Doc) → IsOf d (value_of (named n)) → is_null (write d) ≡ false
unfolding write
object_written n d h = let t = table_shape n d h in ap (λ x. is_null (write x)) t.is

-- an object that may be absent
option_has : (p : Property) (k : ℕ) (n : ObjectType) (d : Doc) → IsLevel k → IsOf d (option_of (named n)) → IfSome (held d) (p.Has (suc k)) → p.Has (suc k) d
option_has p k n d l h =
    elim (option_shape (named n) d h) [
      | inl is ↦ subst Goal (sym is) (λ g. p.none k l)
      | inr o ↦ subst Goal (sym o.1) (p.some (suc k) o.0 (object_written n o.0 o.2))
    ]
  where
    Goal : Doc → Type 0
    Goal x = IfSome (held x) (p.Has (suc k)) → p.Has (suc k) x

-- a list of the document that may be absent
list_has : (p : Property) (k : Kind) (d : Doc) → IsOf d (option_of (list_of k)) → AllByRecursion (p.Has 2) (items_in d) → p.Has 1 d
unfolding write
list_has p k d h =
    elim (option_shape (list_of k) d h) [
      | inl is ↦ subst Goal (sym is) (λ g. p.none 0 level_0)
      | inr o ↦ (let l = list_shape k o.0 o.2 in subst Goal (sym (o.1 ∙ ap some_doc l.1)) (λ g. p.some 1 (list_doc l.0) refl (p.list 1 l.0 level_1 g)))
    ]
  where
    Goal : Doc → Type 0
    Goal x = AllByRecursion (p.Has 2) (items_in x) → p.Has 1 x

-- a map
map_has : (p : Property) (j : ℕ) (k : Kind) (d : Doc) → IsLevel j → IsOf d (value_of (map_of k)) → IsInOrder d → ((name : List ℕ) → IfSome (entry_at name d) (HasUnder p (suc j) name)) → p.Has j d
map_has p j k d l h =
    let m = map_shape k d h in
    subst (λ x. IsInOrder x → ((name : List ℕ) → IfSome (entry_at name x) (HasUnder p (suc j) name)) → p.Has j x) (sym m.1)
    (λ s found. p.map j m.0 l (all_found (HasUnder p (suc j)) (pairs_in m.0) s found))

-- the extensions of paths, in the order of their names, by each
extensions_have : (p : Property) (e : Option Members) → Ascends (names_in (members_or_none e)) → (e ≡ Some no_members → p.Extends 1 (Some no_members))
    → ((name : List ℕ) → IfSome (get_member name (members_or_none e)) (p.Extension 1 name)) → p.Extends 1 e
extensions_have p None s empty found = p.no_extensions 1 level_1
extensions_have p (Some no_members) s empty found = empty refl
extensions_have p (Some (member k t ms)) s empty found = p.extends 1 k t ms (all_members_found (p.Extension 1) (member k t ms) s found)

-- ---- objects of a table

-- each field has the property, by the rows. It is a data family and not a product, so that a proof names the facts alone.
data FieldsHave (p : Property) (k : ℕ) : Docs → List Row → Type 0 where
  no_rows : {ds : Docs} → FieldsHave p k ds []
  next_row : {ds : Docs} {r : Row} {rs : List Row} → p.Has k (first_doc ds) → FieldsHave p k (rest_docs ds) rs → FieldsHave p k ds (r ∷ rs)

fields_have : (p : Property) (k : ℕ) (rs : List Row) (ds : Docs) → RowsOf ds rs → FieldsHave p k ds rs → AllByRecursion (p.Has k) (list_in ds)
unfolding RowsOf
fields_have p k rs no_docs h g = tt
fields_have p k [] (doc d ds) h g = absurd h
fields_have p k (r ∷ rs) (doc d ds) h (next_row first others) = (first, fields_have p k rs ds h.1 others)

-- ---- path items

-- what is asked of an item's slots
abbrev SlotsHave : Property → Doc → Type 0
SlotsHave p i = (s : ItemSlot) → IfSome (item_slot s i) (ItemHas p s)

item_table_has : (p : Property) (ds : Docs) (e : Option Members) → RowsOf ds (table path_item_object)
    → (let i = table_doc path_item_object ds e in AdditionalInOrder i → SlotsHave p i → p.Has 2 i)
item_table_has p ds e h s slots =
    p.table 2 path_item_object ds e level_2
    (fields_have p 3 (table path_item_object) ds h
    (next_row (at_base (codes "$ref"))
    (next_row others
    (next_row (at delete_method refl)
    (next_row (at_base (codes "description"))
    (next_row (at get_method refl)
    (next_row (at head_method refl)
    (next_row (at options_method refl)
    (next_row (at_base (codes "parameters"))
    (next_row (at patch_method refl)
    (next_row (at post_method refl)
    (next_row (at put_method refl)
    (next_row (at query_method refl)
    (next_row (at_base (codes "servers"))
    (next_row (at_base (codes "summary"))
    (next_row (at trace_method refl) no_rows))))))))))))))))
    (slots base).1
  where
    at_base : (name : List ℕ) → IfSome (entry_at name (parts base_members (table_doc path_item_object ds e))) (p.Has 3)
    at_base name = part_has p 2 name (parts base_members (table_doc path_item_object ds e)) (slots base)

    at : (m : Method) → row_at (method_member m) (table path_item_object) ≡ Some (row (method_member m) optional (named operation_object)) → p.Has 3 (row_field (method_member m) (table path_item_object) ds)
    at m is = option_has p 2 operation_object _ level_2 (field_fits (method_member m) (table path_item_object) ds _ h is) (slots (operation m))

    others : p.Has 3 (row_field (codes "additionalOperations") (table path_item_object) ds)
    others = map_has p 3 (named operation_object) _ level_3 (field_fits (codes "additionalOperations") (table path_item_object) ds _ h refl) s (λ name. slots (additional name))

-- a path item, by its slots
item_has : (p : Property) (i : Doc) → IsItem i → AdditionalInOrder i → SlotsHave p i → p.Has 2 i
item_has p i h =
    let t = table_shape path_item_object i h in
    subst (λ x. AdditionalInOrder x → SlotsHave p x → p.Has 2 x) (sym t.is) (item_table_has p t.fields t.extensions t.rows)

-- what is asked of the item at a path
abbrev IsAsked : Property → List ℕ → Doc → Type 0
IsAsked p path i = p.Has 2 i × p.Stands path i × p.Names path

-- an item may stand under each name
item_stands : (p : Property) (path : List ℕ) (i : Doc) → IsItem i → p.Stands path i
item_stands p path i h = let t = table_shape path_item_object i h in subst (p.Stands path) (sym t.is) (p.stands path path_item_object t.fields t.extensions)

-- the item at a path, where there is one, by its slots
found_has : (p : Property) (path : List ℕ) (o : Option Doc) → IfSome o IsItem → IfSome o AdditionalInOrder → ((s : ItemSlot) → IfSome (option_and_then (item_slot s) o) (PathHas p path s)) → IfSome o (IsAsked p path)
found_has p path None h s slots = tt
found_has p path (Some i) h s slots = (item_has p i h s (λ k. IfSome_then (item_slot k i) (slots k) (λ x g. g.0)), item_stands p path i h, (slots base).1)

-- ---- paths

-- paths, by their slots and extensions
paths_have : (p : Property) (d : Doc) → IsOf d (value_of paths) → ArePathsInOrder d → ((path : List ℕ) (s : ItemSlot) → IfSome (path_slot path s d) (PathHas p path s))
    → (extensions_in d ≡ Some no_members → p.Extends 1 (Some no_members)) → ((name : List ℕ) → IfSome (extension_at name d) (p.Extension 1 name)) → p.Has 1 d
paths_have p d h =
    let a = object_shape (named path_item_object) d h in
    subst (λ x. ArePathsInOrder x → ((path : List ℕ) (s : ItemSlot) → IfSome (path_slot path s x) (PathHas p path s)) → (extensions_in x ≡ Some no_members → p.Extends 1 (Some no_members)) → ((name : List ℕ) → IfSome (extension_at name x) (p.Extension 1 name)) → p.Has 1 x) (sym a.is)
    (λ s slots empty extensions.
    p.object 1 a.entries a.extensions level_1
    (all_found (IsAsked p) (pairs_in a.entries) s.entries (λ path. found_has p path _ (found_is_of (value_of (named path_item_object)) a.entries path a.each) (s.operations path) (slots path)))
    (extensions_have p a.extensions s.extensions empty extensions))

-- ---- components

-- what is asked of the maps of components
abbrev MapsHave : Property → Doc → Type 0
MapsHave p c = (m : ComponentMap) (name : List ℕ) → IfSome (component_at m name c) (HasUnder p 3 name)

component_table_has : (p : Property) (ds : Docs) (e : Option Members) → RowsOf ds (table components_object)
    → (let c = table_doc components_object ds e in MapsInOrder c → MapsHave p c → p.Extends 1 e → p.Has 1 c)
component_table_has p ds e h s found extended =
    p.table 1 components_object ds e level_1
    (fields_have p 2 (table components_object) ds h
    (next_row (at callback_map _ refl)
    (next_row (at example_map _ refl)
    (next_row (at header_map _ refl)
    (next_row (at link_map _ refl)
    (next_row (at media_type_map _ refl)
    (next_row (at parameter_map _ refl)
    (next_row (at path_item_map _ refl)
    (next_row (at request_body_map _ refl)
    (next_row (at response_map _ refl)
    (next_row (at schema_map _ refl)
    (next_row (at security_scheme_map _ refl) no_rows))))))))))))
    extended
  where
    at : (m : ComponentMap) (k : Kind) → row_at (map_member m) (table components_object) ≡ Some (row (map_member m) defaulted (map_of k)) → p.Has 2 (row_field (map_member m) (table components_object) ds)
    at m k is = map_has p 2 k _ level_2 (field_fits (map_member m) (table components_object) ds _ h is) (s m) (found m)

-- components that may be absent
components_have : (p : Property) (c : Doc) → IsOf c (option_of (named components_object)) → MapsInOrder c → MapsHave p c → p.Extends 1 (extensions_in c) → p.Has 1 c
components_have p c h =
    elim (option_shape (named components_object) c h) [
      | inl is ↦ subst Goal (sym is) (λ s found extended. p.none 0 level_0)
      | inr o ↦
          (
          let t = table_shape components_object o.0 o.2 in
          subst Goal (sym (o.1 ∙ ap some_doc t.is)) (λ s found extended. p.some 1 (table_doc components_object t.fields t.extensions) (object_written components_object _ (subst IsComponents t.is o.2)) (component_table_has p t.fields t.extensions t.rows s found extended))
          )
    ]
  where
    Goal : Doc → Type 0
    Goal x = MapsInOrder x → MapsHave p x → p.Extends 1 (extensions_in x) → p.Has 1 x

    IsComponents : Doc → Type 0
    IsComponents x = IsOf x (value_of (named components_object))

-- ---- the document

document_table_has : (p : Property) (ds : Docs) (e : Option Members) → RowsOf ds (table open_api_object) → (let d = table_doc open_api_object ds e in IsInKeyOrder d → HasSlots p d → p.Has 0 d)
document_table_has p ds e h s slots =
    p.table 0 open_api_object ds e level_0
    (fields_have p 1 (table open_api_object) ds h
    (next_row (at_fixed (codes "$schema"))
    (next_row (at_fixed (codes "$self"))
    (next_row (components_have p _ (field_fits (codes "components") (table open_api_object) ds _ h refl) s.components slots.components slots.component_extensions)
    (next_row (at_fixed (codes "externalDocs"))
    (next_row (at_fixed (codes "info"))
    (next_row (at_fixed (codes "jsonSchemaDialect"))
    (next_row (at_fixed (codes "openapi"))
    (next_row (paths_have p _ (field_fits (codes "paths") (table open_api_object) ds _ h refl) s.paths slots.paths slots.empty_extensions slots.path_extensions)
    (next_row (list_at security_joined _ refl)
    (next_row (list_at servers_joined _ refl)
    (next_row (list_at tags_joined _ refl)
    (next_row (at_fixed (codes "webhooks")) no_rows)))))))))))))
    slots.fixed.1
  where
    at_fixed : (name : List ℕ) → IfSome (entry_at name (parts fixed_members (table_doc open_api_object ds e))) (p.Has 1)
    at_fixed name = part_has p 0 name (parts fixed_members (table_doc open_api_object ds e)) slots.fixed

    list_at : (j : Joined) (k : Kind) → row_at (joined_member j) (table open_api_object) ≡ Some (row (joined_member j) optional (list_of k)) → p.Has 1 (row_field (joined_member j) (table open_api_object) ds)
    list_at j k is = list_has p k _ (field_fits (joined_member j) (table open_api_object) ds _ h is) (slots.items j)

-- a document, by its slots
pub has_by_slots : (p : Property) (d : Doc) → IsOpenApi d → IsInKeyOrder d → HasSlots p d → p.Has 0 d
has_by_slots p d h =
    let t = table_shape open_api_object d h in
    subst (λ x. IsInKeyOrder x → HasSlots p x → p.Has 0 x) (sym t.is) (document_table_has p t.fields t.extensions t.rows)
