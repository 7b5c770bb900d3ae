-- What stands in a slot of the tree that a document is written as.
use Rattle.std.proofs.Common.{◌≡◌, ◌⊎◌, inl, inr, ℕ, List, [], ◌∷◌, ◌++◌, ◌||◌, Bool, true, false, if◌then◌else◌, Option, None, Some, IfSome, option_map, option_and_then, map, refl, sym, ap, ◌∙◌, subst, codes, true≢false}
use Rattle.std.proofs.lemmas.Slice.Eq.{bytes_eq-Decides}
use Rattle.std.specs.List.{list_any}
use Rattle.std.specs.Str.{bytes_eq}
use Rattle.serde_json.specs.Data.{Data, Members}
use Rattle.serde_json.specs.Find.{get}
use Rattle.utoipa_base.specs.Docs.{Doc, none_doc, some_doc, entries_doc, Docs, no_docs, doc, Entries}
use Rattle.utoipa_base.specs.Extensions.{is_extension, members_or_none}
use Rattle.utoipa_base.specs.Kinds.{ObjectType, Kind, named, map_of, ref_or, schema, security_scheme, open_api_object, components_object, path_item_object, operation_object, response_object, parameter_object, example_object, request_body_object, header_object, link_object, media_type_object, required, optional, defaulted, Row}
use Rattle.utoipa_base.specs.Shape.{value_of, option_of, IsOf, EntriesOf}
use Rattle.utoipa_base.specs.Tables.{row, table, paths, callback}
use Rattle.utoipa_base.specs.WellFormed.{IsUnambiguous, AreUnambiguous, AreUnambiguousEntries, KeyOf, AllExtensions, names_no_extension}
use Rattle.utoipa_base.specs.Writing.{write, left_out}
use Rattle.utoipa_base.proofs.TableNames.{is_row, table_apart}
use Rattle.utoipa_base.proofs.WrittenMembers.{unnamed, stands}
use Rattle.utoipa_merging.specs.Slots.{row_field, field_at, extensions_in, held, pairs_in, entry_at, parts, fixed_members, base_members, Method, get_method, put_method, post_method, delete_method, options_method, head_method, patch_method, trace_method, query_method, method_member, ComponentMap, schema_map, response_map, parameter_map, example_map, request_body_map, header_map, link_map, callback_map, path_item_map, media_type_map, security_scheme_map, map_member, ItemSlot, operation, additional, item_slot, path_slot, extension_at, paths_of, components_of}
use Rattle.utoipa_merging.proofs.Determined.{found_is_of}
use Rattle.utoipa_merging.proofs.InOrder.{find_in, found_of_all}
use Rattle.utoipa_merging.proofs.Shapes.{option_shape, object_shape, row_at}
use Rattle.utoipa_merging.proofs.UnambiguousMerged.{unambiguous_entries}
use Rattle.utoipa_check.specs.Misfits.{at_name}
use Rattle.utoipa_conflicts.specs.Conflicts.{joined_members, methods, is_method, place_of_item}
use Rattle.utoipa_conflicts.specs.Trees.{Place, at_place}
use Rattle.utoipa_conflicts.proofs.Kept.{further}
use Rattle.utoipa_conflicts.proofs.Written.{IsTable, clear_table, are_among, under_row, under_none, field_of_kind, field_none, extension_no_row, none_among, neither_among, same_members, in_map_row, entry_written, entry_beside, extension_beside}

-- ---- steps

pub some_itself : {A : Type 0} (o : Option A) → option_and_then Some o ≡ o
some_itself None = refl
some_itself (Some x) = refl

-- a place of one step
pub one_step : (k : List ℕ) (d : Data) → at_place (at_name k ∷ []) d ≡ get k d
one_step k d = at_itself (get k d)
  where
    at_itself : (o : Option Data) → option_and_then (at_place []) o ≡ o
    at_itself None = refl
    at_itself (Some x) = refl

-- the last step from what stands somewhere
last_step : (k : List ℕ) (o : Option Data) → option_and_then (at_place (at_name k ∷ [])) o ≡ option_and_then (get k) o
last_step k None = refl
last_step k (Some d) = one_step k d

-- ---- fields

row_clear : (name : List ℕ) (rs : List Row) (ds : Docs) → AreUnambiguous ds → IsUnambiguous (row_field name rs ds)
unfolding IsUnambiguous AreUnambiguous
row_clear name [] ds h = tt
row_clear name (r ∷ rs) no_docs h = here (bytes_eq name r.name) (row_clear name rs no_docs h)
  where
    here : (b : Bool) → IsUnambiguous (row_field name rs no_docs) → IsUnambiguous (if b then none_doc else row_field name rs no_docs)
    here true later = tt
    here false later = later
row_clear name (r ∷ rs) (doc d ds) h = here (bytes_eq name r.name) (row_clear name rs ds h.1)
  where
    here : (b : Bool) → IsUnambiguous (row_field name rs ds) → IsUnambiguous (if b then d else row_field name rs ds)
    here true later = h.0
    here false later = later

-- the fields of an unambiguous object are unambiguous
field_clear : (n : ObjectType) (d : Doc) (name : List ℕ) → IsTable n d → IsUnambiguous (field_at name d)
field_clear n d name t = subst (λ x. IsUnambiguous (field_at name x)) (sym t.is) (row_clear name (table n) t.fields t.clear)

-- a field that may be absent
option_written : (k : Kind) (d : Doc) → IsOf d (option_of k) → stands (left_out optional d) (write d) ≡ option_map write (held d)
unfolding write
option_written k d h =
    elim (option_shape k d h) [
      | inl p ↦ subst (λ x. stands (left_out optional x) (write x) ≡ option_map write (held x)) (sym p) refl
      | inr p ↦ subst (λ x. stands (left_out optional x) (write x) ≡ option_map write (held x)) (sym p.1) refl
    ]

-- which of some names this one is
which : {A : Type 0} (f : A → List ℕ) (k : List ℕ) (xs : List A) → list_any (λ x. bytes_eq k (f x)) xs ≡ true → (x : A) × (k ≡ f x)
which f k [] h = absurd (true≢false (sym h))
which {A} f k (x ∷ xs) h = go (bytes_eq k (f x)) refl h (which f k xs)
  where
    go : (b : Bool) → bytes_eq k (f x) ≡ b → b || list_any (λ y. bytes_eq k (f y)) xs ≡ true → (list_any (λ y. bytes_eq k (f y)) xs ≡ true → (y : A) × (k ≡ f y)) → (y : A) × (k ≡ f y)
    go true is g later = (x, (bytes_eq-Decides k (f x)).0 is)
    go false is g later = later g

-- ---- components

abbrev all_maps : List ComponentMap
all_maps = schema_map ∷ response_map ∷ parameter_map ∷ example_map ∷ request_body_map ∷ header_map ∷ link_map ∷ callback_map ∷ path_item_map ∷ media_type_map ∷ security_scheme_map ∷ []

map_row : (m : ComponentMap) → (k : Kind) × (row_at (map_member m) (table components_object) ≡ Some (row (map_member m) defaulted (map_of k)))
map_row schema_map = (ref_or schema, refl)
map_row response_map = (ref_or (named response_object), refl)
map_row parameter_map = (ref_or (named parameter_object), refl)
map_row example_map = (ref_or (named example_object), refl)
map_row request_body_map = (ref_or (named request_body_object), refl)
map_row header_map = (ref_or (named header_object), refl)
map_row link_map = (ref_or (named link_object), refl)
map_row callback_map = (ref_or callback, refl)
map_row path_item_map = (named path_item_object, refl)
map_row media_type_map = (ref_or (named media_type_object), refl)
map_row security_scheme_map = (ref_or security_scheme, refl)

-- a name is that of a map, or of no row
pub map_or_none : (kind : List ℕ) → ((m : ComponentMap) × (kind ≡ map_member m)) ⊎ (is_row kind (table components_object) ≡ false)
map_or_none kind = go (list_any (λ m. bytes_eq kind (map_member m)) all_maps) refl
  where
    go : (b : Bool) → list_any (λ m. bytes_eq kind (map_member m)) all_maps ≡ b → ((m : ComponentMap) × (kind ≡ map_member m)) ⊎ (is_row kind (table components_object) ≡ false)
    go true is = inl (which map_member kind all_maps is)
    go false is = inr (none_among kind (table components_object) (map map_member all_maps) refl is)

all_named : (n : ObjectType) (d : Doc) → IsTable n d → AllExtensions (extensions_in d)
all_named n d t = subst (λ x. AllExtensions (extensions_in x)) (sym t.is) t.extended

-- a field of no row is absent
pub absent_field : (n : ObjectType) (d : Doc) (name : List ℕ) → IsTable n d → is_row name (table n) ≡ false → field_at name d ≡ none_doc
absent_field n d name t none = ap (field_at name) t.is ∙ field_none name (table n) t.fields none

in_components : (kind name : List ℕ) (c : Doc) → IsTable components_object c → is_extension kind ≡ false → option_and_then (get name) (get kind (write c)) ≡ option_map write (entry_at name (field_at kind c))
in_components kind name c t plain =
    elim (map_or_none kind) [
      | inl p ↦
          let r = map_row p.0 in
          subst (λ k. option_and_then (get name) (get k (write c)) ≡ option_map write (entry_at name (field_at k c))) (sym p.1) (in_map_row components_object c (map_member p.0) name r.0 t r.1)
      | inr none ↦
          ap (option_and_then (get name)) (under_none components_object c kind t none ∙ unnamed (members_or_none (extensions_in c)) kind (all_named components_object c t) plain)
          ∙ ap (λ x. option_map write (entry_at name x)) (sym (absent_field components_object c kind t none))
    ]

-- the components of a document, if it has any
components_shape : (d : Doc) → IsTable open_api_object d → (components_of d ≡ none_doc) ⊎ ((c : Doc) × (components_of d ≡ some_doc c) × IsTable components_object c)
unfolding IsUnambiguous
components_shape d t =
    elim (option_shape (named components_object) (components_of d) (field_of_kind open_api_object d (codes "components") (row (codes "components") optional (named components_object)) t refl)) [
      | inl p ↦ inl p
      | inr p ↦ inr (p.0, p.1, clear_table components_object p.0 p.2 (subst IsUnambiguous p.1 (field_clear open_api_object d (codes "components") t)))
    ]

under_components : (d : Doc) → IsTable open_api_object d → get (codes "components") (write d) ≡ stands (left_out optional (components_of d)) (write (components_of d))
under_components d t = under_row open_api_object d (codes "components") (row (codes "components") optional (named components_object)) t refl

pub component_written : (kind name : List ℕ) (d : Doc) → IsTable open_api_object d → is_extension kind ≡ false
    → at_place (at_name (codes "components") ∷ at_name kind ∷ at_name name ∷ []) (write d) ≡ option_map write (entry_at name (field_at kind (components_of d)))
unfolding write
component_written kind name d t plain =
    ap (option_and_then (at_place (at_name kind ∷ at_name name ∷ []))) (under_components d t)
    ∙ elim (components_shape d t) [
      | inl p ↦ subst (λ c. option_and_then (at_place (at_name kind ∷ at_name name ∷ [])) (stands (left_out optional c) (write c)) ≡ option_map write (entry_at name (field_at kind c))) (sym p) refl
      | inr p ↦
          subst (λ c. option_and_then (at_place (at_name kind ∷ at_name name ∷ [])) (stands (left_out optional c) (write c)) ≡ option_map write (entry_at name (field_at kind c))) (sym p.1)
          (last_step name (get kind (write p.0)) ∙ in_components kind name p.0 p.2 plain)
    ]

pub components_extension_written : (name : List ℕ) (d : Doc) → IsTable open_api_object d → is_extension name ≡ true → at_place (at_name (codes "components") ∷ at_name name ∷ []) (write d) ≡ extension_at name (components_of d)
unfolding write
components_extension_written name d t is =
    ap (option_and_then (at_place (at_name name ∷ []))) (under_components d t)
    ∙ elim (components_shape d t) [
      | inl p ↦ subst (λ c. option_and_then (at_place (at_name name ∷ [])) (stands (left_out optional c) (write c)) ≡ extension_at name c) (sym p) refl
      | inr p ↦
          subst (λ c. option_and_then (at_place (at_name name ∷ [])) (stands (left_out optional c) (write c)) ≡ extension_at name c) (sym p.1)
          (one_step name (write p.0) ∙ under_none components_object p.0 name p.2 (extension_no_row name (table components_object) (table_apart components_object) is))
    ]

-- a map that no components have
pub no_component : (kind name : List ℕ) (d : Doc) → IsTable open_api_object d → is_extension kind ≡ false → is_row kind (table components_object) ≡ false
    → at_place (at_name (codes "components") ∷ at_name kind ∷ at_name name ∷ []) (write d) ≡ None
no_component kind name d t plain none =
    component_written kind name d t plain
    ∙ elim (components_shape d t) [
      | inl p ↦ ap (λ c. option_map write (entry_at name (field_at kind c))) p
      | inr p ↦ ap (λ c. option_map write (entry_at name (field_at kind c))) p.1 ∙ ap (λ f. option_map write (entry_at name f)) (absent_field components_object p.0 kind p.2 none)
    ]

-- ---- paths

-- a Paths Object, unambiguous
pub record IsPaths (d : Doc) : Type 0 where
  pub entries : Entries
  pub extensions : Option Members
  pub is : d ≡ entries_doc entries extensions
  pub each : EntriesOf entries (value_of (named path_item_object))
  pub clear : AreUnambiguousEntries entries
  pub plain : names_no_extension entries ≡ true
  pub extended : AllExtensions extensions

pub paths_shape : (d : Doc) → IsTable open_api_object d → IsPaths (paths_of d)
unfolding IsUnambiguous
paths_shape d t =
    let o = object_shape (named path_item_object) (paths_of d) (field_of_kind open_api_object d (codes "paths") (row (codes "paths") required paths) t refl) in
    let clear : IsUnambiguous (entries_doc o.entries o.extensions) = subst IsUnambiguous o.is (field_clear open_api_object d (codes "paths") t) in
    record { entries = o.entries; extensions = o.extensions; is = o.is; each = o.each; clear = clear.0; plain = clear.1; extended = clear.2 }

path_entry_written : (path : List ℕ) (d : Doc) → IsPaths d → is_extension path ≡ false → get path (write d) ≡ option_map write (entry_at path d)
unfolding write
path_entry_written path d p plain =
    ap (λ x. get path (write x)) p.is ∙ entry_beside path p.entries (members_or_none p.extensions) p.extended plain ∙ entry_written path p.entries ∙ ap (λ x. option_map write (entry_at path x)) (sym p.is)

path_extension_written : (name : List ℕ) (d : Doc) → IsPaths d → is_extension name ≡ true → get name (write d) ≡ extension_at name d
unfolding write
path_extension_written name d p is =
    ap (λ x. get name (write x)) p.is ∙ extension_beside name p.entries (members_or_none p.extensions) p.plain is ∙ ap (extension_at name) (sym p.is)

pub under_paths : (d : Doc) → IsTable open_api_object d → get (codes "paths") (write d) ≡ Some (write (paths_of d))
under_paths d t = under_row open_api_object d (codes "paths") (row (codes "paths") required paths) t refl

-- the item at a path
pub path_written : (path : List ℕ) (d : Doc) → IsTable open_api_object d → is_extension path ≡ false → at_place (place_of_item path) (write d) ≡ option_map write (entry_at path (paths_of d))
path_written path d t plain =
    ap (option_and_then (at_place (at_name path ∷ []))) (under_paths d t) ∙ one_step path (write (paths_of d)) ∙ path_entry_written path (paths_of d) (paths_shape d t) plain

pub paths_extension_written : (name : List ℕ) (d : Doc) → IsTable open_api_object d → is_extension name ≡ true → at_place (place_of_item name) (write d) ≡ extension_at name (paths_of d)
paths_extension_written name d t is =
    ap (option_and_then (at_place (at_name name ∷ []))) (under_paths d t) ∙ one_step name (write (paths_of d)) ∙ path_extension_written name (paths_of d) (paths_shape d t) is

-- ---- path items

both_there : {P Q R : Doc → Type 0} (o : Option Doc) → ((x : Doc) → P x → Q x → R x) → IfSome o P → IfSome o Q → IfSome o R
both_there None each h g = tt
both_there (Some x) each h g = each x h g

-- the item that is found at a path
pub item_found : (path : List ℕ) (d : Doc) → IsTable open_api_object d → IfSome (entry_at path (paths_of d)) (IsTable path_item_object)
item_found path d t =
    let p = paths_shape d t in
    subst (λ x. IfSome (entry_at path x) (IsTable path_item_object)) (sym p.is)
    (both_there (find_in (pairs_in p.entries) path) (λ i h g. clear_table path_item_object i h g.0) (found_is_of (value_of (named path_item_object)) p.entries path p.each)
    (found_of_all (λ name i. IsUnambiguous i × KeyOf name i) (pairs_in p.entries) path (unambiguous_entries p.entries p.clear)))

method_row : (m : Method) → row_at (method_member m) (table path_item_object) ≡ Some (row (method_member m) optional (named operation_object))
method_row get_method = refl
method_row put_method = refl
method_row post_method = refl
method_row delete_method = refl
method_row options_method = refl
method_row head_method = refl
method_row patch_method = refl
method_row trace_method = refl
method_row query_method = refl

abbrev all_methods : List Method
all_methods = get_method ∷ put_method ∷ post_method ∷ delete_method ∷ options_method ∷ head_method ∷ patch_method ∷ trace_method ∷ query_method ∷ []

pub which_method : (name : List ℕ) → is_method name ≡ true → (m : Method) × (name ≡ method_member m)
which_method name is = which method_member name all_methods is

operation_written : (m : Method) (i : Doc) → IsTable path_item_object i → at_place (at_name (method_member m) ∷ []) (write i) ≡ option_map write (item_slot (operation m) i)
operation_written m i t =
    let q = row (method_member m) optional (named operation_object) in
    one_step (method_member m) (write i) ∙ under_row path_item_object i (method_member m) q t (method_row m)
    ∙ option_written (named operation_object) (field_at (method_member m) i) (field_of_kind path_item_object i (method_member m) q t (method_row m))

named_written : (name : List ℕ) (i : Doc) → IsTable path_item_object i → at_place (at_name (codes "additionalOperations") ∷ at_name name ∷ []) (write i) ≡ option_map write (item_slot (additional name) i)
named_written name i t =
    last_step name (get (codes "additionalOperations") (write i)) ∙ in_map_row path_item_object i (codes "additionalOperations") name (named operation_object) t refl

through : (ss : Place) (s : ItemSlot) (o : Option Doc) → IfSome o (IsTable path_item_object) → ((i : Doc) → IsTable path_item_object i → at_place ss (write i) ≡ option_map write (item_slot s i))
    → option_and_then (at_place ss) (option_map write o) ≡ option_map write (option_and_then (item_slot s) o)
through ss s None h each = refl
through ss s (Some i) h each = each i h

-- a slot of the item at a path
in_item : (path : List ℕ) (ss : Place) (s : ItemSlot) (d : Doc) → IsTable open_api_object d → is_extension path ≡ false
    → ((i : Doc) → IsTable path_item_object i → at_place ss (write i) ≡ option_map write (item_slot s i)) → at_place (place_of_item path ++ ss) (write d) ≡ option_map write (path_slot path s (paths_of d))
in_item path ss s d t plain each =
    further (place_of_item path) ss (write d) ∙ ap (option_and_then (at_place ss)) (path_written path d t plain) ∙ through ss s (entry_at path (paths_of d)) (item_found path d t) each

pub operation_at_path : (path : List ℕ) (m : Method) (d : Doc) → IsTable open_api_object d → is_extension path ≡ false
    → at_place (place_of_item path ++ at_name (method_member m) ∷ []) (write d) ≡ option_map write (path_slot path (operation m) (paths_of d))
operation_at_path path m d t plain = in_item path (at_name (method_member m) ∷ []) (operation m) d t plain (operation_written m)

pub named_at_path : (path name : List ℕ) (d : Doc) → IsTable open_api_object d → is_extension path ≡ false
    → at_place (place_of_item path ++ at_name (codes "additionalOperations") ∷ at_name name ∷ []) (write d) ≡ option_map write (path_slot path (additional name) (paths_of d))
named_at_path path name d t plain = in_item path (at_name (codes "additionalOperations") ∷ at_name name ∷ []) (additional name) d t plain (named_written name)

-- ---- what stays together

among_or_none : (name : List ℕ) (n : ObjectType) (names others : List (List ℕ)) → list_any (bytes_eq name) others ≡ false → are_among (table n) (others ++ names) ≡ true
    → list_any (bytes_eq name) names ≡ true ⊎ is_row name (table n) ≡ false
among_or_none name n names others none among = go (list_any (bytes_eq name) names) refl
  where
    go : (b : Bool) → list_any (bytes_eq name) names ≡ b → list_any (bytes_eq name) names ≡ true ⊎ is_row name (table n) ≡ false
    go true is = inl is
    go false is = inr (none_among name (table n) (others ++ names) among (neither_among name others names none is))

-- members that stay together, of two documents that have the same
pub same_fixed : (name : List ℕ) (c d : Doc) → IsTable open_api_object c → IsTable open_api_object d → parts fixed_members c ≡ parts fixed_members d
    → list_any (bytes_eq name) (codes "paths" ∷ codes "components" ∷ joined_members) ≡ false → get name (write c) ≡ get name (write d)
same_fixed name c d s t same none =
    same_members open_api_object fixed_members c d name s t same (among_or_none name open_api_object fixed_members (codes "paths" ∷ codes "components" ∷ joined_members) none refl)

-- and of two path items
pub same_base : (name : List ℕ) (c d : Doc) → IsTable path_item_object c → IsTable path_item_object d → parts base_members c ≡ parts base_members d
    → list_any (bytes_eq name) (codes "additionalOperations" ∷ methods) ≡ false → get name (write c) ≡ get name (write d)
same_base name c d s t same none =
    same_members path_item_object base_members c d name s t same (among_or_none name path_item_object base_members (codes "additionalOperations" ∷ methods) none refl)
