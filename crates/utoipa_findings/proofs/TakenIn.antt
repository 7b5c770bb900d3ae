-- What stands in a document stands in another that takes it in: by its slots, its items, its components and its lists.
use Rattle.std.proofs.Common.{◌≡◌, ◌∙◌, ◌⊎◌, inl, inr, ℕ, zero, suc, ◌+◌, ◌<◌, List, [], ◌∷◌, ◌||◌, Bool, true, false, if◌then◌else◌, length, Option, None, Some, IfSome, option_map, option_and_then, codes, refl, sym, ap, subst, true≢false, arith}
use Rattle.std.proofs.lemmas.Option.{none-some, same_Some}
use Rattle.std.proofs.lemmas.Slice.Eq.{bytes_eq-Decides}
use Rattle.std.specs.Prelude.{Contains, slice_index_or}
use Rattle.std.specs.Str.{bytes_eq}
use Rattle.serde_json.specs.Data.{Data, null, boolean, number, string, array, object, Items, no_items, item, Members, no_members, member}
use Rattle.serde_json.specs.Find.{get, at, get_item}
use Rattle.utoipa_base.specs.Docs.{Doc, none_doc, some_doc, list_doc, Docs, no_docs, doc}
use Rattle.utoipa_base.specs.EachMember.{each_member}
use Rattle.utoipa_base.specs.Extensions.{is_extension, all_extensions, members_or_none}
use Rattle.utoipa_base.specs.Kinds.{Kind, named, list_of, map_of, ref_or, schema, security_scheme, open_api_object, components_object, path_item_object, operation_object, response_object, parameter_object, example_object, request_body_object, header_object, link_object, media_type_object, server_object, tag_object, optional, defaulted}
use Rattle.utoipa_base.specs.Tables.{row, table, callback, security_requirement}
use Rattle.utoipa_base.specs.WellFormed.{IsUnambiguous}
use Rattle.utoipa_base.specs.Writing.{write, write_items, left_out}
use Rattle.utoipa_base.proofs.WrittenMembers.{stands, unnamed}
use Rattle.utoipa_check.specs.Has.{Written, Has, HasItems, HasMembers}
use Rattle.utoipa_check.specs.Misfits.{at_name}
use Rattle.utoipa_check.specs.Places.{members_at}
use Rattle.utoipa_conflicts.specs.Conflicts.{is_joined, is_method, Slot, document_member, component_entry, components_extension, paths_extension, operation, named_operation, base_member, Filled, one_slot, entry_slots, item_slots, path_slots, component_slots, member_slots, slots, place, place_of_item}
use Rattle.utoipa_conflicts.specs.Holders.{EachMember}
use Rattle.utoipa_conflicts.specs.IsConflict.{IsOneOf}
use Rattle.utoipa_conflicts.specs.NestedInto.{is_of_item}
use Rattle.utoipa_conflicts.specs.Trees.{Place, at_place}
use Rattle.utoipa_conflicts.proofs.Written.{IsTable, clear_table, under_row, under_none, field_of_kind}
use Rattle.utoipa_conflicts.proofs.WrittenSlots.{one_step, map_or_none, paths_shape, under_paths, path_written, item_found}
use Rattle.utoipa_merging.specs.Slots.{extensions_in, items_in, list_in, entry_at, is_there, Joined, servers_joined, security_joined, tags_joined, joined_member, joined_of, paths_of, components_of, ComponentMap, schema_map, response_map, parameter_map, example_map, request_body_map, header_map, link_map, callback_map, path_item_map, media_type_map, security_scheme_map, map_member}
use Rattle.utoipa_merging.proofs.Shapes.{option_shape, list_shape, row_at}
use Rattle.utoipa_findings.specs.Standing.{IsAmong, StandsBy, MemberStands, StandsIn}
use Rattle.utoipa_findings.proofs.Standing.{Over, over_same, IsObject, object_over, IsFilled, map_over, by_member, behind_step, last_of_two, written_filled, table_is_object, field_clear}

-- what is no part of an item
pub record TakesRest (c d : Doc) : Type 0 where
  pub own : IsTable open_api_object c
  pub all : IsTable open_api_object d
  -- the same value in each slot
  pub values : (s : Slot) (v : Data) → IsOneOf (s, v) (slots (write c)) → is_of_item s ≡ false → at_place (place s) (write d) ≡ Some v
  -- components, and the lists that are joined, with their entries
  pub components : is_there (components_of c) ≡ true → is_there (components_of d) ≡ true
  pub lists : (j : Joined) → is_there (joined_of j c) ≡ true → is_there (joined_of j d) ≡ true
  pub entries : (j : Joined) (x : Doc) → Contains (items_in (joined_of j c)) x → Contains (items_in (joined_of j d)) x

-- and the items
pub record TakesIn (c d : Doc) : Type 0 where
  pub rest : TakesRest c d
  -- the same value in each slot
  pub values : (s : Slot) (v : Data) → IsOneOf (s, v) (slots (write c)) → at_place (place s) (write d) ≡ Some v
  -- an item at each path
  pub items : (path : List ℕ) (i : Doc) → is_extension path ≡ false → entry_at path (paths_of c) ≡ Some i → (j : Doc) × (entry_at path (paths_of d) ≡ Some j)

some_mapped : (o : Option Doc) (y : Data) → option_map write o ≡ Some y → (i : Doc) × (o ≡ Some i) × (write i ≡ y)
some_mapped None y h = absurd (none-some y h)
some_mapped (Some i) y h = (i, refl, same_Some (write i) y h)

-- ---- path items

-- a member of the item at a path
member_of_item : (path n : List ℕ) (y z e m : Data) (b c : Bool) → is_method n ≡ b → bytes_eq n (codes "additionalOperations") ≡ c
    → (bytes_eq n (codes "additionalOperations") ≡ true → IsFilled e)
    → ((s : Slot) (v : Data) → IsOneOf (s, v) (if b then one_slot (operation path n) e else (if c then entry_slots (named_operation path) e else one_slot (base_member path n) e)) → at_place (place s) m ≡ Some v)
    → ((ss : Place) → at_place (at_name (codes "paths") ∷ at_name path ∷ ss) m ≡ at_place ss z)
    → Over e (get n z)
member_of_item path n y z e m true c is also filled values reach =
    over_same e (get n z) (sym (one_step n z) ∙ sym (reach (at_name n ∷ [])) ∙ values (operation path n) e (inl refl))
member_of_item path n y z e m false true is also filled values reach =
    map_over e (get n z) (filled also)
    (λ k v at_k.
    ap (λ q. option_and_then (get k) (get q z)) ((bytes_eq-Decides n (codes "additionalOperations")).0 also)
    ∙ sym (last_of_two (codes "additionalOperations") k z) ∙ sym (reach (at_name (codes "additionalOperations") ∷ at_name k ∷ []))
    ∙ values (named_operation path k) v (by_member (λ q x. one_slot (named_operation path q) x) (named_operation path k, v) k e v at_k (inl refl)))
member_of_item path n y z e m false false is also filled values reach =
    over_same e (get n z) (sym (one_step n z) ∙ sym (reach (at_name n ∷ [])) ∙ values (base_member path n) e (inl refl))

additional_filled : (i : Doc) (n : List ℕ) (e : Data) → IsTable path_item_object i → get n (write i) ≡ Some e → bytes_eq n (codes "additionalOperations") ≡ true → IsFilled e
additional_filled i n e t is also =
    written_filled path_item_object i (codes "additionalOperations") (named operation_object) e t refl (ap (λ q. get q (write i)) (sym ((bytes_eq-Decides n (codes "additionalOperations")).0 also)) ∙ is)

-- the slots of a member of an item are the document's
of_item : (c : Doc) (path n : List ℕ) (y e : Data) (f : Filled) → IsTable open_api_object c → is_extension path ≡ false → get path (write (paths_of c)) ≡ Some y → get n y ≡ Some e
    → IsOneOf f (item_slots path n e) → IsOneOf f (slots (write c))
of_item c path n y e f t plain has is h =
    let within : IsOneOf f (path_slots path y) =
    subst (λ b. IsOneOf f (if b then one_slot (paths_extension path) y else each_member (item_slots path) (members_at y))) (sym plain) (by_member (item_slots path) f n y e is h)
    in
    by_member member_slots f (codes "paths") (write c) (write (paths_of c)) (under_paths c t) (by_member path_slots f path (write (paths_of c)) y has within)

item_over : (c d : Doc) → TakesIn c d → (path : List ℕ) (y : Data) → is_extension path ≡ false → get path (write (paths_of c)) ≡ Some y → Over y (get path (write (paths_of d)))
item_over c d t path y plain has =
    let p = at_name path ∷ [] in
    let whole : at_place (place_of_item path) (write c) ≡ Some y = behind_step (codes "paths") p (write c) (write (paths_of c)) (under_paths c t.rest.own) ∙ one_step path (write (paths_of c)) ∙ has in
    let i = some_mapped (entry_at path (paths_of c)) y (sym (path_written path c t.rest.own plain) ∙ whole) in
    let j = t.items path i.0 plain i.1 in
    let own : IsTable path_item_object i.0 = subst (λ o. IfSome o (IsTable path_item_object)) i.1 (item_found path c t.rest.own) in
    let other : IsTable path_item_object j.0 = subst (λ o. IfSome o (IsTable path_item_object)) j.1 (item_found path d t.rest.all) in
    let z = write j.0 in
    let there : get path (write (paths_of d)) ≡ Some z =
    sym (one_step path (write (paths_of d))) ∙ sym (behind_step (codes "paths") p (write d) (write (paths_of d)) (under_paths d t.rest.all)) ∙ path_written path d t.rest.all plain ∙ ap (option_map write) j.1
    in
    let reach : (ss : Place) → at_place (at_name (codes "paths") ∷ at_name path ∷ ss) (write d) ≡ at_place ss z =
    λ ss. behind_step (codes "paths") (at_name path ∷ ss) (write d) (write (paths_of d)) (under_paths d t.rest.all) ∙ behind_step path ss (write (paths_of d)) z there
    in
    object_over y (get path (write (paths_of d))) z there (subst IsObject i.2 (table_is_object path_item_object i.0 own)) (table_is_object path_item_object j.0 other)
    (λ n e is.
    member_of_item path n y z e (write d) (is_method n) (bytes_eq n (codes "additionalOperations")) refl refl
    (additional_filled i.0 n e own (ap (get n) i.2 ∙ is))
    (λ s v h. t.values s v (of_item c path n y e (s, v) t.rest.own plain has is h)) reach)

entry_over : (c d : Doc) → TakesIn c d → (path : List ℕ) (y : Data) (b : Bool) → is_extension path ≡ b → get path (write (paths_of c)) ≡ Some y → Over y (get path (write (paths_of d)))
entry_over c d t path y false plain has = item_over c d t path y plain has
entry_over c d t path y true is has =
    let f : Filled = (paths_extension path, y) in
    let within : IsOneOf f (path_slots path y) = subst (λ b. IsOneOf f (if b then one_slot (paths_extension path) y else each_member (item_slots path) (members_at y))) (sym is) (inl refl) in
    let given = by_member member_slots f (codes "paths") (write c) (write (paths_of c)) (under_paths c t.rest.own) (by_member path_slots f path (write (paths_of c)) y has within) in
    over_same y (get path (write (paths_of d)))
    (sym (one_step path (write (paths_of d))) ∙ sym (behind_step (codes "paths") (at_name path ∷ []) (write d) (write (paths_of d)) (under_paths d t.rest.all)) ∙ t.values (paths_extension path) y given)

pub paths_object : (d : Doc) → IsTable open_api_object d → IsObject (write (paths_of d))
unfolding write
paths_object d t = subst (λ x. IsObject (write x)) (sym (paths_shape d t).is) (_, refl)

paths_over : (c d : Doc) → TakesIn c d → Over (write (paths_of c)) (get (codes "paths") (write d))
paths_over c d t =
    object_over (write (paths_of c)) (get (codes "paths") (write d)) (write (paths_of d)) (under_paths d t.rest.all) (paths_object c t.rest.own) (paths_object d t.rest.all)
    (λ path y has. entry_over c d t path y (is_extension path) refl has)

-- ---- components

map_row : (m : ComponentMap) → (k : Kind) × (row_at (map_member m) (table components_object) ≡ Some (row (map_member m) defaulted (map_of k)))
map_row schema_map = (ref_or schema, refl)
map_row response_map = (ref_or (named response_object), refl)
map_row parameter_map = (ref_or (named parameter_object), refl)
map_row example_map = (ref_or (named example_object), refl)
map_row request_body_map = (ref_or (named request_body_object), refl)
map_row header_map = (ref_or (named header_object), refl)
map_row link_map = (ref_or (named link_object), refl)
map_row callback_map = (ref_or callback, refl)
map_row path_item_map = (named path_item_object, refl)
map_row media_type_map = (ref_or (named media_type_object), refl)
map_row security_scheme_map = (ref_or security_scheme, refl)

-- the written components of a document
abbrev Components : Doc → Data → Type 0
Components d z = (x : Doc) × (write x ≡ z) × IsTable components_object x × (components_of d ≡ some_doc x)

under_components : (d : Doc) → IsTable open_api_object d → get (codes "components") (write d) ≡ stands (left_out optional (components_of d)) (write (components_of d))
under_components d t = under_row open_api_object d (codes "components") (row (codes "components") optional (named components_object)) t refl

shape : (d : Doc) → IsTable open_api_object d → (components_of d ≡ none_doc) ⊎ ((x : Doc) × (components_of d ≡ some_doc x) × IsTable components_object x)
unfolding IsUnambiguous
shape d t =
    elim (option_shape (named components_object) (components_of d) (field_of_kind open_api_object d (codes "components") (row (codes "components") optional (named components_object)) t refl)) [
      | inl p ↦ inl p
      | inr p ↦ inr (p.0, p.1, clear_table components_object p.0 p.2 (subst IsUnambiguous p.1 (field_clear open_api_object d (codes "components") t)))
    ]

components_written : (d : Doc) (z : Data) → IsTable open_api_object d → get (codes "components") (write d) ≡ Some z → Components d z
unfolding write
components_written d z t is =
    elim (shape d t) [
      | inl p ↦ absurd (none-some z (subst (λ c. stands (left_out optional c) (write c) ≡ Some z) p (sym (under_components d t) ∙ is)))
      | inr p ↦ (p.0, same_Some _ z (subst (λ c. stands (left_out optional c) (write c) ≡ Some z) p.1 (sym (under_components d t) ∙ is)), p.2, p.1)
    ]

components_there : (d : Doc) → IsTable open_api_object d → is_there (components_of d) ≡ true → (x : Doc) × IsTable components_object x × (get (codes "components") (write d) ≡ Some (write x))
unfolding write
components_there d t there =
    elim (shape d t) [
      | inl p ↦ absurd (true≢false (sym there ∙ ap is_there p))
      | inr p ↦ (p.0, p.2, under_components d t ∙ ap (λ c. stands (left_out optional c) (write c)) p.1)
    ]

abbrev AreNamed : Option Members → Type 0
AreNamed e = all_extensions (members_or_none e) ≡ true

kind_filled : (x : Doc) (kind : List ℕ) (e : Data) → IsTable components_object x → is_extension kind ≡ false → get kind (write x) ≡ Some e → IsFilled e
kind_filled x kind e t plain is =
    elim (map_or_none kind) [
      | inl m ↦ let r = map_row m.0 in written_filled components_object x (map_member m.0) r.0 e t r.1 (ap (λ k. get k (write x)) (sym m.1) ∙ is)
      | inr none ↦ absurd (none-some e (sym (under_none components_object x kind t none ∙ unnamed (members_or_none (extensions_in x)) kind (subst (λ y. AreNamed (extensions_in y)) (sym t.is) t.extended) plain) ∙ is))
    ]

kind_over : (c : Doc) (kind : List ℕ) (z w e m : Data) (b : Bool) → is_extension kind ≡ b → get (codes "components") (write c) ≡ Some z → get kind z ≡ Some e → (is_extension kind ≡ false → IsFilled e)
    → ((s : Slot) (v : Data) → IsOneOf (s, v) (slots (write c)) → is_of_item s ≡ false → at_place (place s) m ≡ Some v) → get (codes "components") m ≡ Some w → Over e (get kind w)
kind_over c kind z w e m true is has has_kind filled values there =
    let f : Filled = (components_extension kind, e) in
    let within : IsOneOf f (component_slots kind e) = subst (λ b. IsOneOf f (if b then one_slot (components_extension kind) e else entry_slots (component_entry kind) e)) (sym is) (inl refl) in
    let given = by_member member_slots f (codes "components") (write c) z has (by_member component_slots f kind z e has_kind within) in
    over_same e (get kind w) (sym (one_step kind w) ∙ sym (behind_step (codes "components") (at_name kind ∷ []) m w there) ∙ values (components_extension kind) e given refl)
kind_over c kind z w e m false is has has_kind filled values there =
    map_over e (get kind w) (filled is)
    (λ k v at_k.
    let f : Filled = (component_entry kind k, v) in
    let entry = by_member (λ q x. one_slot (component_entry kind q) x) f k e v at_k (inl refl) in
    let within : IsOneOf f (component_slots kind e) = subst (λ b. IsOneOf f (if b then one_slot (components_extension kind) e else entry_slots (component_entry kind) e)) (sym is) entry in
    let given = by_member member_slots f (codes "components") (write c) z has (by_member component_slots f kind z e has_kind within) in
    sym (last_of_two kind k w) ∙ sym (behind_step (codes "components") (at_name kind ∷ at_name k ∷ []) m w there) ∙ values (component_entry kind k) v given refl)

components_over : (c d : Doc) → TakesRest c d → (z : Data) → get (codes "components") (write c) ≡ Some z → Over z (get (codes "components") (write d))
components_over c d t z has =
    let x = components_written c z t.own has in
    let y = components_there d t.all (t.components (ap is_there x.3)) in
    object_over z (get (codes "components") (write d)) (write y.0) y.2 (subst IsObject x.1 (table_is_object components_object x.0 x.2)) (table_is_object components_object y.0 y.1)
    (λ kind e is. kind_over c kind z (write y.0) e (write d) (is_extension kind) refl has is (λ plain. kind_filled x.0 kind e x.2 plain (ap (get kind) x.1 ∙ is)) t.values y.2)

-- ---- lists that are joined

joined_row : (j : Joined) → (k : Kind) × (row_at (joined_member j) (table open_api_object) ≡ Some (row (joined_member j) optional (list_of k)))
joined_row servers_joined = (named server_object, refl)
joined_row security_joined = (security_requirement, refl)
joined_row tags_joined = (named tag_object, refl)

-- a list that is there, and what it is written as
abbrev ListAt : Joined → Doc → Docs → Type 0
ListAt j d ds = (joined_of j d ≡ some_doc (list_doc ds)) × (get (joined_member j) (write d) ≡ Some (array (write_items ds)))

list_at : (j : Joined) (d : Doc) → IsTable open_api_object d → ((joined_of j d ≡ none_doc) × (get (joined_member j) (write d) ≡ None)) ⊎ ((ds : Docs) × ListAt j d ds)
unfolding write
list_at j d t =
    let r = joined_row j in
    let under = under_row open_api_object d (joined_member j) (row (joined_member j) optional (list_of r.0)) t r.1 in
    elim (option_shape (list_of r.0) (joined_of j d) (field_of_kind open_api_object d (joined_member j) (row (joined_member j) optional (list_of r.0)) t r.1)) [
      | inl p ↦ inl (p, under ∙ ap (λ f. stands (left_out optional f) (write f)) p)
      | inr p ↦
          let l = list_shape r.0 p.0 p.2 in
          let is : joined_of j d ≡ some_doc (list_doc l.0) = p.1 ∙ ap some_doc l.1 in
          inr (l.0, (is, under ∙ ap (λ f. stands (left_out optional f) (write f)) is))
    ]

-- an item of a written list is what an entry is written as
entry_of : (ds : Docs) (i : ℕ) (y : Data) → get_item i (write_items ds) ≡ Some y → (x : Doc) × Contains (list_in ds) x × (y ≡ write x)
unfolding write_items
entry_of no_docs i y is = absurd (none-some y is)
entry_of (doc d ds) zero y is = (d, (0, omega arith, refl), sym (same_Some (write d) y is))
entry_of (doc d ds) (suc i) y is = let more = entry_of ds i y is in (more.0, (suc more.1.0, omega (arith, more.1.1), more.1.2), more.2)

-- and each entry is written as an item
written_entry : (ds : Docs) (x : Doc) (n : ℕ) → n < length (list_in ds) → slice_index_or (list_in ds) n x ≡ x → get_item n (write_items ds) ≡ Some (write x)
unfolding write_items
written_entry no_docs x n less is = absurd (omega (arith, less))
written_entry (doc d ds) x zero less is = ap (λ y. Some (write y)) is
written_entry (doc d ds) x (suc n) less is = written_entry ds x n (omega (arith, less)) is

-- an item that a tree has at an index
had_item : (w : Data) (k i : ℕ) (ds : Items) (e : Data) → HasItems w k ds → get_item i ds ≡ Some e → Written (at (k + i) w) (λ y. Has y e)
had_item w k i no_items e h is = absurd (none-some e is)
had_item w k zero (item d ds) e h is =
    let number : k + 0 ≡ k = omega arith in
    subst (λ n. Written (at n w) (λ y. Has y e)) (sym number) (subst (λ x. Written (at k w) (λ y. Has y x)) (same_Some d e is) h.0)
had_item w k (suc i) (item d ds) e h is =
    let number : k + suc i ≡ suc k + i = omega arith in
    subst (λ n. Written (at n w) (λ y. Has y e)) (sym number) (had_item w (suc k) i ds e h.1 is)

pub written_is : (o : Option Data) (P : Data → Type 0) → Written o P → (y : Data) × (o ≡ Some y) × P y
written_is None P h = absurd h
written_is (Some y) P h = (y, refl, h)

among : (es ds : Docs) (x : Data) → ((d : Doc) → Contains (list_in es) d → Contains (list_in ds) d) → Has (array (write_items es)) x → IsAmong (array (write_items ds)) x
among es ds null all h = let e : array (write_items es) ≡ null = h in cc
among es ds (boolean b) all h = let e : array (write_items es) ≡ boolean b = h in cc
among es ds (number n) all h = let e : array (write_items es) ≡ number h.0 = h.1 in cc
among es ds (string s) all h = let e : array (write_items es) ≡ string s = h in cc
among es ds (object ms) all h = let e : array (write_items es) ≡ object h.0.0 = h.0.1 in cc
among es ds (array xs) all h = (
  (write_items ds, refl),
  λ i e is.
      let number : 0 + i ≡ i = omega arith in
      let y = written_is (get_item i (write_items es)) (λ z. Has z e) (subst (λ n. Written (at n (array (write_items es))) (λ z. Has z e)) number (had_item (array (write_items es)) 0 i xs e h.1 is)) in
      let x = entry_of es i y.0 y.1 in
      let there = all x.0 x.1 in
      (there.0, y.0, written_entry ds x.0 there.0 there.1 there.2 ∙ ap Some (sym x.2), y.2),
)

joined_stands : (c d : Doc) → TakesRest c d → (j : Joined) (w x : Data) → get (joined_member j) (write c) ≡ Some w → Has w x → Written (get (joined_member j) (write d)) (λ y. IsAmong y x)
joined_stands c d t j w x is h =
    elim (list_at j c t.own) [
      | inl p ↦ absurd (none-some w (sym p.1 ∙ is))
      | inr p ↦
          elim (list_at j d t.all) [
            | inl q ↦ absurd (true≢false (sym (t.lists j (ap is_there p.1.0)) ∙ ap is_there q.0))
            | inr q ↦
                let had : Has (array (write_items p.0)) x = subst (λ y. Has y x) (same_Some w (array (write_items p.0)) (sym is ∙ p.1.1)) h in
                let all : (e : Doc) → Contains (list_in p.0) e → Contains (list_in q.0) e =
                λ e there. subst (λ l. Contains (items_in l) e) q.1.0 (t.entries j e (subst (λ l. Contains (items_in l) e) (sym p.1.0) there))
                in
                subst (λ o. Written o (λ y. IsAmong y x)) (sym q.1.1) (among p.0 q.0 x all had)
          ]
    ]

-- which list a name is that of
joined_by : (b c : Bool) (name : List ℕ) → bytes_eq name (codes "servers") ≡ b → bytes_eq name (codes "security") ≡ c → b || (c || (bytes_eq name (codes "tags") || false)) ≡ true → (j : Joined) × (name ≡ joined_member j)
joined_by true c name is also h = (servers_joined, (bytes_eq-Decides name (codes "servers")).0 is)
joined_by false true name is also h = (security_joined, (bytes_eq-Decides name (codes "security")).0 also)
joined_by false false name is also h = (tags_joined, (bytes_eq-Decides name (codes "tags")).0 (or_none (bytes_eq name (codes "tags")) h))
  where
    or_none : (b : Bool) → b || false ≡ true → b ≡ true
    or_none true h = refl
    or_none false h = h

-- ---- all members

rest_over : (c d : Doc) → TakesRest c d → (name : List ℕ) (w : Data) (f : Bool) → is_joined name ≡ false → bytes_eq name (codes "paths") ≡ false → bytes_eq name (codes "components") ≡ f → get name (write c) ≡ Some w → Over w (get name (write d))
rest_over c d t name w true plain is also has =
    let same = (bytes_eq-Decides name (codes "components")).0 also in
    subst (λ k. Over w (get k (write d))) (sym same) (components_over c d t w (ap (λ k. get k (write c)) (sym same) ∙ has))
rest_over c d t name w false plain is also has =
    let f : Filled = (document_member name, w) in
    let last : IsOneOf f (if bytes_eq name (codes "components") then each_member component_slots (members_at w) else one_slot (document_member name) w) =
    subst (λ b. IsOneOf f (if b then each_member component_slots (members_at w) else one_slot (document_member name) w)) (sym also) (inl refl)
    in
    let rest : List Filled = if bytes_eq name (codes "components") then each_member component_slots (members_at w) else one_slot (document_member name) w in
    let own : IsOneOf f (member_slots name w) =
    subst (λ b. IsOneOf f (if b then [] else (if bytes_eq name (codes "paths") then each_member path_slots (members_at w) else rest))) (sym plain)
    (subst (λ b. IsOneOf f (if b then each_member path_slots (members_at w) else rest)) (sym is) last)
    in
    over_same w (get name (write d)) (sym (one_step name (write d)) ∙ t.values (document_member name) w (by_member member_slots f name (write c) w has own) refl)

rest_by : (c d : Doc) → TakesRest c d → (name : List ℕ) (x w : Data) (b : Bool) → is_joined name ≡ b → bytes_eq name (codes "paths") ≡ false → get name (write c) ≡ Some w → Has w x → Written (get name (write d)) (λ y. StandsBy b y x)
rest_by c d t name x w true is other has h =
    let j = joined_by (bytes_eq name (codes "servers")) (bytes_eq name (codes "security")) name refl refl is in
    subst (λ k. Written (get k (write d)) (λ y. IsAmong y x)) (sym j.1) (joined_stands c d t j.0 w x (ap (λ k. get k (write c)) (sym j.1) ∙ has) h)
rest_by c d t name x w false is other has h = rest_over c d t name w (bytes_eq name (codes "components")) is other refl has x h

-- a member that is not `paths`
pub rest_stands : (c d : Doc) → TakesRest c d → (name : List ℕ) (x : Data) → bytes_eq name (codes "paths") ≡ false → Written (get name (write c)) (λ w. Has w x) → MemberStands (write d) name x
rest_stands c d t name x other h = let w = written_is (get name (write c)) (λ y. Has y x) h in rest_by c d t name x w.0 (is_joined name) refl other w.1 w.2

-- what stands under `paths`
pub under_paths_is : (c : Doc) (name : List ℕ) (x : Data) → IsTable open_api_object c → bytes_eq name (codes "paths") ≡ true → Written (get name (write c)) (λ w. Has w x) → Has (write (paths_of c)) x
under_paths_is c name x t is h =
    subst (λ o. Written o (λ w. Has w x)) (ap (λ k. get k (write c)) ((bytes_eq-Decides name (codes "paths")).0 is) ∙ under_paths c t) h

member_by : (c d : Doc) → TakesIn c d → (name : List ℕ) (x : Data) (b : Bool) → bytes_eq name (codes "paths") ≡ b → Written (get name (write c)) (λ w. Has w x) → MemberStands (write d) name x
member_by c d t name x false other h = rest_stands c d t.rest name x other h
member_by c d t name x true is h =
    subst (λ k. MemberStands (write d) k x) (sym ((bytes_eq-Decides name (codes "paths")).0 is)) (paths_over c d t x (under_paths_is c name x t.rest.own is h))

members_stand : (c d : Doc) → TakesIn c d → (ms : Members) → HasMembers (write c) ms → EachMember (MemberStands (write d)) ms
members_stand c d t no_members h = tt
members_stand c d t (member k x ms) h = (member_by c d t k x (bytes_eq k (codes "paths")) refl h.0, members_stand c d t ms h.1)

pub stands_in : (c d : Doc) → TakesIn c d → (tree : Data) → Has (write c) tree → StandsIn (write d) tree
stands_in c d t null h = tt
stands_in c d t (boolean b) h = tt
stands_in c d t (number n) h = tt
stands_in c d t (string s) h = tt
stands_in c d t (array ds) h = tt
stands_in c d t (object ms) h = members_stand c d t ms h.1
