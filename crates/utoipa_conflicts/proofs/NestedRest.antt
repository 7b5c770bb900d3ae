-- What is lost where a document is nested into another is what is told.
use Rattle.std.proofs.Common.{◌≡◌, ◌↔◌, inl, inr, ℕ, List, [], ◌∷◌, ◌++◌, ◌==◌, Bool, true, false, if◌then◌else◌, Option, None, Some, IfSome, is_some, option_map, refl, sym, ap, ◌∙◌, subst, true≢false, codes}
use Rattle.std.proofs.lemmas.List.Elements.{recursion_from_All}
use Rattle.std.proofs.lemmas.Option.{none-some, same_Some}
use Rattle.std.proofs.lemmas.Slice.Eq.{bytes_eq-Decides}
use Rattle.std.specs.List.{AllByRecursion}
use Rattle.std.specs.Option.{option_or}
use Rattle.serde_json.specs.Data.{Data, Members, no_members, member}
use Rattle.serde_json.specs.Find.{get, get_member}
use Rattle.utoipa_base.specs.Docs.{Doc, Entries, no_entries}
use Rattle.utoipa_base.specs.Extensions.{is_extension, members_or_none}
use Rattle.utoipa_base.specs.Kinds.{open_api_object}
use Rattle.utoipa_base.specs.Writing.{write}
use Rattle.utoipa_base.proofs.BoolFacts.{not_true}
use Rattle.utoipa_base.specs.EachMember.{each_member}
use Rattle.utoipa_merging.specs.Nested.{with_paths}
use Rattle.utoipa_merging.specs.Slots.{field_at, extensions_in, entry_at, parts, fixed_members, paths_of, components_of}
use Rattle.utoipa_merging.proofs.Nesting.{nested_extension_values}
use Rattle.utoipa_check.specs.Misfits.{at_name}
use Rattle.utoipa_check.specs.Places.{members_at}
use Rattle.utoipa_conflicts.specs.Conflicts.{Slot, document_member, component_entry, components_extension, paths_extension, operation, named_operation, base_member, place, place_of_item, Filled, slots, Conflict, dropped_by}
use Rattle.utoipa_conflicts.specs.Holders.{IsItemApart, ArePathsApart, IsNamedOnce}
use Rattle.utoipa_conflicts.specs.IsConflict.{IsOneOf}
use Rattle.utoipa_conflicts.specs.Merged.{is_slot}
use Rattle.utoipa_conflicts.specs.Nested.{ItemAt, item_unless_extension, items_in, path_items, answered, item_if, put_at, unless_same, covered, own_decides, rest_dropped, nested_conflicts}
use Rattle.utoipa_conflicts.specs.NestedInto.{IsNoExtension, AreNestedInto, is_of_item, IsItemLost, IsRestLost, IsLostByNesting}
use Rattle.utoipa_conflicts.specs.Same.{is_same, is_value}
use Rattle.utoipa_conflicts.specs.Trees.{Place, at_place}
use Rattle.utoipa_conflicts.proofs.Listed.{in_first, in_second, in_either, in_each, from_each, is_dropped, decided}
use Rattle.utoipa_conflicts.proofs.NamedOnce.{given_in, behind, slot_stands}
use Rattle.utoipa_conflicts.proofs.NestedPaths.{own_table, other_table, nested_table, item_at_path}
use Rattle.utoipa_conflicts.proofs.SameTrees.{itself}
use Rattle.utoipa_conflicts.proofs.WhatIsLost.{are_slots}
use Rattle.utoipa_conflicts.proofs.Written.{IsTable}
use Rattle.utoipa_conflicts.proofs.WrittenSlots.{one_step, map_or_none, no_component, component_written, components_extension_written, paths_extension_written, same_fixed}

-- ---- what is no part of an item

parts_kept : (es : Entries) (e : Option Members) (d : Doc) → IsTable open_api_object d → parts fixed_members (with_paths es e d) ≡ parts fixed_members d
parts_kept es e d t = subst (λ x. parts fixed_members (with_paths es e x) ≡ parts fixed_members x) (sym t.is) refl

components_kept : (es : Entries) (e : Option Members) (d : Doc) → IsTable open_api_object d → components_of (with_paths es e d) ≡ components_of d
components_kept es e d t = subst (λ x. components_of (with_paths es e x) ≡ components_of x) (sym t.is) refl

-- what is kept of two values by whether the first is there
first_kept : (a b : Option Doc) → option_map write (option_or a (option_or b None)) ≡ (if is_some (option_map write a) then option_map write a else option_map write b)
first_kept None None = refl
first_kept None (Some y) = refl
first_kept (Some x) b = refl

-- what stands in such a slot of what comes of nesting
abbrev StandsBy : Slot → (own other d : Doc) → Type 0
StandsBy s own other d = at_place (place s) (write d) ≡ (if own_decides s (write own) then at_place (place s) (write own) else at_place (place s) (write other))

by_own : (b : Bool) (o p q : Option Data) → b ≡ true → o ≡ p → o ≡ (if b then p else q)
by_own b o p q is same = same ∙ ap (λ x. if x then p else q) (sym is)

of_member : (name : List ℕ) (answers : List (List ℕ)) (own other d : Doc) → AreNestedInto answers own other d → is_slot (document_member name) ≡ true → StandsBy (document_member name) own other d
of_member name answers own other d n is =
    let s = own_table answers own other d n in
    let same : parts fixed_members d ≡ parts fixed_members own = same_Some _ _ n.nested.merged.fixed ∙ parts_kept n.nested.items (extensions_in (paths_of own)) own s in
    one_step name (write d) ∙ same_fixed name d own (nested_table answers own other d n) s same (not_true _ is) ∙ sym (one_step name (write own))

of_components_extension : (name : List ℕ) (answers : List (List ℕ)) (own other d : Doc) → AreNestedInto answers own other d → is_slot (components_extension name) ≡ true → StandsBy (components_extension name) own other d
of_components_extension name answers own other d n is =
    let s = own_table answers own other d n in
    let same : extensions_in (components_of d) ≡ extensions_in (components_of own) =
    same_Some _ _ n.nested.merged.components.extensions ∙ ap extensions_in (components_kept n.nested.items (extensions_in (paths_of own)) own s)
    in
    components_extension_written name d (nested_table answers own other d n) is ∙ ap (λ e. get_member name (members_or_none e)) same ∙ sym (components_extension_written name own s is)

of_paths_extension : (name : List ℕ) (answers : List (List ℕ)) (own other d : Doc) → AreNestedInto answers own other d → is_slot (paths_extension name) ≡ true → StandsBy (paths_extension name) own other d
of_paths_extension name answers own other d n is =
    paths_extension_written name d (nested_table answers own other d n) is ∙ nested_extension_values answers own other d n.own_kind n.other_kind n.nested name
    ∙ sym (paths_extension_written name own (own_table answers own other d n) is)

-- where both have the trees of these
by_trees : (o p : Option Data) (a b : Option Doc) → o ≡ option_map write a → p ≡ option_map write b → (if is_some (option_map write a) then option_map write a else option_map write b) ≡ (if is_some o then o else p)
by_trees o p a b is also = ap (λ x. if is_some x then x else option_map write b) (sym is) ∙ ap (λ x. if is_some o then o else x) (sym also)

of_component : (kind name : List ℕ) (answers : List (List ℕ)) (own other d : Doc) → AreNestedInto answers own other d → is_slot (component_entry kind name) ≡ true → StandsBy (component_entry kind name) own other d
of_component kind name answers own other d n is =
    let plain = not_true (is_extension kind) is in
    let s = own_table answers own other d n in
    let t = other_table answers own other d n in
    let u = nested_table answers own other d n in
    let p = place (component_entry kind name) in
    elim (map_or_none kind) [
      | inl m ↦
          let a = entry_at name (field_at kind (components_of own)) in
          let b = entry_at name (field_at kind (components_of other)) in
          let merged : entry_at name (field_at kind (components_of d)) ≡ option_or a (option_or b None) =
          subst (λ k. entry_at name (field_at k (components_of d)) ≡ option_or (entry_at name (field_at k (components_of (with_paths n.nested.items (extensions_in (paths_of own)) own)))) (option_or (entry_at name (field_at k (components_of (with_paths no_entries None other)))) None)) (sym m.1) (n.nested.merged.components.maps m.0 name)
          ∙ ap (λ c. option_or (entry_at name (field_at kind c)) (option_or (entry_at name (field_at kind (components_of (with_paths no_entries None other)))) None)) (components_kept n.nested.items (extensions_in (paths_of own)) own s)
          ∙ ap (λ c. option_or a (option_or (entry_at name (field_at kind c)) None)) (components_kept no_entries None other t)
          in
          component_written kind name d u plain ∙ ap (option_map write) merged ∙ first_kept a b
          ∙ by_trees (at_place p (write own)) (at_place p (write other)) a b (component_written kind name own s plain) (component_written kind name other t plain)
      | inr none ↦
          no_component kind name d u plain none
          ∙ sym (ap (λ o. if is_some o then o else at_place p (write other)) (no_component kind name own s plain none) ∙ no_component kind name other t plain none)
    ]

rest_at : (s : Slot) (answers : List (List ℕ)) (own other d : Doc) → AreNestedInto answers own other d → is_slot s ≡ true → is_of_item s ≡ false → StandsBy s own other d
rest_at (document_member name) answers own other d n is rest = of_member name answers own other d n is
rest_at (component_entry kind name) answers own other d n is rest = of_component kind name answers own other d n is
rest_at (components_extension name) answers own other d n is rest = of_components_extension name answers own other d n is
rest_at (paths_extension name) answers own other d n is rest = of_paths_extension name answers own other d n is
rest_at (operation path method) answers own other d n is rest = absurd (true≢false rest)
rest_at (named_operation path name) answers own other d n is rest = absurd (true≢false rest)
rest_at (base_member path name) answers own other d n is rest = absurd (true≢false rest)

decides_rest : (s : Slot) (own : Data) → own_decides s own ≡ true → is_of_item s ≡ false
decides_rest (document_member name) own h = refl
decides_rest (component_entry kind name) own h = refl
decides_rest (components_extension name) own h = refl
decides_rest (paths_extension name) own h = refl
decides_rest (operation path method) own h = absurd (true≢false (sym h))
decides_rest (named_operation path name) own h = absurd (true≢false (sym h))
decides_rest (base_member path name) own h = absurd (true≢false (sym h))

-- ---- items

unless_extension : (b : Bool) (k : List ℕ) (d : Data) (x : ItemAt) → is_extension k ≡ b → IsOneOf x (if b then [] else (k, d) ∷ []) → (x ≡ (k, d)) × (is_extension k ≡ false)
unless_extension true k d x is h = absurd h
unless_extension false k d x is (inl e) = (e, is)
unless_extension false k d x is (inr e) = absurd e

plain_each : (x : ItemAt) (ms : Members) → IsOneOf x (each_member item_unless_extension ms) → is_extension x.0 ≡ false
plain_each x no_members h = absurd h
plain_each x (member k d ms) h =
    elim (in_either x (item_unless_extension k d) (each_member item_unless_extension ms) h) [
      | inl g ↦ (let own = unless_extension (is_extension k) k d x refl g in ap (λ i. is_extension i.0) own.0 ∙ own.1)
      | inr g ↦ plain_each x ms g
    ]

plain_at : (x : ItemAt) (o : Option Data) → IsOneOf x (items_in o) → is_extension x.0 ≡ false
plain_at x None h = absurd h
plain_at x (Some p) h = plain_each x (members_at p) h

answered_plain : (x : ItemAt) (answers : List (List ℕ)) (items : List ItemAt) → AllByRecursion IsNoExtension answers → IsOneOf x (answered answers items) → is_extension x.0 ≡ false
answered_plain x [] items plain h = absurd h
answered_plain x (a ∷ answers) [] plain h = absurd h
answered_plain x (a ∷ answers) (i ∷ items) plain (inl e) = ap (λ y. is_extension y.0) e ∙ plain.0
answered_plain x (a ∷ answers) (i ∷ items) plain (inr h) = answered_plain x answers items plain.1 h

-- an item stands at its path
stands_at : (x : ItemAt) (t : Data) (o : Option Data) → get (codes "paths") t ≡ o → IfSome o ArePathsApart → IsOneOf x (items_in o) → at_place (place_of_item x.0) t ≡ Some x.1
stands_at x t None is apart h = absurd h
stands_at x t (Some p) is apart h =
    let given = given_in item_unless_extension x IsItemApart p apart.0 apart.1 h in
    let own = unless_extension (is_extension given.0) given.0 given.1 x refl given.4 in
    subst (λ i. at_place (place_of_item i.0) t ≡ Some i.1) (sym own.0) (behind (codes "paths") (at_name given.0 ∷ []) t p (Some given.1) is (behind given.0 [] p given.1 (Some given.1) given.2 refl))

-- an item that is put is not the last at its path only where there is a later one
put_there : (x : ItemAt) (put : List ItemAt) → IsOneOf x put → put_at put x.0 ≡ None → ⊥
put_there x [] h none = absurd h
put_there x (i ∷ put) (inl e) none = go (put_at put x.0) none
  where
    itself_there : item_if x.0 i ≡ Some i.1
    itself_there = ap (λ b. if b then Some i.1 else None) ((bytes_eq-Decides x.0 i.0).1 (ap (λ y. y.0) e))

    go : (o : Option Data) → option_or o (item_if x.0 i) ≡ None → ⊥
    go None h = none-some i.1 (sym h ∙ itself_there)
    go (Some d) h = none-some d (sym h)
put_there x (i ∷ put) (inr g) none = put_there x put g (first_none (put_at put x.0) (item_if x.0 i) none)
  where
    first_none : (o q : Option Data) → option_or o q ≡ None → o ≡ None
    first_none None q h = refl
    first_none (Some d) q h = h

-- ---- one item that is told, or lost

was_unless : (p : Place) (i j : ℕ) (d : Data) (o : Option Data) (y : Conflict) → IsOneOf y (unless_same p i j d o) → (e : Data) × (o ≡ Some e) × (is_same d e ≡ false) × (y ≡ (p, i, j))
was_unless p i j d None y h = absurd h
was_unless p i j d (Some e) y h = go (is_same d e) refl h
  where
    go : (b : Bool) → is_same d e ≡ b → IsOneOf y (if b then [] else (p, i, j) ∷ []) → (f : Data) × (Some e ≡ Some f) × (is_same d f ≡ false) × (y ≡ (p, i, j))
    go true is g = absurd g
    go false is (inl same) = (e, refl, is, same)
    go false is (inr g) = absurd g

is_unless : (p : Place) (i j : ℕ) (d e : Data) (o : Option Data) → o ≡ Some e → is_same d e ≡ false → IsOneOf (p, i, j) (unless_same p i j d o)
is_unless p i j d e o is other =
    subst (λ q. IsOneOf {A = Conflict} (p, i, j) (unless_same p i j d q)) (sym is) (subst (λ b. IsOneOf {A = Conflict} (p, i, j) (if b then [] else (p, i, j) ∷ [])) (sym other) (inl refl))

-- items that are told are lost
told_items : (items put : List ItemAt) (own d : Doc) (jj : ℕ) (p : Place) (i j : ℕ)
    → ((path : List ℕ) → is_extension path ≡ false → at_place (place_of_item path) (write d) ≡ option_or (put_at put path) (at_place (place_of_item path) (write own)))
    → ((x : ItemAt) → IsOneOf x items → is_extension x.0 ≡ false) → IsOneOf (p, i, j) (covered put jj items) → (j ≡ jj) × IsItemLost items d p
told_items items put own d jj p i j at plain h =
    let x = from_each (λ k. unless_same (place_of_item k.0) 1 jj k.1 (put_at put k.0)) items (p, i, j) h in
    let was = was_unless (place_of_item x.0.0) 1 jj x.0.1 (put_at put x.0.0) (p, i, j) x.2 in
    let here : p ≡ place_of_item x.0.0 = ap (λ c. c.0) was.3 in
    let stands : at_place (place_of_item x.0.0) (write d) ≡ Some was.0 =
    at x.0.0 (plain x.0 x.1) ∙ ap (λ o. option_or o (at_place (place_of_item x.0.0) (write own))) was.1
    in
    (ap (λ c. c.2) was.3, (x.0, x.1, here, ap (λ q. is_value x.0.1 (at_place q (write d))) here ∙ ap (is_value x.0.1) stands ∙ was.2))

-- and those that are lost are told
lost_items : (items put : List ItemAt) (own d : Doc) (j : ℕ) (p : Place)
    → ((path : List ℕ) → is_extension path ≡ false → at_place (place_of_item path) (write d) ≡ option_or (put_at put path) (at_place (place_of_item path) (write own)))
    → ((x : ItemAt) → IsOneOf x items → is_extension x.0 ≡ false) → ((x : ItemAt) → IsOneOf x items → put_at put x.0 ≡ None → at_place (place_of_item x.0) (write own) ≡ Some x.1)
    → IsItemLost items d p → IsOneOf (p, 1, j) (covered put j items)
lost_items items put own d j p at plain stands lost = go (put_at put x.0) refl
  where
    x : ItemAt
    x = lost.0

    lacks : is_value x.1 (option_or (put_at put x.0) (at_place (place_of_item x.0) (write own))) ≡ false
    lacks = ap (is_value x.1) (sym (at x.0 (plain x lost.1))) ∙ ap (λ q. is_value x.1 (at_place q (write d))) (sym lost.2) ∙ lost.3

    told : (e : Data) → put_at put x.0 ≡ Some e → is_same x.1 e ≡ false → IsOneOf (p, 1, j) (covered put j items)
    told e is other =
        subst (λ q. IsOneOf (q, 1, j) (covered put j items)) (sym lost.2)
        (in_each (λ k. unless_same (place_of_item k.0) 1 j k.1 (put_at put k.0)) x items (place_of_item x.0, 1, j) lost.1 (is_unless (place_of_item x.0) 1 j x.1 e (put_at put x.0) is other))

    go : (o : Option Data) → put_at put x.0 ≡ o → IsOneOf (p, 1, j) (covered put j items)
    go None is =
        absurd
        (true≢false
        (sym (ap (λ o. is_value x.1 (option_or o (at_place (place_of_item x.0) (write own)))) is ∙ ap (is_value x.1) (stands x lost.1 is) ∙ itself x.1) ∙ lacks))
    go (Some e) is = told e is (sym (ap (λ o. is_value x.1 (option_or o (at_place (place_of_item x.0) (write own)))) is) ∙ lacks)

-- ---- the rest

told_rest : (answers : List (List ℕ)) (own other d : Doc) → AreNestedInto answers own other d → (p : Place) (i j : ℕ) → IsOneOf (p, i, j) (rest_dropped (write own) (write other)) → (j ≡ 1) × IsRestLost other d p
told_rest answers own other d n p i j h =
    let f = from_each (λ s. if own_decides s.0 (write own) then dropped_by 1 s (Some (0, write own)) else []) (slots (write other)) (p, i, j) h in
    go f.0 f.1 (own_decides f.0.0 (write own)) refl f.2
  where
    go : (f : Filled) → IsOneOf f (slots (write other)) → (b : Bool) → own_decides f.0 (write own) ≡ b → IsOneOf (p, i, j) (if b then dropped_by 1 f (Some (0, write own)) else []) → (j ≡ 1) × IsRestLost other d p
    go f one false is g = absurd g
    go f one true is g =
        let by = decided 1 f (Some (0, write own)) (p, i, j) g in
        let rest = decides_rest f.0 (write own) is in
        let here : p ≡ place f.0 = ap (λ c. c.0) by.4 in
        let tree : write own ≡ by.0.1 = ap (λ t. t.1) (same_Some (0, write own) by.0 by.1) in
        let stands : at_place (place f.0) (write d) ≡ at_place (place f.0) (write own) =
        rest_at f.0 answers own other d n (are_slots (write other) f one) rest ∙ ap (λ b. if b then at_place (place f.0) (write own) else at_place (place f.0) (write other)) is
        in
        let lacks : is_value f.1 (at_place p (write d)) ≡ false =
        ap (λ q. is_value f.1 (at_place q (write d))) here ∙ ap (is_value f.1) (stands ∙ ap (at_place (place f.0)) tree) ∙ by.3
        in
        (ap (λ c. c.2) by.4, (f.0, f.1, here, one, rest, lacks))

lost_rest : (answers : List (List ℕ)) (own other d : Doc) → AreNestedInto answers own other d → IsNamedOnce (write other) → (p : Place) → IsRestLost other d p → IsOneOf (p, 0, 1) (rest_dropped (write own) (write other))
lost_rest answers own other d n once p lost = go (own_decides s (write own)) refl
  where
    s : Slot
    s = lost.0

    v : Data
    v = lost.1

    stands : at_place (place s) (write d) ≡ (if own_decides s (write own) then at_place (place s) (write own) else at_place (place s) (write other))
    stands = rest_at s answers own other d n (are_slots (write other) (s, v) lost.3) lost.4

    lacks : is_value v (if own_decides s (write own) then at_place (place s) (write own) else at_place (place s) (write other)) ≡ false
    lacks = ap (is_value v) (sym stands) ∙ ap (λ q. is_value v (at_place q (write d))) (sym lost.2) ∙ lost.5

    go : (b : Bool) → own_decides s (write own) ≡ b → IsOneOf (p, 0, 1) (rest_dropped (write own) (write other))
    go true is =
        let other_value : is_value v (at_place (place s) (write own)) ≡ false =
        sym (ap (λ b. is_value v (if b then at_place (place s) (write own) else at_place (place s) (write other))) is) ∙ lacks
        in
        subst (λ q. IsOneOf (q, 0, 1) (rest_dropped (write own) (write other))) (sym lost.2)
        (in_each (λ f. if own_decides f.0 (write own) then dropped_by 1 f (Some (0, write own)) else []) (s, v) (slots (write other)) (place s, 0, 1) lost.3
        (subst (λ b. IsOneOf (place s, 0, 1) (if b then dropped_by 1 (s, v) (Some (0, write own)) else [])) (sym is)
        (is_dropped (0 == 1) (is_value v (at_place (place s) (write own))) (place s) 0 1 refl other_value)))
    go false is =
        absurd
        (true≢false
        (sym (ap (λ b. is_value v (if b then at_place (place s) (write own) else at_place (place s) (write other))) is ∙ ap (is_value v) (slot_stands (write other) (s, v) once lost.3) ∙ itself v) ∙ lacks))

-- ---- all

pub told_where_nested : (answers : List (List ℕ)) (own other d : Doc) → AreNestedInto answers own other d → IsNamedOnce (write own) → IsNamedOnce (write other) → (p : Place) (j : ℕ)
    → ((i : ℕ) × IsOneOf (p, i, j) (nested_conflicts answers (write own) (write other))) ↔ IsLostByNesting answers own other d p j
told_where_nested answers own other d n once also p j = (λ told. of_told told.0 told.1, of_lost)
  where
    put : List ItemAt
    put = answered answers (path_items (write other))

    at : (path : List ℕ) → is_extension path ≡ false → at_place (place_of_item path) (write d) ≡ option_or (put_at (answered answers (path_items (write other))) path) (at_place (place_of_item path) (write own))
    at = item_at_path answers own other d n

    plain : (x : ItemAt) → IsOneOf x (path_items (write own)) → is_extension x.0 ≡ false
    plain x h = plain_at x (get (codes "paths") (write own)) h

    put_plain : (x : ItemAt) → IsOneOf x (answered answers (path_items (write other))) → is_extension x.0 ≡ false
    put_plain x h = answered_plain x answers (path_items (write other)) (recursion_from_All IsNoExtension answers n.answered) h

    of_told : (i : ℕ) → IsOneOf (p, i, j) (nested_conflicts answers (write own) (write other)) → IsLostByNesting answers own other d p j
    of_told i h =
        let all = answered answers (path_items (write other)) in
        elim (in_either (p, i, j) (covered all 0 (path_items (write own))) (covered all 1 all ++ rest_dropped (write own) (write other)) h) [
          | inl g ↦ inl (told_items (path_items (write own)) all own d 0 p i j at plain g)
          | inr g ↦ elim (in_either (p, i, j) (covered all 1 all) (rest_dropped (write own) (write other)) g) [
            | inl k ↦ (let t = told_items all all own d 1 p i j at put_plain k in inr (t.0, inl t.1))
            | inr k ↦ (let t = told_rest answers own other d n p i j k in inr (t.0, inr t.1))
          ]
        ]

    of_lost : IsLostByNesting answers own other d p j → (i : ℕ) × IsOneOf (p, i, j) (nested_conflicts answers (write own) (write other))
    of_lost (inl l) =
        let all = answered answers (path_items (write other)) in (
          1,
          subst (λ k. IsOneOf (p, 1, k) (nested_conflicts answers (write own) (write other))) (sym l.0)
              (in_first (p, 1, 0) (covered all 0 (path_items (write own))) (covered all 1 all ++ rest_dropped (write own) (write other))
              (lost_items (path_items (write own)) all own d 0 p at plain (λ x h none. stands_at x (write own) (get (codes "paths") (write own)) refl once.1.1 h) l.1)),
        )
    of_lost (inr (same, inl l)) =
        let all = answered answers (path_items (write other)) in (
          1,
          subst (λ k. IsOneOf (p, 1, k) (nested_conflicts answers (write own) (write other))) (sym same)
              (in_second (p, 1, 1) (covered all 0 (path_items (write own))) (covered all 1 all ++ rest_dropped (write own) (write other))
              (in_first (p, 1, 1) (covered all 1 all) (rest_dropped (write own) (write other)) (lost_items all all own d 1 p at put_plain (λ x h none. absurd (put_there x all h none)) l))),
        )
    of_lost (inr (same, inr l)) =
        let all = answered answers (path_items (write other)) in (
          0,
          subst (λ k. IsOneOf (p, 0, k) (nested_conflicts answers (write own) (write other))) (sym same)
              (in_second (p, 0, 1) (covered all 0 (path_items (write own))) (covered all 1 all ++ rest_dropped (write own) (write other))
              (in_second (p, 0, 1) (covered all 1 all) (rest_dropped (write own) (write other)) (lost_rest answers own other d n also p l))),
        )
