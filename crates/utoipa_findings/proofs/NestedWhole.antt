-- Files of which nothing is lost stand whole in what comes of nesting one into the other, where nesting drops nothing.
use Rattle.std.proofs.Common.{◌≡◌, ◌∙◌, inl, inr, ℕ, List, [], ◌∷◌, ◌++◌, map, Bool, true, false, if◌then◌else◌, Option, None, Some, option_map, option_and_then, codes, refl, sym, ap, subst}
use Rattle.std.proofs.lemmas.Option.{none-some, same_Some}
use Rattle.std.proofs.lemmas.Slice.Eq.{bytes_eq-Decides}
use Rattle.std.specs.List.{slice_get}
use Rattle.std.specs.Option.{option_or}
use Rattle.std.specs.Prelude.{Contains}
use Rattle.std.specs.Str.{bytes_eq}
use Rattle.serde_json.specs.Data.{Data, null, boolean, number, string, array, object, Members, no_members, member}
use Rattle.serde_json.specs.Find.{get, get_member}
use Rattle.utoipa_base.specs.Docs.{Doc, Entries, no_entries}
use Rattle.utoipa_base.specs.EachMember.{each_member}
use Rattle.utoipa_base.specs.Extensions.{is_extension, members_or_none}
use Rattle.utoipa_base.specs.Kinds.{open_api_object, named}
use Rattle.utoipa_base.specs.Writing.{write}
use Rattle.utoipa_base.proofs.BoolFacts.{and_first, not_true}
use Rattle.utoipa_check.specs.Has.{Written, Has, HasMembers}
use Rattle.utoipa_check.specs.Misfits.{at_name}
use Rattle.utoipa_check.specs.Places.{members_at}
use Rattle.utoipa_conflicts.specs.Conflicts.{Slot, document_member, component_entry, components_extension, paths_extension, operation, named_operation, base_member, Filled, one_slot, item_slots, path_slots, member_slots, slots, place, place_of_item}
use Rattle.utoipa_conflicts.specs.Holders.{EachMember, IsNamedOnce}
use Rattle.utoipa_conflicts.specs.IsConflict.{IsOneOf}
use Rattle.utoipa_conflicts.specs.Merged.{is_slot}
use Rattle.utoipa_conflicts.specs.Nested.{ItemAt, item_unless_extension, items_in as path_items_in, path_items, behind, answered, nested_conflicts}
use Rattle.utoipa_conflicts.specs.NestedInto.{AreNestedInto, is_of_item, IsLostByNesting}
use Rattle.utoipa_conflicts.specs.Trees.{Place, at_place}
use Rattle.utoipa_conflicts.proofs.Kept.{further}
use Rattle.utoipa_conflicts.proofs.NamedOnce.{slot_stands}
use Rattle.utoipa_conflicts.proofs.NestedRest.{told_where_nested}
use Rattle.utoipa_conflicts.proofs.WhatIsLost.{are_slots}
use Rattle.utoipa_conflicts.proofs.Written.{IsTable}
use Rattle.utoipa_conflicts.proofs.WrittenSlots.{one_step, map_or_none, no_component, component_written, components_extension_written, path_written, paths_extension_written, under_paths, same_fixed}
use Rattle.utoipa_merging.specs.Nested.{with_paths}
use Rattle.utoipa_merging.specs.Slots.{field_at, extensions_in, items_in, entry_at, is_there, Joined, servers_joined, security_joined, tags_joined, joined_of, parts, fixed_members, paths_of, components_of, map_member}
use Rattle.utoipa_merging.proofs.JoinedLists.{joined_or_earlier}
use Rattle.utoipa_merging.proofs.Nesting.{nested_extension_values}
use Rattle.utoipa_conflicts.proofs.NestedPaths.{nested_table}
use Rattle.utoipa_findings.specs.Sources.{File}
use Rattle.utoipa_findings.specs.Standing.{seen_of, StandsBehind, EntryBehind, PathsBehind, MemberBehind, AreNestedWhole, BothStand}
use Rattle.utoipa_findings.proofs.InText.{unlost_text}
use Rattle.utoipa_findings.proofs.MergedWhole.{unlost_once, unlost_plain, unlost_table, unlost_unambiguous, some_any, map_at, in_all, not_none}
use Rattle.utoipa_findings.proofs.Standing.{by_member, behind_step, plain_place, value_is}
use Rattle.utoipa_findings.proofs.TakenIn.{TakesRest, TakesIn, written_is, rest_stands, under_paths_is, paths_object, stands_in}

-- ---- documents with other paths

parts_kept : (es : Entries) (e : Option Members) (d : Doc) → IsTable open_api_object d → parts fixed_members (with_paths es e d) ≡ parts fixed_members d
parts_kept es e d t = subst (λ x. parts fixed_members (with_paths es e x) ≡ parts fixed_members x) (sym t.is) refl

components_kept : (es : Entries) (e : Option Members) (d : Doc) → IsTable open_api_object d → components_of (with_paths es e d) ≡ components_of d
components_kept es e d t = subst (λ x. components_of (with_paths es e x) ≡ components_of x) (sym t.is) refl

list_kept : (j : Joined) (es : Entries) (e : Option Members) (d : Doc) → IsTable open_api_object d → joined_of j (with_paths es e d) ≡ joined_of j d
list_kept servers_joined es e d t = subst (λ x. joined_of servers_joined (with_paths es e x) ≡ joined_of servers_joined x) (sym t.is) refl
list_kept security_joined es e d t = subst (λ x. joined_of security_joined (with_paths es e x) ≡ joined_of security_joined x) (sym t.is) refl
list_kept tags_joined es e d t = subst (λ x. joined_of tags_joined (with_paths es e x) ≡ joined_of tags_joined x) (sym t.is) refl

-- ---- nothing is lost

is_true : (b : Bool) → (b ≡ false → ⊥) → b ≡ true
is_true true h = refl
is_true false h = absurd (h refl)

no_one : {A : Type 0} (x : A) (xs : List A) → xs ≡ [] → IsOneOf x xs → ⊥
no_one x xs none h = subst (IsOneOf x) none h

-- what stands behind a place stands there
place_through : (ss : Place) (o : Option Data) (v : Data) → option_and_then (at_place ss) o ≡ Some v → (y : Data) × (o ≡ Some y) × (at_place ss y ≡ Some v)
place_through ss None v h = absurd (none-some v h)
place_through ss (Some y) v h = (y, refl, h)

first_written : (a rest : Option Doc) (v : Data) → option_map write a ≡ Some v → option_map write (option_or a rest) ≡ Some v
first_written None rest v h = absurd (none-some v h)
first_written (Some x) rest v h = h

some_entry : (o : Option Doc) (v : Data) → option_map write o ≡ Some v → (j : Doc) × (o ≡ Some j)
some_entry None v h = absurd (none-some v h)
some_entry (Some j) v h = (j, refl)

-- an item of the paths is one of the items
listed_item : (c : Doc) (path : List ℕ) (y : Data) → IsTable open_api_object c → is_extension path ≡ false → get path (write (paths_of c)) ≡ Some y → IsOneOf (path, y) (path_items (write c))
listed_item c path y t plain is =
    let i : ItemAt = (path, y) in
    let own : IsOneOf i (item_unless_extension path y) = subst (λ b. IsOneOf i (if b then [] else i ∷ [])) (sym plain) (inl refl) in
    subst (λ o. IsOneOf i (path_items_in o)) (sym (under_paths c t)) (by_member item_unless_extension i path (write (paths_of c)) y is own)

-- an item behind the base is one of those that are put
answered_item : (base path : List ℕ) (y : Data) (items : List ItemAt) → IsOneOf (path, y) items → IsOneOf (base ++ path, y) (answered (map (λ i. base ++ i.0) items) items)
answered_item base path y [] h = absurd h
answered_item base path y (i ∷ items) (inl e) = inl (ap (λ j. (base ++ j.0, j.1)) e)
answered_item base path y (i ∷ items) (inr h) = inr (answered_item base path y items h)

under_item : (c : Doc) (path : List ℕ) → IsTable open_api_object c → at_place (place_of_item path) (write c) ≡ get path (write (paths_of c))
under_item c path t = behind_step (codes "paths") (at_name path ∷ []) (write c) (write (paths_of c)) (under_paths c t) ∙ one_step path (write (paths_of c))

module _ (base : List ℕ) (own_file other_file : File) (own_tree other_tree : Data) (own other d : Doc) (n : AreNestedWhole base own_file other_file own_tree other_tree own other d) where
  own_once : IsNamedOnce (write own)
  own_once = unlost_once own_file own_tree own n.own_unlost

  other_once : IsNamedOnce (write other)
  other_once = unlost_once other_file other_tree other n.other_unlost

  abbrev answers : List (List ℕ)
  answers = behind base (write other)

  own_is : IsTable open_api_object own
  own_is = unlost_table own_file own_tree own n.own_unlost n.own_kind

  other_is : IsTable open_api_object other
  other_is = unlost_table other_file other_tree other n.other_unlost n.other_kind

  into : AreNestedInto answers own other d
  into = record {
    own_kind = n.own_kind;
    other_kind = n.other_kind;
    own_unambiguous = unlost_unambiguous own_file own_tree own n.own_unlost;
    other_unambiguous = unlost_unambiguous other_file other_tree other n.other_unlost;
    own_ordered = n.own_ordered;
    other_ordered = n.other_ordered;
    answered = n.answered;
    nested = n.nested;
    ordered = n.ordered;
  }

  all_is : IsTable open_api_object d
  all_is = nested_table answers own other d into

  none_lost : (p : Place) (j : ℕ) → IsLostByNesting answers own other d p j → ⊥
  none_lost p j lost =
      let told = (told_where_nested answers own other d into own_once other_once p j).1 lost in
      no_one (p, told.0, j) (nested_conflicts answers (write own) (write other)) n.nothing told.1

  -- ---- the document that is nested into

  own_item : (path : List ℕ) (y : Data) → is_extension path ≡ false → at_place (place_of_item path) (write own) ≡ Some y → at_place (place_of_item path) (write d) ≡ Some y
  own_item path y plain is =
      let one = listed_item own path y own_is plain (sym (under_item own path own_is) ∙ is) in
      value_is y (at_place (place_of_item path) (write d)) (plain_place (place_of_item path) (write own) y is (unlost_plain own_file own_tree own n.own_unlost))
      (is_true _ (λ lacks. none_lost (place_of_item path) 0 (inl (refl, ((path, y), one, refl, lacks)))))

  own_under : (path : List ℕ) (ss : Place) (v : Data) → is_extension path ≡ false → at_place (place_of_item path ++ ss) (write own) ≡ Some v → at_place (place_of_item path ++ ss) (write d) ≡ Some v
  own_under path ss v plain is =
      let y = place_through ss (at_place (place_of_item path) (write own)) v (sym (further (place_of_item path) ss (write own)) ∙ is) in
      further (place_of_item path) ss (write d) ∙ ap (option_and_then (at_place ss)) (own_item path y.0 plain y.1) ∙ y.2

  own_component : (kind name : List ℕ) (v : Data) → is_extension kind ≡ false → at_place (place (component_entry kind name)) (write own) ≡ Some v → at_place (place (component_entry kind name)) (write d) ≡ Some v
  own_component kind name v plain is =
      elim (map_or_none kind) [
        | inl m ↦
            let a = entry_at name (field_at (map_member m.0) (components_of own)) in
            let rest = option_or (entry_at name (field_at (map_member m.0) (components_of (with_paths no_entries None other)))) None in
            let had : option_map write a ≡ Some v =
            ap (λ k. option_map write (entry_at name (field_at k (components_of own)))) (sym m.1) ∙ sym (component_written kind name own own_is plain) ∙ is
            in
            let merged : entry_at name (field_at (map_member m.0) (components_of d)) ≡ option_or a rest =
            n.nested.merged.components.maps m.0 name
            ∙ ap (λ c. option_or (entry_at name (field_at (map_member m.0) c)) rest) (components_kept n.nested.items (extensions_in (paths_of own)) own own_is)
            in
            component_written kind name d all_is plain ∙ ap (λ k. option_map write (entry_at name (field_at k (components_of d)))) m.1 ∙ ap (option_map write) merged ∙ first_written a rest v had
        | inr none ↦ absurd (none-some v (sym (no_component kind name own own_is plain none) ∙ is))
      ]

  own_value : (s : Slot) (v : Data) → is_slot s ≡ true → at_place (place s) (write own) ≡ Some v → at_place (place s) (write d) ≡ Some v
  own_value (document_member name) v slot is =
      let same : parts fixed_members d ≡ parts fixed_members own = same_Some _ _ n.nested.merged.fixed ∙ parts_kept n.nested.items (extensions_in (paths_of own)) own own_is in
      one_step name (write d) ∙ same_fixed name d own all_is own_is same (not_true _ slot) ∙ sym (one_step name (write own)) ∙ is
  own_value (component_entry kind name) v slot is = own_component kind name v (not_true (is_extension kind) slot) is
  own_value (components_extension name) v slot is =
      let same : extensions_in (components_of d) ≡ extensions_in (components_of own) =
      same_Some _ _ n.nested.merged.components.extensions ∙ ap extensions_in (components_kept n.nested.items (extensions_in (paths_of own)) own own_is)
      in
      components_extension_written name d all_is slot ∙ ap (λ e. get_member name (members_or_none e)) same ∙ sym (components_extension_written name own own_is slot) ∙ is
  own_value (paths_extension name) v slot is =
      paths_extension_written name d all_is slot ∙ nested_extension_values answers own other d n.own_kind n.other_kind n.nested name ∙ sym (paths_extension_written name own own_is slot) ∙ is
  own_value (operation path method) v slot is = own_under path (at_name method ∷ []) v (not_true (is_extension path) (and_first _ _ slot)) is
  own_value (named_operation path name) v slot is = own_under path (at_name (codes "additionalOperations") ∷ at_name name ∷ []) v (not_true (is_extension path) slot) is
  own_value (base_member path name) v slot is = own_under path (at_name name ∷ []) v (not_true (is_extension path) (and_first _ _ slot)) is

  -- ---- what is no part of an item

  abbrev both : List Doc
  both = with_paths n.nested.items (extensions_in (paths_of own)) own ∷ with_paths no_entries None other ∷ []

  takes_rest : (c e : Doc) (j : ℕ) → IsTable open_api_object c → slice_get both j ≡ Some e → components_of e ≡ components_of c → ((l : Joined) → joined_of l e ≡ joined_of l c)
      → ((s : Slot) (v : Data) → IsOneOf (s, v) (slots (write c)) → is_of_item s ≡ false → at_place (place s) (write d) ≡ Some v) → TakesRest c d
  takes_rest c e j t at components lists values = record {
    own = t;
    all = all_is;
    values = values;
    components = λ is. n.nested.merged.components.there ∙ some_any is_there (map components_of both) j (components_of e) (map_at components_of both j e at) (ap is_there components ∙ is);
    lists = λ l is. (n.nested.merged.lists l).there ∙ some_any is_there (map (joined_of l) both) j (joined_of l e) (map_at (joined_of l) both j e at) (ap is_there (lists l) ∙ is);
    entries =
        λ l x is.
        not_none (items_in (joined_of l d)) x (Contains (items_in (joined_of l d)) x)
        (joined_or_earlier [] (map items_in (map (joined_of l) both)) (items_in (joined_of l d)) (n.nested.merged.lists l).entries x
        (in_all items_in (map (joined_of l) both) j (joined_of l e) x (map_at (joined_of l) both j e at) (subst (λ f. Contains (items_in f) x) (sym (lists l)) is)));
  }

  own_taken : TakesIn own d
  own_taken =
      let values : (s : Slot) (v : Data) → IsOneOf (s, v) (slots (write own)) → at_place (place s) (write d) ≡ Some v =
      λ s v h. own_value s v (are_slots (write own) (s, v) h) (slot_stands (write own) (s, v) own_once h)
      in
      record {
        rest = takes_rest own (with_paths n.nested.items (extensions_in (paths_of own)) own) 0 own_is refl (components_kept n.nested.items (extensions_in (paths_of own)) own own_is)
            (λ l. list_kept l n.nested.items (extensions_in (paths_of own)) own own_is) (λ s v h rest. values s v h);
        values = values;
        items = λ path i plain is. some_entry (entry_at path (paths_of d)) (write i) (sym (path_written path d all_is plain) ∙ own_item path (write i) plain (path_written path own own_is plain ∙ ap (option_map write) is));
      }

  -- ---- the nested document

  other_value : (s : Slot) (v : Data) → IsOneOf (s, v) (slots (write other)) → is_of_item s ≡ false → at_place (place s) (write d) ≡ Some v
  other_value s v h rest =
      value_is v (at_place (place s) (write d)) (plain_place (place s) (write other) v (slot_stands (write other) (s, v) other_once h) (unlost_plain other_file other_tree other n.other_unlost))
      (is_true _ (λ lacks. none_lost (place s) 1 (inr (refl, inr (s, v, refl, h, rest, lacks)))))

  other_taken : TakesRest other d
  other_taken =
      takes_rest other (with_paths no_entries None other) 1 other_is refl (components_kept no_entries None other other_is) (λ l. list_kept l no_entries None other other_is) other_value

  other_item : (path : List ℕ) (y : Data) → is_extension path ≡ false → get path (write (paths_of other)) ≡ Some y → get (base ++ path) (write (paths_of d)) ≡ Some y
  other_item path y plain is =
      let one = answered_item base path y (path_items (write other)) (listed_item other path y other_is plain is) in
      let p = place_of_item (base ++ path) in
      sym (under_item d (base ++ path) all_is)
      ∙ value_is y (at_place p (write d)) (plain_place (place_of_item path) (write other) y (under_item other path other_is ∙ is) (unlost_plain other_file other_tree other n.other_unlost))
      (is_true _ (λ lacks. none_lost p 1 (inr (refl, inl ((base ++ path, y), one, refl, lacks)))))

  other_extension : (name : List ℕ) (y : Data) → is_extension name ≡ true → get name (write (paths_of other)) ≡ Some y → get name (write (paths_of d)) ≡ Some y
  other_extension name y ext is =
      let f : Filled = (paths_extension name, y) in
      let within : IsOneOf f (path_slots name y) = subst (λ b. IsOneOf f (if b then one_slot (paths_extension name) y else each_member (item_slots name) (members_at y))) (sym ext) (inl refl) in
      let given = by_member member_slots f (codes "paths") (write other) (write (paths_of other)) (under_paths other other_is) (by_member path_slots f name (write (paths_of other)) y is within) in
      sym (under_item d name all_is) ∙ other_value (paths_extension name) y given refl

  entry_behind : (name : List ℕ) (x : Data) (b : Bool) → is_extension name ≡ b → Written (get name (write (paths_of other))) (λ w. Has w x) → EntryBehind base b (write (paths_of d)) name x
  entry_behind name x true is h =
      let w = written_is (get name (write (paths_of other))) (λ y. Has y x) h in
      subst (λ o. Written o (λ y. Has y x)) (sym (other_extension name w.0 is w.1)) w.2
  entry_behind name x false is h =
      let w = written_is (get name (write (paths_of other))) (λ y. Has y x) h in
      subst (λ o. Written o (λ y. Has y x)) (sym (other_item name w.0 is w.1)) w.2

  entries_behind : (ms : Members) → HasMembers (write (paths_of other)) ms → EachMember (λ name e. EntryBehind base (is_extension name) (write (paths_of d)) name e) ms
  entries_behind no_members h = tt
  entries_behind (member k x ms) h = (entry_behind k x (is_extension k) refl h.0, entries_behind ms h.1)

  paths_behind : (x : Data) → Has (write (paths_of other)) x → PathsBehind base (write (paths_of d)) x
  paths_behind null h = let o = paths_object other other_is in let e : null ≡ object o.0 = sym h ∙ o.1 in cc
  paths_behind (boolean b) h = let o = paths_object other other_is in let e : boolean b ≡ object o.0 = sym h ∙ o.1 in cc
  paths_behind (number m) h = let o = paths_object other other_is in let e : number h.0 ≡ object o.0 = sym h.1 ∙ o.1 in cc
  paths_behind (string s) h = let o = paths_object other other_is in let e : string s ≡ object o.0 = sym h ∙ o.1 in cc
  paths_behind (array ds) h = let o = paths_object other other_is in let e : array h.0.0 ≡ object o.0 = sym h.0.1 ∙ o.1 in cc
  paths_behind (object ms) h = (paths_object d all_is, entries_behind ms h.1)

  member_behind : (name : List ℕ) (x : Data) (b : Bool) → bytes_eq name (codes "paths") ≡ b → Written (get name (write other)) (λ w. Has w x) → MemberBehind base b (write d) name x
  member_behind name x false is h = rest_stands other d other_taken name x is h
  member_behind name x true is h =
      let same = (bytes_eq-Decides name (codes "paths")).0 is in
      subst (λ o. Written o (λ w. PathsBehind base w x)) (sym (ap (λ k. get k (write d)) same ∙ under_paths d all_is)) (paths_behind x (under_paths_is other name x other_is is h))

  members_behind : (ms : Members) → HasMembers (write other) ms → EachMember (λ name x. MemberBehind base (bytes_eq name (codes "paths")) (write d) name x) ms
  members_behind no_members h = tt
  members_behind (member k x ms) h = (member_behind k x (bytes_eq k (codes "paths")) refl h.0, members_behind ms h.1)

  stands_behind : (tree : Data) → Has (write other) tree → StandsBehind base (write d) tree
  stands_behind null h = tt
  stands_behind (boolean b) h = tt
  stands_behind (number m) h = tt
  stands_behind (string s) h = tt
  stands_behind (array ds) h = tt
  stands_behind (object ms) h = members_behind ms h.1

  pub both_stand : BothStand base (write d) own_file other_file own_tree other_tree
  both_stand =
      let own_back = unlost_text (named open_api_object) own_file own_tree own n.own_unlost.has n.own_unlost.reads n.own_unlost.nothing in
      let other_back = unlost_text (named open_api_object) other_file other_tree other n.other_unlost.has n.other_unlost.reads n.other_unlost.nothing in
      record {
        own_text = own_back.1;
        other_text = other_back.1;
        own = stands_in own d own_taken (seen_of own_file own_tree) own_back.0.kept;
        other = stands_behind (seen_of other_file other_tree) other_back.0.kept;
      }
