-- What stands in a slot of the document that documents are merged into is what is kept there.
use Rattle.std.proofs.Common.{◌≡◌, inl, inr, ℕ, List, [], ◌∷◌, true, false, not, if◌then◌else◌, Option, None, Some, IfSome, option_map, option_and_then, map, refl, sym, ap, ◌∙◌, subst, codes}
use Rattle.std.proofs.lemmas.List.Elements.{recursion_from_All}
use Rattle.std.proofs.lemmas.Option.{none-some, same_Some}
use Rattle.std.specs.List.{AllByRecursion, list_any}
use Rattle.std.specs.Option.{option_or}
use Rattle.std.specs.Str.{bytes_eq}
use Rattle.serde_json.specs.Data.{Data}
use Rattle.serde_json.specs.Find.{get_member}
use Rattle.utoipa_base.specs.Docs.{Doc}
use Rattle.utoipa_base.specs.Extensions.{is_extension, members_or_none}
use Rattle.utoipa_base.specs.Kinds.{open_api_object, path_item_object}
use Rattle.utoipa_base.specs.WellFormed.{IsUnambiguous}
use Rattle.utoipa_base.specs.Writing.{write}
use Rattle.utoipa_base.proofs.BoolFacts.{and_first, and_second, not_true}
use Rattle.utoipa_merging.specs.Merged.{IsOpenApi, IsMerged}
use Rattle.utoipa_merging.specs.Rules.{first_of, last_of, given}
use Rattle.utoipa_merging.specs.Slots as slots
use Rattle.utoipa_merging.specs.Slots.{field_at, extensions_in, entry_at, parts, fixed_members, base_members, base, path_slot, extension_at, paths_of, components_of}
use Rattle.utoipa_merging.proofs.UnambiguousMerged.{merged_unambiguous}
use Rattle.utoipa_check.specs.Misfits.{at_name}
use Rattle.utoipa_conflicts.specs.Conflicts.{methods, Slot, document_member, component_entry, components_extension, paths_extension, operation, named_operation, base_member, holder, place, place_of_item, first_decides, last_decides, rule, by_rule}
use Rattle.utoipa_conflicts.specs.Kept.{kept, behind_holder}
use Rattle.utoipa_conflicts.specs.Merged.{is_slot, written, AreMergedInto}
use Rattle.utoipa_conflicts.specs.Trees.{Place, at_place}
use Rattle.utoipa_conflicts.proofs.Kept.{further, kept_behind}
use Rattle.utoipa_conflicts.proofs.Written.{IsTable, clear_table}
use Rattle.utoipa_conflicts.proofs.WrittenSlots.{one_step, map_or_none, component_written, components_extension_written, path_written, paths_extension_written, item_found, which_method, operation_at_path, named_at_path, same_fixed, same_base, no_component}

-- ---- the first and the last, of trees and of documents

-- a document's tree has at a place what the document has in a slot
abbrev IsWritten : Place → (Doc → Option Doc) → (Doc → Doc) → Doc → Type 0
IsWritten p f g x = at_place p (write x) ≡ option_map write (f (g x))

or_written : (o p : Option Doc) → option_or (option_map write o) (option_map write p) ≡ option_map write (option_or o p)
or_written None p = refl
or_written (Some x) p = refl

first_written : (p : Place) (f : Doc → Option Doc) (g : Doc → Doc) (ds : List Doc) → AllByRecursion (IsWritten p f g) ds → first_of (map (at_place p) (written ds)) ≡ option_map write (first_of (map f (map g ds)))
first_written p f g [] h = refl
first_written p f g (d ∷ ds) h =
    ap (λ o. option_or o (first_of (map (at_place p) (written ds)))) h.0 ∙ ap (option_or (option_map write (f (g d)))) (first_written p f g ds h.1)
    ∙ or_written (f (g d)) (first_of (map f (map g ds)))

-- the same of trees that stand in both
abbrev IsSame : Place → (Doc → Option Data) → (Doc → Doc) → Doc → Type 0
IsSame p f g x = at_place p (write x) ≡ f (g x)

last_written : (p : Place) (f : Doc → Option Data) (g : Doc → Doc) (ds : List Doc) → AllByRecursion (IsSame p f g) ds → last_of (map (at_place p) (written ds)) ≡ last_of (map f (map g ds))
last_written p f g [] h = refl
last_written p f g (d ∷ ds) h = ap (λ o. option_or (last_of (map (at_place p) (written ds))) o) h.0 ∙ ap (λ o. option_or o (f (g d))) (last_written p f g ds h.1)

at_itself : (o : Option Data) → option_and_then (at_place []) o ≡ o
at_itself None = refl
at_itself (Some d) = refl

-- what holds of each document holds of all
each_written : {P Q : Doc → Type 0} → ((d : Doc) → P d → Q d) → (ds : List Doc) → AllByRecursion P ds → AllByRecursion Q ds
each_written f [] h = tt
each_written f (d ∷ ds) h = (f d h.0, each_written f ds h.1)

-- a slot that is the first one's
by_first : (p : Place) (f : Doc → Option Doc) (g : Doc → Doc) (ds : List Doc) (d : Doc) → AllByRecursion (IsWritten p f g) ds → IsWritten p f g d → f (g d) ≡ first_of (map f (map g ds))
    → at_place p (write d) ≡ option_and_then (at_place []) (first_of (map (at_place p) (written ds)))
by_first p f g ds d each own merged =
    own ∙ ap (option_map write) merged ∙ sym (first_written p f g ds each) ∙ sym (at_itself (first_of (map (at_place p) (written ds))))

-- ---- the slots

abbrev IsDocument : Doc → Type 0
IsDocument d = IsTable open_api_object d

-- what is in the first document
abbrev IsLikeFirst : (Doc → Type 0) → List Doc → Type 0
IsLikeFirst P [] = ⊥
IsLikeFirst P (d ∷ ds) = P d

fixed_first : (ds : List Doc) (d : Doc) → given (parts fixed_members) d ≡ first_of (map (given (parts fixed_members)) ds) → IsLikeFirst (λ c. parts fixed_members d ≡ parts fixed_members c) ds
fixed_first [] d h = none-some _ (sym h)
fixed_first (c ∷ ds) d h = same_Some _ _ h

components_first : (ds : List Doc) (d : Doc) → given extensions_in (components_of d) ≡ first_of (map (given extensions_in) (map components_of ds))
    → IsLikeFirst (λ c. extensions_in (components_of d) ≡ extensions_in (components_of c)) ds
components_first [] d h = none-some _ (sym h)
components_first (c ∷ ds) d h = same_Some _ _ h

-- a member of the document, by the first
of_member : (name : List ℕ) (ds : List Doc) (d : Doc) → AllByRecursion IsDocument ds → IsDocument d → IsMerged ds d → is_slot (document_member name) ≡ true
    → at_place (place (document_member name)) (write d) ≡ behind_holder (document_member name) (written ds)
of_member name [] d each own merged is = absurd (fixed_first [] d merged.fixed)
of_member name (c ∷ ds) d each own merged is =
    one_step name (write d) ∙ same_fixed name d c own each.0 (fixed_first (c ∷ ds) d merged.fixed) (not_true _ is) ∙ sym (one_step name (write c))

-- an extension of components, by the first
of_extension : (name : List ℕ) (ds : List Doc) (d : Doc) → AllByRecursion IsDocument ds → IsDocument d → IsMerged ds d → is_slot (components_extension name) ≡ true
    → at_place (place (components_extension name)) (write d) ≡ behind_holder (components_extension name) (written ds)
of_extension name [] d each own merged is = absurd (components_first [] d merged.components.extensions)
of_extension name (c ∷ ds) d each own merged is =
    components_extension_written name d own is
    ∙ ap (λ e. get_member name (members_or_none e)) (components_first (c ∷ ds) d merged.components.extensions)
    ∙ sym (components_extension_written name c each.0 is)

-- an entry of a map of components
all_none : (ds : List Doc) (p : Place) → AllByRecursion (λ c. at_place p (write c) ≡ None) ds → first_of (map (at_place p) (written ds)) ≡ None
all_none [] p h = refl
all_none (d ∷ ds) p h = ap (λ o. option_or o (first_of (map (at_place p) (written ds)))) h.0 ∙ all_none ds p h.1

of_component : (kind name : List ℕ) (ds : List Doc) (d : Doc) → AllByRecursion IsDocument ds → IsDocument d → IsMerged ds d → is_slot (component_entry kind name) ≡ true
    → at_place (place (component_entry kind name)) (write d) ≡ behind_holder (component_entry kind name) (written ds)
of_component kind name ds d each own merged is =
    let plain = not_true (is_extension kind) is in
    elim (map_or_none kind) [
      | inl p ↦
          by_first (place (component_entry kind name)) (λ c. entry_at name (field_at kind c)) components_of ds d (each_written (λ c t. component_written kind name c t plain) ds each)
          (component_written kind name d own plain)
          (subst (λ k. entry_at name (field_at k (components_of d)) ≡ first_of (map (λ c. entry_at name (field_at k c)) (map components_of ds))) (sym p.1) (merged.components.maps p.0 name))
      | inr none ↦
          no_component kind name d own plain none
          ∙ sym (at_itself (first_of (map (at_place (place (component_entry kind name))) (written ds))) ∙ all_none ds (place (component_entry kind name)) (each_written (λ c t. no_component kind name c t plain none) ds each))
    ]

-- an extension of paths, by the last
of_paths_extension : (name : List ℕ) (ds : List Doc) (d : Doc) → AllByRecursion IsDocument ds → IsDocument d → IsMerged ds d → is_slot (paths_extension name) ≡ true
    → at_place (place (paths_extension name)) (write d) ≡ behind_holder (paths_extension name) (written ds)
of_paths_extension name ds d each own merged is =
    let p = place_of_item name in
    let os = map (at_place p) (written ds) in
    paths_extension_written name d own is ∙ merged.paths.extensions name
    ∙ sym (last_written p (extension_at name) paths_of ds (each_written (λ c t. paths_extension_written name c t is) ds each))
    ∙ ap (λ r. by_rule r os) (sym (ap (λ b. if b then last_decides else first_decides) is)) ∙ sym (at_itself (by_rule (rule (holder (paths_extension name))) os))

-- an operation
of_operation : (path method : List ℕ) (ds : List Doc) (d : Doc) → AllByRecursion IsDocument ds → IsDocument d → IsMerged ds d → is_slot (operation path method) ≡ true
    → at_place (place (operation path method)) (write d) ≡ behind_holder (operation path method) (written ds)
of_operation path method ds d each own merged is =
    let plain = not_true (is_extension path) (and_first _ _ is) in
    let m = which_method method (and_second _ _ is) in
    subst (λ k. at_place (place (operation path k)) (write d) ≡ behind_holder (operation path k) (written ds)) (sym m.1)
    (by_first (place (operation path (slots.method_member m.0))) (path_slot path (slots.operation m.0)) paths_of ds d (each_written (λ c t. operation_at_path path m.0 c t plain) ds each) (operation_at_path path m.0 d own plain)
    (merged.paths.items path (slots.operation m.0)))

of_named : (path name : List ℕ) (ds : List Doc) (d : Doc) → AllByRecursion IsDocument ds → IsDocument d → IsMerged ds d → is_slot (named_operation path name) ≡ true
    → at_place (place (named_operation path name)) (write d) ≡ behind_holder (named_operation path name) (written ds)
of_named path name ds d each own merged is =
    let plain = not_true (is_extension path) is in
    by_first (place (named_operation path name)) (path_slot path (slots.additional name)) paths_of ds d (each_written (λ c t. named_at_path path name c t plain) ds each) (named_at_path path name d own plain)
    (merged.paths.items path (slots.additional name))

-- ---- a member of an item that is no operation

abbrev IsItem : Doc → Type 0
IsItem i = IsTable path_item_object i

first_there : (path : List ℕ) (ds : List Doc) → AllByRecursion IsDocument ds → IfSome (first_of (map (entry_at path) (map paths_of ds))) IsItem
first_there path [] each = tt
first_there path (d ∷ ds) each = either_there (entry_at path (paths_of d)) (first_of (map (entry_at path) (map paths_of ds))) (item_found path d each.0) (first_there path ds each.1)
  where
    either_there : (o q : Option Doc) → IfSome o IsItem → IfSome q IsItem → IfSome (option_or o q) IsItem
    either_there None q h g = g
    either_there (Some i) q h g = h

-- the first item's parts that stay together
abbrev based : Option Doc → Option Doc
based o = option_and_then (λ i. Some (parts base_members i)) o

first_based : (path : List ℕ) (ds : List Doc) → first_of (map (path_slot path base) (map paths_of ds)) ≡ based (first_of (map (entry_at path) (map paths_of ds)))
first_based path [] = refl
first_based path (d ∷ ds) = ap (option_or (based (entry_at path (paths_of d)))) (first_based path ds) ∙ either_based (entry_at path (paths_of d)) (first_of (map (entry_at path) (map paths_of ds)))
  where
    either_based : (o q : Option Doc) → option_or (based o) (based q) ≡ based (option_or o q)
    either_based None q = refl
    either_based (Some i) q = refl

-- of two items whose parts are the same, or none
same_items : (name : List ℕ) (o q : Option Doc) → IfSome o IsItem → IfSome q IsItem → based o ≡ based q → list_any (bytes_eq name) (codes "additionalOperations" ∷ methods) ≡ false
    → option_and_then (at_place (at_name name ∷ [])) (option_map write o) ≡ option_and_then (at_place (at_name name ∷ [])) (option_map write q)
same_items name None None h g same none = refl
same_items name None (Some j) h g same none = absurd (none-some _ same)
same_items name (Some i) None h g same none = absurd (none-some _ (sym same))
same_items name (Some i) (Some j) h g same none = one_step name (write i) ∙ same_base name i j h g (same_Some _ _ same) none ∙ sym (one_step name (write j))

of_base : (path name : List ℕ) (ds : List Doc) (d : Doc) → AllByRecursion IsDocument ds → IsDocument d → IsMerged ds d → is_slot (base_member path name) ≡ true
    → at_place (place (base_member path name)) (write d) ≡ behind_holder (base_member path name) (written ds)
of_base path name ds d each own merged is =
    let plain : is_extension path ≡ false = not_true (is_extension path) (and_first _ _ is) in
    let none = not_true (list_any (bytes_eq name) (codes "additionalOperations" ∷ methods)) (and_second (not (is_extension path)) _ is) in
    let p = place_of_item path in
    let os = map (at_place p) (written ds) in
    let own_item = entry_at path (paths_of d) in
    let first_item = first_of (map (entry_at path) (map paths_of ds)) in
    let on : Option Data → Option Data = option_and_then (at_place (at_name name ∷ [])) in
    further p (at_name name ∷ []) (write d) ∙ ap on (path_written path d own plain)
    ∙ same_items name own_item first_item (item_found path d own) (first_there path ds each) (merged.paths.items path base ∙ first_based path ds) none
    ∙ ap on (sym (first_written p (entry_at path) paths_of ds (each_written (λ c t. path_written path c t plain) ds each)))
    ∙ ap (λ r. on (by_rule r os)) (sym (ap (λ b. if b then last_decides else first_decides) plain))

-- ---- all

of_slot : (s : Slot) (ds : List Doc) (d : Doc) → AllByRecursion IsDocument ds → IsDocument d → IsMerged ds d → is_slot s ≡ true → at_place (place s) (write d) ≡ behind_holder s (written ds)
of_slot (document_member name) = of_member name
of_slot (component_entry kind name) = of_component kind name
of_slot (components_extension name) = of_extension name
of_slot (paths_extension name) = of_paths_extension name
of_slot (operation path method) = of_operation path method
of_slot (named_operation path name) = of_named path name
of_slot (base_member path name) = of_base path name

both_each : (ds : List Doc) → AllByRecursion IsOpenApi ds → AllByRecursion IsUnambiguous ds → AllByRecursion IsDocument ds
both_each [] h u = tt
both_each (d ∷ ds) h u = (clear_table open_api_object d h.0 u.0, both_each ds h.1 u.1)

-- what stands in a slot of the merged document is what is kept there
pub merged_has_kept : (ds : List Doc) (d : Doc) → AreMergedInto ds d → (s : Slot) → is_slot s ≡ true → at_place (place s) (write d) ≡ kept s (written ds)
merged_has_kept ds d m s is =
    of_slot s ds d (both_each ds (recursion_from_All IsOpenApi ds m.each) (recursion_from_All IsUnambiguous ds m.unambiguous))
    (clear_table open_api_object d m.merged.of_kind (merged_unambiguous ds d m.merged m.each m.unambiguous m.ordered)) m.merged is
    ∙ sym (kept_behind s (written ds))
