-- The conflicts are what the document lacks that documents are merged into, and where there are none, it has all.
use Rattle.std.proofs.Common.{◌≡◌, ◌↔◌, inl, inr, ℕ, List, [], ◌&&◌, ◌||◌, Bool, true, false, not, if◌then◌else◌, Some, All, option_and_then, refl, sym, ap, ◌∙◌, true≢false, codes}
use Rattle.std.proofs.lemmas.Option.{same_Some}
use Rattle.std.specs.List.{slice_get}
use Rattle.std.specs.Str.{bytes_eq}
use Rattle.serde_json.specs.Data.{Data, Members, no_members, member}
use Rattle.utoipa_base.specs.Docs.{Doc}
use Rattle.utoipa_base.specs.Extensions.{is_extension}
use Rattle.utoipa_base.specs.EachMember.{each_member}
use Rattle.utoipa_check.specs.Places.{members_at}
use Rattle.utoipa_conflicts.specs.Conflicts.{is_joined, is_method, Slot, document_member, component_entry, components_extension, paths_extension, operation, named_operation, base_member, holder, place, rule, Filled, one_slot, entry_slots, item_slots, path_slots, component_slots, member_slots, slots, Numbered, numbered, deciding, conflicts}
use Rattle.utoipa_conflicts.specs.Holders.{IsNamedOnce}
use Rattle.utoipa_conflicts.specs.IsConflict.{IsOneOf, HasValue, IsConflict}
use Rattle.utoipa_conflicts.specs.Kept.{kept}
use Rattle.utoipa_conflicts.specs.Merged.{is_slot, written, AreMergedInto, has_value, IsAllThere, IsLost}
use Rattle.utoipa_conflicts.specs.Same.{is_value}
use Rattle.utoipa_conflicts.specs.Trees.{Place, at_place}
use Rattle.utoipa_conflicts.proofs.Listed.{in_either, listed_where_dropped}
use Rattle.utoipa_conflicts.proofs.MergedSlots.{merged_has_kept}
use Rattle.utoipa_conflicts.proofs.NamedOnce.{value_stands, decider, nothing_where_once}
use Rattle.utoipa_conflicts.proofs.SameTrees.{itself}
use Rattle.utoipa_conflicts.proofs.WhichDecides.{decides, is_found}

-- ---- the slots of a document are slots

abbrev IsSlot : Filled → Type 0
IsSlot f = is_slot f.0 ≡ true

-- what holds of what each member gives holds of all
of_each : (f : List ℕ → Data → List Filled) (y : Filled) (ms : Members) → ((k : List ℕ) (d : Data) → IsOneOf y (f k d) → IsSlot y) → IsOneOf y (each_member f ms) → IsSlot y
of_each f y no_members each h = absurd h
of_each f y (member k d ms) each h = elim (in_either y (f k d) (each_member f ms) h) [ inl g ↦ each k d g | inr g ↦ of_each f y ms each g ]

of_one : (y : Filled) (s : Slot) (d : Data) → is_slot s ≡ true → IsOneOf y (one_slot s d) → IsSlot y
of_one y s d is (inl e) = ap (λ f. is_slot f.0) e ∙ is
of_one y s d is (inr e) = absurd e

both : (a b : Bool) → a ≡ true → b ≡ true → a && b ≡ true
both a b h g = ap (λ x. x && b) h ∙ g

neither : (a b : Bool) → a ≡ false → b ≡ false → not (a || b) ≡ true
neither a b h g = ap (λ x. not (x || b)) h ∙ ap not g

plain : (b : Bool) → b ≡ false → not b ≡ true
plain b h = ap not h

of_item : (b c : Bool) (path n : List ℕ) (d : Data) (y : Filled) → is_extension path ≡ false → is_method n ≡ b → bytes_eq n (codes "additionalOperations") ≡ c
    → IsOneOf y (if b then one_slot (operation path n) d else (if c then entry_slots (named_operation path) d else one_slot (base_member path n) d)) → IsSlot y
of_item true c path n d y at is also h = of_one y (operation path n) d (both (not (is_extension path)) (is_method n) (plain (is_extension path) at) is) h
of_item false true path n d y at is also h = of_each (λ k e. one_slot (named_operation path k) e) y (members_at d) (λ k e. of_one y (named_operation path k) e (plain (is_extension path) at)) h
of_item false false path n d y at is also h =
    of_one y (base_member path n) d
    (both (not (is_extension path)) (not (bytes_eq n (codes "additionalOperations") || is_method n)) (plain (is_extension path) at) (neither (bytes_eq n (codes "additionalOperations")) (is_method n) also is)) h

of_path : (b : Bool) (path : List ℕ) (d : Data) (y : Filled) → is_extension path ≡ b → IsOneOf y (if b then one_slot (paths_extension path) d else each_member (item_slots path) (members_at d)) → IsSlot y
of_path true path d y is h = of_one y (paths_extension path) d is h
of_path false path d y is h = of_each (item_slots path) y (members_at d) (λ n e. of_item (is_method n) (bytes_eq n (codes "additionalOperations")) path n e y is refl refl) h

of_kind : (b : Bool) (kind : List ℕ) (d : Data) (y : Filled) → is_extension kind ≡ b → IsOneOf y (if b then one_slot (components_extension kind) d else entry_slots (component_entry kind) d) → IsSlot y
of_kind true kind d y is h = of_one y (components_extension kind) d is h
of_kind false kind d y is h = of_each (λ k e. one_slot (component_entry kind k) e) y (members_at d) (λ k e. of_one y (component_entry kind k) e (plain (is_extension kind) is)) h

of_member : (b c e : Bool) (name : List ℕ) (d : Data) (y : Filled) → is_joined name ≡ b → bytes_eq name (codes "paths") ≡ c → bytes_eq name (codes "components") ≡ e
    → IsOneOf y (if b then [] else (if c then each_member path_slots (members_at d) else (if e then each_member component_slots (members_at d) else one_slot (document_member name) d))) → IsSlot y
of_member true c e name d y is this that h = absurd h
of_member false true e name d y is this that h = of_each path_slots y (members_at d) (λ k x. of_path (is_extension k) k x y refl) h
of_member false false true name d y is this that h = of_each component_slots y (members_at d) (λ k x. of_kind (is_extension k) k x y refl) h
of_member false false false name d y is this that h =
    of_one y (document_member name) d
    (neither (bytes_eq name (codes "paths")) (bytes_eq name (codes "components") || is_joined name) this (ap (λ b. b || is_joined name) that ∙ is)) h

pub are_slots : (d : Data) (y : Filled) → IsOneOf y (slots d) → IsSlot y
are_slots d y h = of_each member_slots y (members_at d) (λ k x. of_member (is_joined k) (bytes_eq k (codes "paths")) (bytes_eq k (codes "components")) k x y refl refl refl) h

-- ---- what is there, by what is kept

there_by_kept : (ds : List Doc) (d : Doc) (j : ℕ) (s : Slot) (v : Data) → AreMergedInto ds d → HasValue (written ds) j s v → has_value d s v ≡ is_value v (kept s (written ds))
there_by_kept ds d j s v m own = ap (is_value v) (merged_has_kept ds d m s (are_slots own.0 (s, v) own.2))

-- and by the document that decides
there_by : (ds : List Doc) (d : Doc) (j : ℕ) (s : Slot) (v : Data) (t : Numbered) → AreMergedInto ds d → HasValue (written ds) j s v → deciding (holder s) (numbered 0 (written ds)) ≡ Some t
    → has_value d s v ≡ is_value v (at_place (place s) t.1)
there_by ds d j s v t m own by = there_by_kept ds d j s v m own ∙ ap (λ o. is_value v (option_and_then (λ u. at_place (place s) u.1) o)) by

-- each conflict is of a value that is not there
told_is_lost : (ds : List Doc) (d : Doc) (p : Place) (i j : ℕ) → AreMergedInto ds d → IsConflict (written ds) p i j → IsLost ds d p j
told_is_lost ds d p i j m c =
    let s : Slot = c.0 in
    let v : Data = c.1 in
    let found = is_found (rule (holder s)) (holder s) (written ds) i c.6.0 c.4 c.6.1 in
    (s, v, c.2, c.3, there_by ds d j s v (i, c.6.0) m c.3 found ∙ c.6.2)

-- and each value that is not there is told
lost_is_told : (ds : List Doc) (d : Doc) (p : Place) (j : ℕ) → AreMergedInto ds d → All IsNamedOnce (written ds) → IsLost ds d p j → (i : ℕ) × IsConflict (written ds) p i j
lost_is_told ds d p j m once l =
    let trees = written ds in
    let s : Slot = l.0 in
    let v : Data = l.1 in
    let own : HasValue trees j s v = l.3 in
    let stands = value_stands trees j s v own once in
    let by = decider trees j s v own.0 own.1 stands in
    let t : Numbered = by.0 in
    let found = decides (rule (holder s)) (holder s) trees t by.1 in
    let lacks : is_value v (at_place (place s) t.1) ≡ false = sym (there_by ds d j s v t m own by.1) ∙ l.4 in
    let other : t.0 ≡ j → ⊥ =
    λ same.
    let tree : t.1 ≡ own.0 = same_Some t.1 own.0 (sym found.1 ∙ ap (slice_get trees) same ∙ own.1) in
    true≢false (sym (ap (λ x. is_value v (at_place (place s) x)) tree ∙ ap (is_value v) stands ∙ itself v) ∙ lacks)
    in
    (t.0, (s, v, l.2, own, found.0, other, (t.1, found.1, lacks)))

pub told_where_lost : (ds : List Doc) (d : Doc) → AreMergedInto ds d → All IsNamedOnce (written ds) → (p : Place) (j : ℕ) → ((i : ℕ) × IsOneOf (p, i, j) (conflicts (written ds))) ↔ IsLost ds d p j
told_where_lost ds d m once p j = (
  λ told. told_is_lost ds d p told.0 j m ((listed_where_dropped (written ds) p told.0 j).0 told.1),
  λ lost. let c = lost_is_told ds d p j m once lost in (c.0, (listed_where_dropped (written ds) p c.0 j).1 c.1),
)

pub nothing_told_where_all_there : (ds : List Doc) (d : Doc) → AreMergedInto ds d → All IsNamedOnce (written ds) → (conflicts (written ds) ≡ []) ↔ IsAllThere ds d
nothing_told_where_all_there ds d m once =
    let law = nothing_where_once (written ds) once in (
      λ none j s v own. there_by_kept ds d j s v m own ∙ law.0 none j s v own,
      λ there. law.1 (λ j s v own. sym (there_by_kept ds d j s v m own) ∙ there j s v own),
    )
