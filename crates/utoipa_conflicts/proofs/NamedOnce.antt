-- Where each name of an object stands once, a slot's value stands at the slot's place; so the list is empty exactly where each value is the
-- one that is kept.
use Rattle.std.proofs.Common.{◌≡◌, ◌↔◌, inl, inr, ℕ, zero, suc, List, [], ◌∷◌, ◌==◌, map, Bool, true, false, cond, if◌then◌else◌, Option, None, Some, IfSome, is_some, option_and_then, All, refl, sym, ap, subst, ◌∙◌, true≢false, eqb-true, eq-eqb, codes}
use Rattle.std.proofs.lemmas.List.Elements.{recursion_from_All}
use Rattle.std.proofs.lemmas.Option.{none-some, same_Some}
use Rattle.std.proofs.lemmas.Slice.Eq.{bytes_eq-Decides}
use Rattle.std.specs.List.{AllByRecursion, slice_get}
use Rattle.std.specs.Option.{option_or}
use Rattle.std.specs.Str.{bytes_eq}
use Rattle.serde_json.specs.Data.{Data, null, boolean, number, string, array, object, Members, no_members, member}
use Rattle.serde_json.specs.Find.{get, get_member}
use Rattle.utoipa_base.specs.Extensions.{is_extension}
use Rattle.utoipa_base.specs.EachMember.{each_member}
use Rattle.utoipa_check.specs.Misfits.{at_name}
use Rattle.utoipa_check.specs.Places.{members_at}
use Rattle.utoipa_conflicts.specs.Conflicts.{is_joined, is_method, Slot, document_member, component_entry, components_extension, paths_extension, operation, named_operation, base_member, holder, place, place_of_holder, Rule, first_decides, last_decides, rule, Filled, one_slot, entry_slots, item_slots, path_slots, component_slots, member_slots, slots, Numbered, numbered, by_rule, deciding, conflicts}
use Rattle.utoipa_conflicts.specs.Holders.{AreApart, EachMember, IsApart, AreComponentsApart, IsMemberApart, IsItemApart, ArePathsApart, IsNamedOnce}
use Rattle.utoipa_conflicts.specs.IsConflict.{IsOneOf, HasValue, AllKept}
use Rattle.utoipa_conflicts.specs.Kept.{from_holder, IsAllKept}
use Rattle.utoipa_conflicts.specs.Same.{is_value}
use Rattle.utoipa_conflicts.specs.Trees.{Place, at_place}
use Rattle.utoipa_conflicts.proofs.Found.{get_first}
use Rattle.utoipa_conflicts.proofs.Kept.{slot_behind, agree}
use Rattle.utoipa_conflicts.proofs.Listed.{in_either, nothing_where_kept}
use Rattle.utoipa_conflicts.proofs.SameTrees.{itself}
use Rattle.utoipa_conflicts.proofs.WhichDecides.{decides, is_found}

-- ---- names that stand once

-- a member that gives one of these is found under its name, and this fact holds of it
abbrev pub Gives : {A : Type 0} → (List ℕ → Data → List A) → A → (List ℕ → Data → Type 0) → (List ℕ → Option Data) → Type 0
Gives f y P found = (k : List ℕ) × (x : Data) × (found k ≡ Some x) × P k x × IsOneOf y (f k x)

-- a name that is found among the later members is not the first
later : (b : Bool) (l k : List ℕ) (d x : Data) (ms : Members) → bytes_eq l k ≡ b → get_member k ms ≡ None → get_member l ms ≡ Some x → cond b (Some d) (get_member l ms) ≡ Some x
later true l k d x ms is none found =
    let same : l ≡ k = (bytes_eq-Decides l k).0 is in
    absurd (none-some x (sym none ∙ ap (λ q. get_member q ms) (sym same) ∙ found))
later false l k d x ms is none found = found

own_name : (k : List ℕ) (d : Data) (ms : Members) → get_member k (member k d ms) ≡ Some d
own_name k d ms = get_first k k d ms ∙ ap (λ b. cond b (Some d) (get_member k ms)) ((bytes_eq-Decides k k).1 refl)

given_by : {A : Type 0} (f : List ℕ → Data → List A) (y : A) (P : List ℕ → Data → Type 0) (ms : Members) → AreApart ms → EachMember P ms → IsOneOf y (each_member f ms) → Gives f y P (λ k. get_member k ms)
given_by f y P no_members apart each h = absurd h
given_by f y P (member k d ms) apart each h =
    elim (in_either y (f k d) (each_member f ms) h) [
      | inl g ↦ (k, d, own_name k d ms, each.0, g)
      | inr g ↦
          let more = given_by f y P ms apart.1 each.1 g in
          (more.0, more.1, get_first more.0 k d ms ∙ later (bytes_eq more.0 k) more.0 k d more.1 ms refl apart.0 more.2, more.3, more.4)
    ]

pub given_in : {A : Type 0} (f : List ℕ → Data → List A) (y : A) (P : List ℕ → Data → Type 0) (d : Data) → AreApart (members_at d) → EachMember P (members_at d) → IsOneOf y (each_member f (members_at d))
    → Gives f y P (λ k. get k d)
given_in f y P null apart each h = absurd h
given_in f y P (boolean b) apart each h = absurd h
given_in f y P (number n) apart each h = absurd h
given_in f y P (string s) apart each h = absurd h
given_in f y P (array ds) apart each h = absurd h
given_in f y P (object ms) apart each h = given_by f y P ms apart each h

-- of which nothing is asked
abbrev Any : List ℕ → Data → Type 0
Any k x = Unit {0}

each_any : (ms : Members) → EachMember Any ms
each_any no_members = tt
each_any (member k d ms) = (tt, each_any ms)

-- ---- a slot's value stands at the slot's place

abbrev Stands : Data → Filled → Type 0
Stands d f = at_place (place f.0) d ≡ Some f.1

one_stands : (d : Data) (f g : Filled) → Stands d g → IsOneOf f (g ∷ []) → Stands d f
one_stands d f g h (inl e) = subst (Stands d) (sym e) h
one_stands d f g h (inr e) = absurd e

-- one step, and the steps from there
pub behind : (k : List ℕ) (ss : Place) (d x : Data) (o : Option Data) → get k d ≡ Some x → at_place ss x ≡ o → at_place (at_name k ∷ ss) d ≡ o
behind k ss d x o found more = ap (option_and_then (at_place ss)) found ∙ more

-- the name that a test has found
named : (k name : List ℕ) (d x : Data) → bytes_eq k name ≡ true → get k d ≡ Some x → get name d ≡ Some x
named k name d x is found = ap (λ l. get l d) (sym ((bytes_eq-Decides k name).0 is)) ∙ found

in_item : (b c : Bool) (path n : List ℕ) (d p e m : Data) (f : Filled) → get (codes "paths") d ≡ Some p → get path p ≡ Some e → get n e ≡ Some m → IsMemberApart n m
    → bytes_eq n (codes "additionalOperations") ≡ c
    → IsOneOf f (if b then one_slot (operation path n) m else (if c then entry_slots (named_operation path) m else one_slot (base_member path n) m)) → Stands d f
in_item true c path n d p e m f has_paths has_path has_name apart is h =
    one_stands d f (operation path n, m) (behind (codes "paths") (at_name path ∷ at_name n ∷ []) d p (Some m) has_paths (behind path (at_name n ∷ []) p e (Some m) has_path (behind n [] e m (Some m) has_name refl))) h
in_item false true path n d p e m f has_paths has_path has_name apart is h =
    let more = codes "additionalOperations" in
    let given = given_in (λ k x. one_slot (named_operation path k) x) f Any m (apart is) (each_any (members_at m)) h in
    one_stands d f (named_operation path given.0, given.1)
    (behind (codes "paths") (at_name path ∷ at_name more ∷ at_name given.0 ∷ []) d p (Some given.1) has_paths
    (behind path (at_name more ∷ at_name given.0 ∷ []) p e (Some given.1) has_path
    (behind more (at_name given.0 ∷ []) e m (Some given.1) (named n more e m is has_name) (behind given.0 [] m given.1 (Some given.1) given.2 refl)))) given.4
in_item false false path n d p e m f has_paths has_path has_name apart is h =
    one_stands d f (base_member path n, m) (behind (codes "paths") (at_name path ∷ at_name n ∷ []) d p (Some m) has_paths (behind path (at_name n ∷ []) p e (Some m) has_path (behind n [] e m (Some m) has_name refl))) h

in_entry : (b : Bool) (path : List ℕ) (d p e : Data) (f : Filled) → get (codes "paths") d ≡ Some p → get path p ≡ Some e → IsItemApart path e
    → IsOneOf f (if b then one_slot (paths_extension path) e else each_member (item_slots path) (members_at e)) → Stands d f
in_entry true path d p e f has_paths has_path apart h =
    one_stands d f (paths_extension path, e) (behind (codes "paths") (at_name path ∷ []) d p (Some e) has_paths (behind path [] p e (Some e) has_path refl)) h
in_entry false path d p e f has_paths has_path apart h =
    let given = given_in (item_slots path) f IsMemberApart e apart.0 apart.1 h in
    in_item (is_method given.0) (bytes_eq given.0 (codes "additionalOperations")) path given.0 d p e given.1 f has_paths has_path given.2 given.3 refl given.4

in_kind : (b : Bool) (kind : List ℕ) (d c e : Data) (f : Filled) → get (codes "components") d ≡ Some c → get kind c ≡ Some e → IsApart kind e
    → IsOneOf f (if b then one_slot (components_extension kind) e else entry_slots (component_entry kind) e) → Stands d f
in_kind true kind d c e f has_components has_kind apart h =
    one_stands d f (components_extension kind, e) (behind (codes "components") (at_name kind ∷ []) d c (Some e) has_components (behind kind [] c e (Some e) has_kind refl)) h
in_kind false kind d c e f has_components has_kind apart h =
    let given = given_in (λ k x. one_slot (component_entry kind k) x) f Any e apart (each_any (members_at e)) h in
    one_stands d f (component_entry kind given.0, given.1)
    (behind (codes "components") (at_name kind ∷ at_name given.0 ∷ []) d c (Some given.1) has_components
    (behind kind (at_name given.0 ∷ []) c e (Some given.1) has_kind (behind given.0 [] e given.1 (Some given.1) given.2 refl))) given.4

in_member : (b c e : Bool) (name : List ℕ) (d x : Data) (f : Filled) → bytes_eq name (codes "paths") ≡ c → bytes_eq name (codes "components") ≡ e → get name d ≡ Some x → IsNamedOnce d
    → IsOneOf f (if b then [] else (if c then each_member path_slots (members_at x) else (if e then each_member component_slots (members_at x) else one_slot (document_member name) x))) → Stands d f
in_member true c e name d x f is also has_name once h = absurd h
in_member false true e name d x f is also has_name once h =
    let has_paths = named name (codes "paths") d x is has_name in
    let apart : ArePathsApart x = subst (λ o. IfSome o ArePathsApart) has_paths once.1.1 in
    let given = given_in path_slots f IsItemApart x apart.0 apart.1 h in
    in_entry (is_extension given.0) given.0 d x given.1 f has_paths given.2 given.3 given.4
in_member false false true name d x f is also has_name once h =
    let has_components = named name (codes "components") d x also has_name in
    let apart : AreComponentsApart x = subst (λ o. IfSome o AreComponentsApart) has_components once.1.0 in
    let given = given_in component_slots f IsApart x apart.0 apart.1 h in
    in_kind (is_extension given.0) given.0 d x given.1 f has_components given.2 given.3 given.4
in_member false false false name d x f is also has_name once h = one_stands d f (document_member name, x) (behind name [] d x (Some x) has_name refl) h

pub slot_stands : (d : Data) (f : Filled) → IsNamedOnce d → IsOneOf f (slots d) → at_place (place f.0) d ≡ Some f.1
slot_stands d f once h =
    let given = given_in member_slots f Any d once.0 (each_any (members_at d)) h in
    in_member (is_joined given.0) (bytes_eq given.0 (codes "paths")) (bytes_eq given.0 (codes "components")) given.0 d given.1 f refl refl given.2 once given.4

-- ---- some document decides

some_or : {A : Type 0} (o p : Option A) → is_some o ≡ true → is_some (option_or o p) ≡ true
some_or None p h = absurd (true≢false (sym h))
some_or (Some x) p h = refl

or_some : {A : Type 0} (o p : Option A) → is_some p ≡ true → is_some (option_or o p) ≡ true
or_some None p h = h
or_some (Some x) p h = refl

first_there : (p : Place) (ds : List Data) (j : ℕ) (d : Data) → slice_get ds j ≡ Some d → is_some (at_place p d) ≡ true → is_some (by_rule first_decides (map (at_place p) ds)) ≡ true
first_there p [] j d at there = absurd (none-some d at)
first_there p (e ∷ ds) zero d at there = some_or (at_place p e) (by_rule first_decides (map (at_place p) ds)) (ap (λ x. is_some (at_place p x)) (same_Some e d at) ∙ there)
first_there p (e ∷ ds) (suc j) d at there = or_some (at_place p e) (by_rule first_decides (map (at_place p) ds)) (first_there p ds j d at there)

last_there : (p : Place) (ds : List Data) (j : ℕ) (d : Data) → slice_get ds j ≡ Some d → is_some (at_place p d) ≡ true → is_some (by_rule last_decides (map (at_place p) ds)) ≡ true
last_there p [] j d at there = absurd (none-some d at)
last_there p (e ∷ ds) zero d at there = or_some (by_rule last_decides (map (at_place p) ds)) (at_place p e) (ap (λ x. is_some (at_place p x)) (same_Some e d at) ∙ there)
last_there p (e ∷ ds) (suc j) d at there = some_or (by_rule last_decides (map (at_place p) ds)) (at_place p e) (last_there p ds j d at there)

there_by : (r : Rule) (p : Place) (ds : List Data) (j : ℕ) (d : Data) → slice_get ds j ≡ Some d → is_some (at_place p d) ≡ true → is_some (by_rule r (map (at_place p) ds)) ≡ true
there_by first_decides p ds j d at there = first_there p ds j d at there
there_by last_decides p ds j d at there = last_there p ds j d at there

-- what leads on from somewhere is somewhere
leads_from : (ss : Place) (o : Option Data) (v : Data) → option_and_then (at_place ss) o ≡ Some v → is_some o ≡ true
leads_from ss None v h = absurd (none-some v h)
leads_from ss (Some d) v h = refl

which : {A : Type 0} (o : Option A) → is_some o ≡ true → (x : A) × (o ≡ Some x)
which None h = absurd (true≢false (sym h))
which (Some x) h = (x, refl)

-- the document that decides a slot in which a document has a value
pub decider : (ds : List Data) (j : ℕ) (s : Slot) (v d : Data) → slice_get ds j ≡ Some d → at_place (place s) d ≡ Some v → (t : Numbered) × (deciding (holder s) (numbered 0 ds) ≡ Some t)
decider ds j s v d at stands =
    let r = rule (holder s) in
    let p = place_of_holder (holder s) in
    let there = leads_from (from_holder s) (at_place p d) v (sym (slot_behind s d) ∙ stands) in
    which (deciding (holder s) (numbered 0 ds)) ((agree r (holder s) 0 ds).1 ∙ there_by r p ds j d at there)

-- ---- nothing is dropped

-- a value of the document that decides, or one that another has too
kept_by : (b c : Bool) (ds : List Data) (j : ℕ) (s : Slot) (v : Data) (own : HasValue ds j s v) (t : Numbered) → at_place (place s) own.0 ≡ Some v → deciding (holder s) (numbered 0 ds) ≡ Some t → AllKept ds
    → (t.0 == j) ≡ b → is_value v (at_place (place s) t.1) ≡ c → is_value v (at_place (place s) t.1) ≡ true
kept_by b true ds j s v own t stands by all same is = is
kept_by true false ds j s v own t stands by all same is =
    let found = decides (rule (holder s)) (holder s) ds t by in
    let number : t.0 ≡ j = eqb-true t.0 j same in
    let tree : t.1 ≡ own.0 = same_Some t.1 own.0 (sym found.1 ∙ ap (slice_get ds) number ∙ own.1) in
    ap (λ x. is_value v (at_place (place s) x)) tree ∙ ap (is_value v) stands ∙ itself v
kept_by false false ds j s v own t stands by all same is =
    let found = decides (rule (holder s)) (holder s) ds t by in
    absurd (all t.0 j s v own found.0 (λ e. true≢false (sym (eq-eqb t.0 j e) ∙ same)) (t.1, found.1, is))

-- a fact of each of the trees, of one by its number
at_number : (P : Data → Type 0) (ds : List Data) (j : ℕ) (d : Data) → AllByRecursion P ds → slice_get ds j ≡ Some d → P d
at_number P [] j d h at = absurd (none-some d at)
at_number P (e ∷ ds) zero d h at = subst P (same_Some e d at) h.0
at_number P (e ∷ ds) (suc j) d h at = at_number P ds j d h.1 at

-- a value that a document has in a slot stands at the slot's place
pub value_stands : (ds : List Data) (j : ℕ) (s : Slot) (v : Data) (own : HasValue ds j s v) → All IsNamedOnce ds → at_place (place s) own.0 ≡ Some v
value_stands ds j s v own once = slot_stands own.0 (s, v) (at_number IsNamedOnce ds j own.0 (recursion_from_All IsNamedOnce ds once) own.1) own.2

all_kept : (ds : List Data) → All IsNamedOnce ds → AllKept ds → IsAllKept ds
all_kept ds once all j s v own =
    let stands = value_stands ds j s v own once in
    let by = decider ds j s v own.0 own.1 stands in
    ap (λ o. is_value v (option_and_then (λ t. at_place (place s) t.1) o)) by.1 ∙ kept_by (by.0.0 == j) (is_value v (at_place (place s) by.0.1)) ds j s v own by.0 stands by.1 all refl refl

none_dropped : (ds : List Data) → IsAllKept ds → AllKept ds
none_dropped ds all i j s v own by other another =
    let found = is_found (rule (holder s)) (holder s) ds i another.0 by another.1 in
    true≢false (sym (all j s v own) ∙ ap (λ o. is_value v (option_and_then (λ t. at_place (place s) t.1) o)) found ∙ another.2)

pub nothing_where_once : (ds : List Data) → All IsNamedOnce ds → (conflicts ds ≡ []) ↔ IsAllKept ds
nothing_where_once ds once =
    let law = nothing_where_kept ds in
    (λ none. all_kept ds once (law.0 none), λ all. law.1 (none_dropped ds all))
