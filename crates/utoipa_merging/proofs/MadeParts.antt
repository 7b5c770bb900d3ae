-- Two lists, two maps and the extensions of two objects are merged: here what they are merged to is made.
use Rattle.std.proofs.Common.{◌≡◌, inl, inr, ℕ, List, [], ◌∷◌, ◌++◌, true, Option, Some, None, IfSome, Contains, refl, sym, ap, ◌∙◌, subst}
use Rattle.std.proofs.lemmas.List.{append-nil}
use Rattle.std.specs.List.{AllByRecursion, list_any}
use Rattle.std.specs.List.Sorted.{IsStrictlySortedBy}
use Rattle.std.specs.Map.{keys_of}
use Rattle.std.specs.Option.{option_or, is_some}
use Rattle.serde_json.specs.Data.{Data, Members}
use Rattle.serde_json.specs.Find.{get_member}
use Rattle.utoipa_base.specs.Kinds.{Kind, list_of, map_of}
use Rattle.utoipa_base.specs.Docs.{Doc, none_doc, some_doc, option_doc, list_doc, map_doc, Docs, no_docs, doc, docs_of, entries_of_list}
use Rattle.utoipa_base.specs.Extensions.{members_or_none}
use Rattle.utoipa_base.specs.Shape.{Place, value_of, option_of, IsOf, ItemsOf, EntriesOf}
use Rattle.utoipa_merging.specs.Rules.{first_of, last_of, AreNew, AreJoined}
use Rattle.utoipa_merging.specs.Slots.{held, list_in, items_in, entries_in, entry_at, is_there}
use Rattle.utoipa_merging.specs.Merged.{IsListMerged, IsInOrder, Ascends, names_in}
use Rattle.utoipa_merging.proofs.Determined.{found_is_of}
use Rattle.utoipa_merging.proofs.EqualDocs.{same_doc}
use Rattle.utoipa_merging.proofs.Gathered.{AreGathered, gathered, not_named, none_found}
use Rattle.utoipa_merging.proofs.InOrder.{find_in, all_found, member_pairs, members_of_pairs, member_pairs-of_pairs, names_of_pairs, find_member}
use Rattle.utoipa_merging.proofs.JoinedLists.{not_in_none, in_head, in_tail, in_cases, new_to_none}
use Rattle.utoipa_merging.proofs.MapViews.{pairs_in-entries_of_list, list_in-docs_of}
use Rattle.utoipa_merging.proofs.Shapes.{option_shape}

-- ---- fields that may be absent

-- what holds of either holds of the first that is there
pub first_fits : {A : Type 0} (P : A → Type 0) (o p : Option A) → IfSome o P → IfSome p P → IfSome (first_of (o ∷ p ∷ [])) P
first_fits P None None h g = tt
first_fits P None (Some y) h g = g
first_fits P (Some x) p h g = h

-- what a field holds is of the kind
pub held_fits : (k : Kind) (d : Doc) → IsOf d (option_of k) → IfSome (held d) (λ x. IsOf x (value_of k))
held_fits k d h =
    elim (option_shape k d h) [
      | inl p ↦ subst (λ d. IfSome (held d) (λ x. IsOf x (value_of k))) (sym p) tt
      | inr p ↦ subst (λ d. IfSome (held d) (λ x. IsOf x (value_of k))) (sym p.1) p.2
    ]

pub option_fits : (k : Kind) (o : Option Doc) → IfSome o (λ x. IsOf x (value_of k)) → IsOf (option_doc o) (option_of k)
unfolding IsOf
option_fits k None h = (k, refl)
option_fits k (Some x) h = (k, refl, h)

pub some_fits : (k : Kind) (d : Doc) → IsOf d (value_of k) → IsOf (some_doc d) (option_of k)
unfolding IsOf
some_fits k d h = (k, refl, h)

pub held-option_doc : (o : Option Doc) → held (option_doc o) ≡ o
held-option_doc None = refl
held-option_doc (Some x) = refl

-- ---- lists

-- if equality is decided, so is whether a list has an element
contains : {A : Type 0} → ((x y : A) → Dec (x ≡ y)) → (xs : List A) (x : A) → Dec (Contains xs x)
contains same [] x = no (not_in_none x)
contains {A} same (y ∷ ys) x = go (same y x) (contains same ys x)
  where
    go : Dec (y ≡ x) → Dec (Contains ys x) → Dec (Contains (y ∷ ys) x)
    go (yes e) later = yes (subst (Contains (y ∷ ys)) e (in_head y ys))
    go (no f) (yes c) = yes (in_tail y ys x c)
    go (no f) (no g) = no (λ c. elim (in_cases y ys x c) [ inl e ↦ f e | inr e ↦ g e ])

-- the elements that are new to earlier ones. P holds of each
record IsNew {A : Type 0} (P : A → Type 0) (earlier xs : List A) : Type 0 where
  pub kept : List A
  pub are : AreNew earlier xs kept
  pub each : AllByRecursion P kept

new_of : {A : Type 0} (P : A → Type 0) → ((x y : A) → Dec (x ≡ y)) → (earlier xs : List A) → AllByRecursion P xs → IsNew P earlier xs
new_of P same earlier [] h = record { kept = []; are = refl; each = tt }
new_of {A} P same earlier (x ∷ xs) h = go (contains same earlier x) (new_of P same earlier xs h.1)
  where
    go : Dec (Contains earlier x) → IsNew P earlier xs → IsNew P earlier (x ∷ xs)
    go (yes c) later = record { kept = later.kept; are = inl (c, later.are); each = later.each }
    go (no n) later = record { kept = x ∷ later.kept; are = inr (later.kept, n, refl, later.are); each = (h.0, later.each) }

all_append : {A : Type 0} (P : A → Type 0) (xs ys : List A) → AllByRecursion P xs → AllByRecursion P ys → AllByRecursion P (xs ++ ys)
all_append P [] ys h g = g
all_append P (x ∷ xs) ys h g = (h.0, all_append P xs ys h.1 g)

-- two lists joined
record IsJoined {A : Type 0} (P : A → Type 0) (xs ys : List A) : Type 0 where
  pub joined : List A
  pub are : AreJoined [] (xs ∷ ys ∷ []) joined
  pub each : AllByRecursion P joined

joined_of_two : {A : Type 0} (P : A → Type 0) → ((x y : A) → Dec (x ≡ y)) → (xs ys : List A) → AllByRecursion P xs → AllByRecursion P ys → IsJoined P xs ys
joined_of_two P same xs ys h g =
    let n = new_of P same xs ys g in
    record { joined = xs ++ n.kept; are = (xs, n.kept, new_to_none xs, (n.kept, [], n.are, refl, sym (append-nil n.kept)), refl); each = all_append P xs n.kept h n.each }

AreItems : Kind → List Doc → Type 0
AreItems k ds = AllByRecursion (λ d. IsOf d (value_of k)) ds

items_all : (k : Kind) (ds : Docs) → ItemsOf ds k → AreItems k (list_in ds)
unfolding ItemsOf AreItems
items_all k no_docs h = tt
items_all k (doc d ds) h = (h.0, items_all k ds h.1)

all_items : (k : Kind) (ds : List Doc) → AreItems k ds → ItemsOf (docs_of ds) k
unfolding ItemsOf AreItems
all_items k [] h = tt
all_items k (d ∷ ds) h = (h.0, all_items k ds h.1)

list_items : (k : Kind) (d : Doc) → IsOf d (value_of (list_of k)) → AreItems k (items_in d)
unfolding IsOf
list_items k (list_doc ds) (j, is, h) = let same : j ≡ k = cc in items_all k ds (subst (ItemsOf ds) same h)
list_items k d h = cc

option_items : (k : Kind) (d : Doc) → IsOf d (option_of (list_of k)) → AreItems k (items_in d)
unfolding AreItems
option_items k d h =
    elim (option_shape (list_of k) d h) [
      | inl p ↦ subst (λ d. AllByRecursion (λ x. IsOf x (value_of k)) (items_in d)) (sym p) tt
      | inr p ↦ subst (λ d. AllByRecursion (λ x. IsOf x (value_of k)) (items_in d)) (sym p.1) (list_items k p.0 p.2)
    ]

-- what two lists are merged to. Each may be absent
pub record IsMadeList (k : Kind) (a b : Doc) : Type 0 where
  pub list : Doc
  pub of_kind : IsOf list (option_of (list_of k))
  pub merged : IsListMerged (a ∷ b ∷ []) list

-- at least one of them is there
list_there : (k : Kind) (a b : Doc) → IsOf a (option_of (list_of k)) → IsOf b (option_of (list_of k)) → list_any is_there (a ∷ b ∷ []) ≡ true → IsMadeList k a b
unfolding IsOf AreItems
list_there k a b h g there =
    let j = joined_of_two (λ d. IsOf d (value_of k)) same_doc (items_in a) (items_in b) (option_items k a h) (option_items k b g) in
    record {
      list = some_doc (list_doc (docs_of j.joined));
      of_kind = (list_of k, refl, (k, refl, all_items k j.joined j.each));
      merged = record { there = sym there; entries = subst (AreJoined [] (items_in a ∷ items_in b ∷ [])) (sym (list_in-docs_of j.joined)) j.are };
    }

none_there : (k : Kind) → IsMadeList k none_doc none_doc
unfolding IsOf
none_there k = record { list = none_doc; of_kind = (list_of k, refl); merged = record { there = refl; entries = ([], [], refl, ([], [], refl, refl, refl), refl) } }

pub first_there : (a b x : Doc) → a ≡ some_doc x → list_any is_there (a ∷ b ∷ []) ≡ true
first_there a b x p = ap (λ a. list_any is_there (a ∷ b ∷ [])) p

pub second_there : (a b y : Doc) → a ≡ none_doc → b ≡ some_doc y → list_any is_there (a ∷ b ∷ []) ≡ true
second_there a b y p q = ap (λ a. list_any is_there (a ∷ b ∷ [])) p ∙ ap (λ b. list_any is_there (none_doc ∷ b ∷ [])) q

pub made_list : (k : Kind) (a b : Doc) → IsOf a (option_of (list_of k)) → IsOf b (option_of (list_of k)) → IsMadeList k a b
made_list k a b h g =
    elim (option_shape (list_of k) a h) [
      | inl p ↦ elim (option_shape (list_of k) b g) [
        | inl q ↦ subst (λ a. IsMadeList k a b) (sym p) (subst (IsMadeList k none_doc) (sym q) (none_there k))
        | inr q ↦ list_there k a b h g (second_there a b q.0 p q.1)
      ]
      | inr p ↦ list_there k a b h g (first_there a b p.0 p.1)
    ]

-- ---- maps

-- what is found is of the kind
abbrev pub FindsOf : Kind → Doc → Type 0
FindsOf k d = (name : List ℕ) → IfSome (entry_at name d) (λ x. IsOf x (value_of k))

pub map_finds : (k : Kind) (d : Doc) → IsOf d (value_of (map_of k)) → FindsOf k d
unfolding IsOf
map_finds k (map_doc es) (p, is, h) = λ name. let same : p ≡ value_of k = cc in found_is_of (value_of k) es name (subst (EntriesOf es) same h)
map_finds k d h = λ name. cc

-- entries of a place, as entries of a document
pub entries_fit : (p : Place) (es : List (List ℕ × Doc)) → AllByRecursion (λ e. IsOf e.1 p) es → EntriesOf (entries_of_list es) p
unfolding EntriesOf
entries_fit p [] h = tt
entries_fit p (e ∷ es) h = (h.0, entries_fit p es h.1)

-- the names of two documents' entries
abbrev pub names_of : Doc → Doc → List (List ℕ)
names_of a b = keys_of (entries_in a) ++ keys_of (entries_in b)

-- the entry of this name: the first map's, or else the second's
abbrev pub first_entry : Doc → Doc → List ℕ → Option Doc
first_entry a b name = first_of (entry_at name a ∷ entry_at name b ∷ [])

-- what two maps are merged to
pub record IsMadeMap (k : Kind) (a b : Doc) : Type 0 where
  pub made : Doc
  pub of_kind : IsOf made (value_of (map_of k))
  pub order : IsInOrder made
  pub found : (name : List ℕ) → entry_at name made ≡ first_entry a b name

first_entries : (a b : Doc) → AreGathered (first_entry a b)
first_entries a b =
    gathered (first_entry a b) (names_of a b)
    (λ q unnamed.
    let n = not_named q (keys_of (entries_in a)) (keys_of (entries_in b)) unnamed in
    ap (λ o. option_or o (option_or (entry_at q b) None)) (none_found (entries_in a) q n.0) ∙ ap (λ o. option_or o None) (none_found (entries_in b) q n.1))

map_of_entries : (k : Kind) (a b : Doc) → FindsOf k a → FindsOf k b → AreGathered (first_entry a b) → IsMadeMap k a b
unfolding IsOf
map_of_entries k a b h g es = record {
  made = map_doc (entries_of_list es.entries);
  of_kind = (
    value_of k,
    refl,
    entries_fit (value_of k) es.entries
        (all_found (λ name d. IsOf d (value_of k)) es.entries es.ascend
        (λ q. subst (λ o. IfSome o (λ d. IsOf d (value_of k))) (sym (es.found q)) (first_fits (λ d. IsOf d (value_of k)) (entry_at q a) (entry_at q b) (h q) (g q)))),
  );
  order = rw (pairs_in-entries_of_list es.entries) es.ascend;
  found = λ name. ap (λ ps. find_in ps name) (pairs_in-entries_of_list es.entries) ∙ es.found name;
}

pub made_map : (k : Kind) (a b : Doc) → FindsOf k a → FindsOf k b → IsMadeMap k a b
made_map k a b h g = map_of_entries k a b h g (first_entries a b)

-- ---- extensions

-- what the extensions of two objects are merged to: the later of one name stays
pub record AreMadeExtensions (e f : Option Members) : Type 0 where
  pub made : Option Members
  pub there : is_some made ≡ list_any is_some (e ∷ f ∷ [])
  pub order : Ascends (names_in (members_or_none made))
  pub found : (name : List ℕ) → get_member name (members_or_none made) ≡ last_of (get_member name (members_or_none e) ∷ get_member name (members_or_none f) ∷ [])

abbrev pairs : Option Members → List (List ℕ × Data)
pairs e = member_pairs (members_or_none e)

abbrev last_extension : Option Members → Option Members → List ℕ → Option Data
last_extension e f name = last_of (get_member name (members_or_none e) ∷ get_member name (members_or_none f) ∷ [])

no_member : (e : Option Members) (q : List ℕ) → find_in (pairs e) q ≡ None → get_member q (members_or_none e) ≡ None
no_member e q none = sym (find_member q (members_or_none e)) ∙ none

last_extensions : (e f : Option Members) → AreGathered (last_extension e f)
last_extensions e f =
    gathered (last_extension e f) (keys_of (pairs e) ++ keys_of (pairs f))
    (λ q unnamed.
    let n = not_named q (keys_of (pairs e)) (keys_of (pairs f)) unnamed in
    ap (λ o. option_or o (get_member q (members_or_none e))) (no_member f q (none_found (pairs f) q n.1)) ∙ no_member e q (none_found (pairs e) q n.0))

some_extensions : (e f : Option Members) → list_any is_some (e ∷ f ∷ []) ≡ true → AreMadeExtensions e f
some_extensions e f there =
    let es = last_extensions e f in
    record {
      made = Some (members_of_pairs es.entries);
      there = sym there;
      order = subst Ascends (sym (ap keys_of (member_pairs-of_pairs es.entries)) ∙ names_of_pairs (members_of_pairs es.entries)) es.ascend;
      found =
          λ name. sym (find_member name (members_of_pairs es.entries)) ∙ ap (λ ps. find_in ps name) (member_pairs-of_pairs es.entries) ∙ es.found name;
    }

pub made_extensions : (e f : Option Members) → AreMadeExtensions e f
unfolding IsStrictlySortedBy
made_extensions None None = record { made = None; there = refl; order = tt; found = λ name. refl }
made_extensions None (Some n) = some_extensions None (Some n) refl
made_extensions (Some m) f = some_extensions (Some m) f refl
