-- What documents with a property are merged or nested into has it.
use Rattle.std.proofs.Common.{◌≡◌, inl, inr, ℕ, List, [], ◌∷◌, ◌++◌, Bool, true, false, ◌||◌, Option, Some, None, IfSome, map, if◌then◌else◌, refl, sym, subst, ap, ◌∙◌, codes, true≢false}
use Rattle.std.specs.List.{AllByRecursion, list_any}
use Rattle.std.specs.Option.{option_or, is_some}
use Rattle.std.specs.Str.{bytes_eq}
use Rattle.std.proofs.lemmas.Option.{IfSome_then}
use Rattle.serde_json.specs.Data.{Members, no_members, member}
use Rattle.serde_json.specs.Find.{get_member}
use Rattle.utoipa_base.specs.Kinds.{open_api_object}
use Rattle.utoipa_base.specs.Docs.{Doc, Docs, table_doc, Entries, no_entries, entries_doc}
use Rattle.utoipa_base.specs.Extensions.{members_or_none}
use Rattle.utoipa_merging.specs.Rules.{first_of, last_of, given, AreNew, AreJoined}
use Rattle.utoipa_merging.specs.Slots.{path_slot, has_extensions, extension_at, component_at, entries_in, entry_at, extensions_in, items_in, parts, fixed_members, Joined, servers_joined, security_joined, tags_joined, joined_of, paths_of, components_of}
use Rattle.utoipa_merging.specs.Merged.{IsOpenApi, IsMerged, IsInKeyOrder}
use Rattle.utoipa_merging.specs.Nested.{IsNested, with_paths, answered, item_if, mounted_at}
use Rattle.utoipa_merging.proofs.InOrder.{first_member}
use Rattle.utoipa_merging.proofs.Lookups.{same_text}
use Rattle.utoipa_merging.proofs.Shapes.{table_shape}
use Rattle.utoipa_merging.proofs.Properties.{level_0, level_1, Property}
use Rattle.utoipa_merging.proofs.PropertySlots.{all_then, field_has, extensions_have, entries_have, entry_has, extension_has, HasParts, HasUnder, PathHas, slot_has, PathsNamed, HasSlots, slots_of}
use Rattle.utoipa_merging.proofs.PropertyByShape.{has_by_slots}

-- ---- what holds of all holds of what comes of them

-- of what a function makes of all, where it makes it of each
mapped_all : {X Y : Type 0} (P : X → Type 0) (Q : Y → Type 0) (f : X → Y) → ((x : X) → P x → Q (f x)) → (xs : List X) → AllByRecursion P xs → AllByRecursion Q (map f xs)
mapped_all P Q f each [] h = tt
mapped_all P Q f each (x ∷ xs) h = (each x h.0, mapped_all P Q f each xs h.1)

or_holds : {A : Type 0} (P : A → Type 0) (o p : Option A) → IfSome o P → IfSome p P → IfSome (option_or o p) P
or_holds P None p g h = h
or_holds P (Some x) p g h = g

-- of the first that is there
first_holds : {A : Type 0} (P : A → Type 0) (os : List (Option A)) → AllByRecursion (λ o. IfSome o P) os → IfSome (first_of os) P
first_holds P [] h = tt
first_holds P (o ∷ os) h = or_holds P o (first_of os) h.0 (first_holds P os h.1)

-- of the last that is there
last_holds : {A : Type 0} (P : A → Type 0) (os : List (Option A)) → AllByRecursion (λ o. IfSome o P) os → IfSome (last_of os) P
last_holds P [] h = tt
last_holds P (o ∷ os) h = or_holds P (last_of os) o (last_holds P os h.1) h.0

-- of what is kept
kept_all : {A : Type 0} (P : A → Type 0) (earlier xs kept : List A) → AreNew earlier xs kept → AllByRecursion P xs → AllByRecursion P kept
kept_all P earlier [] kept new h = subst (AllByRecursion P) (sym new) tt
kept_all P earlier (x ∷ xs) kept (inl new) h = kept_all P earlier xs kept new.1 h.1
kept_all P earlier (x ∷ xs) kept (inr (more, apart, is, new)) h = subst (AllByRecursion P) (sym is) (h.0, kept_all P earlier xs more new h.1)

both_all : {A : Type 0} (P : A → Type 0) (xs ys : List A) → AllByRecursion P xs → AllByRecursion P ys → AllByRecursion P (xs ++ ys)
both_all P [] ys g h = h
both_all P (x ∷ xs) ys g h = (g.0, both_all P xs ys g.1 h)

-- of what is joined
joined_all : {A : Type 0} (P : A → Type 0) (earlier : List A) (ls : List (List A)) (joined : List A) → AreJoined earlier ls joined → AllByRecursion (AllByRecursion P) ls → AllByRecursion P joined
joined_all P earlier [] joined is h = subst (AllByRecursion P) (sym is) tt
joined_all P earlier (l ∷ ls) joined (kept, more, new, rest, is) h =
    subst (AllByRecursion P) (sym is) (both_all P kept more (kept_all P earlier l kept new h.0) (joined_all P (earlier ++ l) ls more rest h.1))

-- ---- extensions of Paths that are there and empty

-- where extensions are there and empty they may be
abbrev MayBeEmpty : Property → Doc → Type 0
MayBeEmpty p d = extensions_in d ≡ Some no_members → p.Extends 1 (Some no_members)

none_of_or : {A : Type 0} (o q : Option A) → option_or o q ≡ None → (o ≡ None) × (q ≡ None)
none_of_or None q e = (refl, e)
none_of_or (Some x) q e = cc

-- Extensions that are there, of which no name has a value, are there and empty somewhere
empty_somewhere : (p : Property) (all : List Doc) → AllByRecursion (MayBeEmpty p) all → list_any has_extensions all ≡ true → ((name : List ℕ) → last_of (map (extension_at name) all) ≡ None) → p.Extends 1 (Some no_members)
empty_somewhere p [] h there none = absurd (true≢false (sym there))
empty_somewhere p (x ∷ xs) h there none =
    by_case (extensions_in x) refl
    (λ later. empty_somewhere p xs h.1 later (λ name. (none_of_or (last_of (map (extension_at name) xs)) (extension_at name x) (none name)).0))
  where
    by_case : (e : Option Members) → extensions_in x ≡ e → (list_any has_extensions xs ≡ true → p.Extends 1 (Some no_members)) → p.Extends 1 (Some no_members)
    by_case None is later = later (sym (ap (λ e. is_some e || list_any has_extensions xs) is) ∙ there)
    by_case (Some no_members) is later = h.0 is
    by_case (Some (member k t ms)) is later =
        let found : get_member k (members_or_none (extensions_in x)) ≡ None = (none_of_or (last_of (map (extension_at k) xs)) (extension_at k x) (none k)).1 in
        let some : Some t ≡ None = sym (first_member k t ms) ∙ sym (ap (λ e. get_member k (members_or_none e)) is) ∙ found in
        cc

-- ---- merging

-- of a slot that comes from the first that has it
first_slot : {A : Type 0} (P : Doc → Type 0) (Q : A → Type 0) (slot : Doc → Option A) → ((d : Doc) → P d → IfSome (slot d) Q) → (ds : List Doc) → AllByRecursion P ds → (o : Option A) → o ≡ first_of (map slot ds) → IfSome o Q
first_slot P Q slot each ds h o is = subst (λ x. IfSome x Q) (sym is) (first_holds Q (map slot ds) (mapped_all P (λ x. IfSome x Q) slot each ds h))

-- of a slot that comes from the last that has it
last_slot : {A : Type 0} (Q : A → Type 0) (slot : Doc → Option A) (ds : List Doc) → AllByRecursion (λ d. IfSome (slot d) Q) ds → (o : Option A) → o ≡ last_of (map slot ds) → IfSome o Q
last_slot Q slot ds h o is =
    subst (λ x. IfSome x Q) (sym is) (last_holds Q (map slot ds) (mapped_all (λ d. IfSome (slot d) Q) (λ x. IfSome x Q) slot (λ d q. q) ds h))

-- the slots of what is merged of documents that have the property in theirs
merged_slots : (p : Property) (documents : List Doc) (d : Doc) → IsMerged documents d → AllByRecursion (HasSlots p) documents → HasSlots p d
merged_slots p documents d m h = record {
  fixed = first_slot (HasSlots p) (HasParts p 0) (given (parts fixed_members)) (λ x s. s.fixed) documents h _ m.fixed;
  items =
      λ j. joined_all (p.Has 2) [] _ _ (m.lists j).entries
      (mapped_all (λ l. AllByRecursion (p.Has 2) (items_in l)) (AllByRecursion (p.Has 2)) items_in (λ l g. g) _ (of_each (λ l. AllByRecursion (p.Has 2) (items_in l)) (joined_of j) (λ x s. s.items j)));
  paths = λ path s. first_slot _ (PathHas p path s) (path_slot path s) (λ x g. g) _ (of_each (λ x. IfSome (path_slot path s x) (PathHas p path s)) paths_of (λ x t. t.paths path s)) _ (m.paths.items path s);
  path_extensions =
      λ name. last_slot (p.Extension 1 name) (extension_at name) _ (of_each (λ x. IfSome (extension_at name x) (p.Extension 1 name)) paths_of (λ x s. s.path_extensions name)) _ (m.paths.extensions name);
  empty_extensions =
      λ is. empty_somewhere p (map paths_of documents) (of_each (MayBeEmpty p) paths_of (λ x s. s.empty_extensions)) (sym m.paths.extended ∙ ap is_some is)
      (λ name. sym (m.paths.extensions name) ∙ ap (λ e. get_member name (members_or_none e)) is);
  components = λ k name. first_slot _ (HasUnder p 3 name) (component_at k name) (λ x g. g) _ (of_each (λ x. IfSome (component_at k name x) (HasUnder p 3 name)) components_of (λ x s. s.components k name)) _ (m.components.maps k name);
  component_extensions =
      first_slot _ (p.Extends 1) (given extensions_in) (λ x g. g) _ (of_each (λ x. p.Extends 1 (extensions_in x)) components_of (λ x s. s.component_extensions)) _ m.components.extensions;
}
  where
    of_each : (P : Doc → Type 0) (part : Doc → Doc) → ((x : Doc) → HasSlots p x → P (part x)) → AllByRecursion P (map part documents)
    of_each P part each = mapped_all (HasSlots p) P part each documents h

-- what documents with the property are merged into has it
pub merged_has : (p : Property) (documents : List Doc) (d : Doc) → IsMerged documents d → AllByRecursion (λ x. p.Has 0 x × PathsNamed p x) documents → IsInKeyOrder d → p.Has 0 d
merged_has p documents d m h s = has_by_slots p d m.of_kind s (merged_slots p documents d m (all_then (λ x g. slots_of p x g.0 g.1) documents h))

-- ---- nesting

-- what is asked of an item at a path
abbrev ItemAsked : Property → List ℕ → Doc → Type 0
ItemAsked p path i = p.Has 2 i × p.Names path

-- the nested items under their answers
answered_all : (p : Property) (answers : List (List ℕ)) (es : List (List ℕ × Doc)) → AllByRecursion p.Names answers → AllByRecursion (λ e. HasUnder p 2 e.0 e.1) es → AllByRecursion (λ e. ItemAsked p e.0 e.1) (answered answers es)
answered_all p [] es g h = tt
answered_all p (a ∷ answers) [] g h = tt
answered_all p (a ∷ answers) (e ∷ es) g h = ((h.0.0, g.0), answered_all p answers es g.1 h.1)

item_if_asked : (p : Property) (path : List ℕ) (e : List ℕ × Doc) → ItemAsked p e.0 e.1 → IfSome (item_if path e) (ItemAsked p path)
item_if_asked p path e h = by_case (bytes_eq path e.0) refl
  where
    by_case : (b : Bool) → bytes_eq path e.0 ≡ b → IfSome (if b then Some e.1 else None) (ItemAsked p path)
    by_case true is = (h.0, subst p.Names (sym (same_text path e.0 is)) h.1)
    by_case false is = tt

-- an item of a document
own_item : (p : Property) (d : Doc) (path : List ℕ) → p.Has 0 d → PathsNamed p d → IfSome (entry_at path (paths_of d)) (ItemAsked p path)
own_item p d path h named = by_case (entry_at path (paths_of d)) (entry_has p 1 path (paths_of d) level_1 (field_has p 0 (codes "paths") d level_0 h)) (named path)
  where
    by_case : (o : Option Doc) → IfSome o (HasUnder p 2 path) → IfSome o (λ i. p.Names path) → IfSome o (ItemAsked p path)
    by_case None g n = tt
    by_case (Some i) g n = (g.0, n)

-- the item at a path once the nested ones were put
mounted_asked : (p : Property) (answers : List (List ℕ)) (other self : Doc) (path : List ℕ) → AllByRecursion p.Names answers → p.Has 0 other → p.Has 0 self → PathsNamed p self
    → IfSome (mounted_at answers other self path) (ItemAsked p path)
mounted_asked p answers other self path a g h named =
    let nested = entries_in (paths_of other) in
    or_holds (ItemAsked p path) (last_of (map (item_if path) (answered answers nested))) (entry_at path (paths_of self))
    (last_holds (ItemAsked p path) _
    (mapped_all (λ e. ItemAsked p e.0 e.1) (λ o. IfSome o (ItemAsked p path)) (item_if path) (item_if_asked p path) (answered answers nested) (answered_all p answers nested a (entries_have p 1 (paths_of other) level_1 (field_has p 0 (codes "paths") other level_0 g)))))
    (own_item p self path h named)

-- other paths change no list
joined_with : (p : Property) (es : Entries) (e x : Option Members) (ds : Docs) → HasSlots p (table_doc open_api_object ds x) → (j : Joined)
    → AllByRecursion (p.Has 2) (items_in (joined_of j (with_paths es e (table_doc open_api_object ds x))))
joined_with p es e x ds slots servers_joined = slots.items servers_joined
joined_with p es e x ds slots security_joined = slots.items security_joined
joined_with p es e x ds slots tags_joined = slots.items tags_joined

-- The slots of a document with other paths. Only of the entries that a look-up finds anything is known, so the document need not have the property.
slots_with_paths : (p : Property) (es : Entries) (e : Option Members) (d : Doc) → IsOpenApi d → ((path : List ℕ) → IfSome (entry_at path (entries_doc es e)) (ItemAsked p path)) → p.Extends 1 e → HasSlots p d
    → HasSlots p (with_paths es e d)
slots_with_paths p es e d h found extended =
    let t = table_shape open_api_object d h in
    subst (λ x. HasSlots p x → HasSlots p (with_paths es e x)) (sym t.is)
    (λ slots. record {
      fixed = slots.fixed;
      items = joined_with p es e t.extensions t.fields slots;
      paths =
          λ path s. slot_has p path s (entry_at path (entries_doc es e)) (IfSome_then (entry_at path (entries_doc es e)) (found path) (λ i g. g.0))
          (IfSome_then (entry_at path (entries_doc es e)) (found path) (λ i g. g.1));
      path_extensions = λ name. extension_has p 1 name (entries_doc es e) extended;
      empty_extensions = λ is. subst (p.Extends 1) is extended;
      components = slots.components;
      component_extensions = slots.component_extensions;
    })

-- what a document with the property is with another nested into it that has it too, has it, where no answer is refused
pub nested_has : (p : Property) (answers : List (List ℕ)) (own nested d : Doc) → IsOpenApi own → IsOpenApi nested → IsNested answers own nested d → p.Has 0 own → PathsNamed p own → p.Has 0 nested → PathsNamed p nested
    → AllByRecursion p.Names answers → IsInKeyOrder d → p.Has 0 d
nested_has p answers own nested d h g n has named nested_has' nested_named a s =
    has_by_slots p d n.merged.of_kind s (merged_slots p _ d n.merged (own_slots, (nested_slots, tt)))
  where
    own_slots : HasSlots p (with_paths n.items (extensions_in (paths_of own)) own)
    own_slots =
        slots_with_paths p n.items (extensions_in (paths_of own)) own h
        (λ path. subst (λ o. IfSome o (ItemAsked p path)) (sym (n.mounted path)) (mounted_asked p answers nested own path a nested_has' has named))
        (extensions_have p 1 (paths_of own) level_1 (field_has p 0 (codes "paths") own level_0 has)) (slots_of p own has named)

    nested_slots : HasSlots p (with_paths no_entries None nested)
    nested_slots = slots_with_paths p no_entries None nested g (λ path. tt) (p.no_extensions 1 level_1) (slots_of p nested nested_has' nested_named)
