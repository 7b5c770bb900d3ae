-- What unambiguous documents are merged into is unambiguous, and so is what an unambiguous document is with one nested into it, where no
-- answer reads as an extension's name.
use Rattle.std.proofs.Common.{◌≡◌, ℕ, List, [], ◌∷◌, Bool, true, false, not, Option, Some, None, IfSome, option_and_then, All, length, map, if◌then◌else◌, refl, sym, ap, ◌∙◌, subst, codes, true≢false, arith}
use Rattle.std.specs.List.{AllByRecursion}
use Rattle.std.specs.Option.{option_or, is_some}
use Rattle.std.proofs.lemmas.Bool.{and_from}
use Rattle.std.proofs.lemmas.List.Elements.{recursion_from_All}
use Rattle.std.proofs.lemmas.Slice.Eq.{bytes_eq-Decides}
use Rattle.serde_json.specs.Data.{Members, no_members, member}
use Rattle.utoipa_base.specs.Docs.{Doc, entries_doc, Docs, no_docs, doc, Entries, no_entries, entry}
use Rattle.utoipa_base.specs.Extensions.{is_extension, all_extensions, members_or_none}
use Rattle.utoipa_base.specs.Kinds.{named, open_api_object, path_item_object}
use Rattle.utoipa_base.specs.Shape.{IsOf, value_of}
use Rattle.utoipa_base.specs.Tables.{table, paths}
use Rattle.utoipa_base.specs.WellFormed.{AllExtensions, names_no_extension, KeyOf, IsUnambiguous, AreUnambiguous, AreUnambiguousEntries}
use Rattle.utoipa_base.proofs.BoolFacts.{and_first, and_second, not_true}
use Rattle.utoipa_merging.specs.Rules.{last_of}
use Rattle.utoipa_merging.specs.Slots.{base, item_slot, list_in, pairs_in, entries_in, entry_at, paths_of}
use Rattle.utoipa_merging.specs.Merged.{IsOpenApi, IsMerged, IsInKeyOrder}
use Rattle.utoipa_merging.specs.Nested.{IsNested, answered, item_if}
use Rattle.utoipa_merging.proofs.InOrder.{found_of_all, member_pairs, member_of_all}
use Rattle.utoipa_merging.proofs.Nesting.{nested_items}
use Rattle.utoipa_merging.proofs.Properties.{fields_of_all, level_0, Property}
use Rattle.utoipa_merging.proofs.PropertySlots.{all_then, field_has, PathsNamed}
use Rattle.utoipa_merging.proofs.PropertyMerged.{merged_has, nested_has}
use Rattle.utoipa_merging.proofs.Shapes.{table_shape, object_shape, field_fits}

not_false : (a : Bool) → a ≡ false → not a ≡ true
not_false a h = ap not h

-- ---- parts

pub docs_unambiguous : (ds : Docs) → AllByRecursion IsUnambiguous (list_in ds) → AreUnambiguous ds
unfolding AreUnambiguous
docs_unambiguous no_docs h = tt
docs_unambiguous (doc d ds) h = (h.0, docs_unambiguous ds h.1)

pub unambiguous_docs : (ds : Docs) → AreUnambiguous ds → AllByRecursion IsUnambiguous (list_in ds)
unfolding AreUnambiguous
unambiguous_docs no_docs h = tt
unambiguous_docs (doc d ds) h = (h.0, unambiguous_docs ds h.1)

pub entries_unambiguous : (es : Entries) → AllByRecursion (λ e. IsUnambiguous e.1 × KeyOf e.0 e.1) (pairs_in es) → AreUnambiguousEntries es
unfolding AreUnambiguousEntries
entries_unambiguous no_entries h = tt
entries_unambiguous (entry k d es) h = (h.0.0, h.0.1, entries_unambiguous es h.1)

pub unambiguous_entries : (es : Entries) → AreUnambiguousEntries es → AllByRecursion (λ e. IsUnambiguous e.1 × KeyOf e.0 e.1) (pairs_in es)
unfolding AreUnambiguousEntries
unambiguous_entries no_entries h = tt
unambiguous_entries (entry k d es) h = ((h.0, h.1), unambiguous_entries es h.2)

-- the name reads as no extension's
abbrev pub IsNoExtension : List ℕ → Type 0
IsNoExtension name = is_extension name ≡ false

pub names_apart : (es : Entries) → AllByRecursion (λ e. IsNoExtension e.0) (pairs_in es) → names_no_extension es ≡ true
names_apart no_entries h = refl
names_apart (entry k d es) h = and_from _ _ (not_false (is_extension k) h.0) (names_apart es h.1)

-- entries beside extensions, whose names read as no extension's
pub entries_apart : (es : Entries) → AreUnambiguousEntries es → names_no_extension es ≡ true → AllByRecursion (λ e. IsUnambiguous e.1 × KeyOf e.0 e.1 × IsNoExtension e.0) (pairs_in es)
unfolding AreUnambiguousEntries
entries_apart no_entries h apart = tt
entries_apart (entry k d es) h apart = ((h.0, h.1, not_true (is_extension k) (and_first _ _ apart)), entries_apart es h.2 (and_second _ _ apart))

pub members_named : (ms : Members) → AllByRecursion (λ e. is_extension e.0 ≡ true) (member_pairs ms) → all_extensions ms ≡ true
members_named no_members h = refl
members_named (member k t ms) h = and_from _ _ h.0 (members_named ms h.1)

pub named_members : (ms : Members) → all_extensions ms ≡ true → AllByRecursion (λ e. is_extension e.0 ≡ true) (member_pairs ms)
named_members no_members h = tt
named_members (member k t ms) h = (and_first _ _ h, named_members ms (and_second _ _ h))

-- ---- the property

unfoldable pub unambiguous : Property
unfolding IsUnambiguous
unambiguous = record {
  Has = λ k. IsUnambiguous;
  Stands = KeyOf;
  Names = IsNoExtension;
  Extends = λ k. AllExtensions;
  Extension = λ k name t. is_extension name ≡ true;
  none = λ k l. tt;
  some = λ k d written h. h;
  in_some = λ k d h. h;
  list = λ k ds l h. docs_unambiguous ds h;
  in_list = λ k ds l h. unambiguous_docs ds h;
  map = λ k es l h. entries_unambiguous es h;
  in_map = λ k es l h. unambiguous_entries es h;
  object = λ k es e l h g. (entries_unambiguous es (all_then (λ x i. (i.0, i.1)) (pairs_in es) h), names_apart es (all_then (λ x i. i.2) (pairs_in es) h), g);
  in_object = λ k es e l h. entries_apart es h.0 h.1;
  beside_object = λ k es e l h. h.2;
  table = λ k n ds e l h g. (docs_unambiguous ds h, g);
  in_table = λ k n ds e l h. fields_of_all IsUnambiguous tt (table n) ds (unambiguous_docs ds h.0);
  beside_table = λ k n ds e l h. h.1;
  stands = λ name n ds e. tt;
  no_extensions = λ k l. refl;
  extends = λ k name t ms h. members_named (member name t ms) h;
  extension = λ k e h name. member_of_all (λ n t. is_extension n ≡ true) (members_or_none e) name (named_members (members_or_none e) h);
}

-- ---- the names of paths

-- the paths of an unambiguous document read as no extensions
pub paths_apart : (d : Doc) → IsOpenApi d → IsUnambiguous d → AllByRecursion (λ e. IsNoExtension e.0) (entries_in (paths_of d))
unfolding IsUnambiguous unambiguous
paths_apart d h u =
    let t = table_shape open_api_object d h in
    let fits : IsOf (paths_of d) (value_of paths) = subst (λ x. IsOf (paths_of x) (value_of paths)) (sym t.is) (field_fits (codes "paths") (table open_api_object) t.fields _ t.rows refl) in
    let o = object_shape (named path_item_object) (paths_of d) fits in
    subst (λ x. IsUnambiguous x → AllByRecursion (λ e. IsNoExtension e.0) (entries_in x)) (sym o.is) (of_object o.entries o.extensions) (has_field d u)
  where
    has_field : (x : Doc) → IsUnambiguous x → IsUnambiguous (paths_of x)
    has_field x g = field_has unambiguous 0 (codes "paths") x level_0 g

    of_object : (es : Entries) (e : Option Members) → IsUnambiguous (entries_doc es e) → AllByRecursion (λ e. IsNoExtension e.0) (pairs_in es)
    of_object es e g = all_then (λ x i. i.2) (pairs_in es) (entries_apart es g.0 g.1)

-- so they are allowed
pub paths_named : (d : Doc) → IsOpenApi d → IsUnambiguous d → PathsNamed unambiguous d
unfolding unambiguous
paths_named d h u path = found_of_all (λ name i. IsNoExtension name) (entries_in (paths_of d)) path (paths_apart d h u)

-- ---- merging and nesting

pub merged_unambiguous : (documents : List Doc) (d : Doc) → IsMerged documents d → All IsOpenApi documents → All IsUnambiguous documents → IsInKeyOrder d → IsUnambiguous d
unfolding unambiguous
merged_unambiguous documents d m k h s =
    merged_has unambiguous documents d m (each documents (recursion_from_All IsOpenApi documents k) (recursion_from_All IsUnambiguous documents h)) s
  where
    each : (ds : List Doc) → AllByRecursion IsOpenApi ds → AllByRecursion IsUnambiguous ds → AllByRecursion (λ x. IsUnambiguous x × PathsNamed unambiguous x) ds
    each [] k h = tt
    each (x ∷ xs) k h = ((h.0, paths_named x k.0 h.0), each xs k.1 h.1)

pub nested_unambiguous : (answers : List (List ℕ)) (own nested d : Doc) → IsOpenApi own → IsOpenApi nested → IsNested answers own nested d → IsUnambiguous own → IsUnambiguous nested
    → AllByRecursion IsNoExtension answers → IsInKeyOrder d → IsUnambiguous d
unfolding unambiguous
nested_unambiguous answers own nested d h g n u v a s = nested_has unambiguous answers own nested d h g n u (paths_named own h u) v (paths_named nested g v) a s

-- ---- the answers to the paths of what is nested

-- each answer stands among the answered items
are_answered : (answers : List (List ℕ)) (es : List (List ℕ × Doc)) → length answers ≡ length es → AllByRecursion (λ a. is_some (last_of (map (item_if a) (answered answers es))) ≡ true) answers
are_answered [] es same = tt
are_answered (a ∷ answers) [] same = absurd (omega arith)
are_answered (a ∷ answers) (e ∷ es) same = (
  last_is_there a e.1 (last_of (map (item_if a) (answered answers es))),
  all_then (λ b there. earlier_is_there (last_of (map (item_if b) (answered answers es))) (item_if b (a, e.1)) there) answers (are_answered answers es (omega arith)),
)
  where
    earlier_is_there : (o q : Option Doc) → is_some o ≡ true → is_some (option_or o q) ≡ true
    earlier_is_there None q there = absurd (true≢false (sym there))
    earlier_is_there (Some i) q there = refl

    last_is_there : (name : List ℕ) (i : Doc) (o : Option Doc) → is_some (option_or o (item_if name (name, i))) ≡ true
    last_is_there name i None = ap (λ b. is_some (if b then Some i else None)) ((bytes_eq-Decides name name).1 refl)
    last_is_there name i (Some j) = refl

-- an item that is mounted is there
mounted_there : (o q : Option Doc) → is_some o ≡ true → is_some (option_and_then (item_slot base) (option_or o q)) ≡ true
mounted_there None q there = absurd (true≢false (sym there))
mounted_there (Some i) q there = refl

-- what is asked where an item is there
where_there : (P : Type 0) (o : Option Doc) → is_some (option_and_then (item_slot base) o) ≡ true → IfSome o (λ i. P) → P
where_there P None there h = absurd (true≢false (sym there))
where_there P (Some i) there h = h

-- where what comes of nesting is unambiguous, no answer reads as an extension's name
pub answers_apart : (answers : List (List ℕ)) (own nested d : Doc) → IsOpenApi own → IsOpenApi nested → IsNested answers own nested d → IsUnambiguous d → AllByRecursion IsNoExtension answers
answers_apart answers own nested d h g n u =
    all_then
    (λ a there.
    where_there (IsNoExtension a) (entry_at a (paths_of d))
    (ap is_some (nested_items answers own nested d h g n a base) ∙ mounted_there _ (entry_at a (paths_of own)) there)
    (found_of_all (λ name i. IsNoExtension name) (entries_in (paths_of d)) a (paths_apart d n.merged.of_kind u)))
    answers
    (are_answered answers (entries_in (paths_of nested)) n.each_answered)
