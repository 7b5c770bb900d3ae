-- What unambiguous documents are merged or nested into is written no deeper than they are. Of ambiguous ones it is not said: of an extension
-- that has the name of a member nothing is written.
use Rattle.std.proofs.Common.{◌≡◌, ◌≤◌, inr, ◌-◌, ℕ, suc, List, [], ◌∷◌, Bool, true, false, Option, Some, None, IfSome, All, refl, sym, ap, ◌∙◌, subst, cond, nat_cmp, true≢false, arith}
use Rattle.std.specs.Cmp.Lexicographic.{slice_cmp}
use Rattle.std.specs.List.{AllByRecursion}
use Rattle.std.proofs.lemmas.List.Elements.{recursion_from_All}
use Rattle.serde_json.specs.Data.{Data, Members, no_members, member, depth, items_depth, members_depth}
use Rattle.serde_json.specs.Find.{get_member}
use Rattle.utoipa_base.specs.Kinds.{Mark, required, optional, or_null, defaulted, ObjectType, Row}
use Rattle.utoipa_base.specs.Docs.{Doc, text_doc, flag_doc, any_value_doc, none_doc, list_doc, map_doc, ordered_map_doc, Docs, no_docs, doc, Entries, no_entries, entry}
use Rattle.utoipa_base.specs.Extensions.{is_extension, extension_members, all_extensions, members_or_none}
use Rattle.utoipa_base.specs.Tables.{table}
use Rattle.utoipa_base.specs.WellFormed.{AllExtensions, names_no_extension, KeyOf, IsUnambiguous}
use Rattle.utoipa_base.specs.Writing.{write, write_items, write_entries, put_written, write_rows, left_out, merge_member, merge_members}
use Rattle.utoipa_base.proofs.BoolFacts.{and_first, and_second}
use Rattle.utoipa_base.proofs.Results.{by_order}
use Rattle.utoipa_base.proofs.TableNames.{is_row, are_apart, first_once, others_apart, table_apart}
use Rattle.utoipa_base.proofs.WrittenMembers.{Lacks, lacks_extensions, lacks_put, stands, write_rows-same, write_rows-extension, merge-extensions}
use Rattle.utoipa_merging.specs.Slots.{list_in, pairs_in}
use Rattle.utoipa_merging.specs.Merged.{IsOpenApi, IsMerged, IsInKeyOrder}
use Rattle.utoipa_merging.specs.Nested.{IsNested}
use Rattle.utoipa_merging.proofs.Determined.{of_some}
use Rattle.utoipa_merging.proofs.InOrder.{member_pairs, member_of_all}
use Rattle.utoipa_merging.proofs.Properties.{AllFields, IsLevel, Property}
use Rattle.utoipa_merging.proofs.PropertySlots.{all_then, PathsNamed}
use Rattle.utoipa_merging.proofs.PropertyMerged.{merged_has, nested_has}
use Rattle.utoipa_merging.proofs.ReadShapes.{merge_members_depth, put_unless_depth, extension_members_depth}
use Rattle.utoipa_merging.proofs.UnambiguousMerged.{IsNoExtension, unambiguous, paths_named}

-- two facts of each
all_both : {X : Type 0} (P Q : X → Type 0) (xs : List X) → AllByRecursion P xs → AllByRecursion Q xs → AllByRecursion (λ x. P x × Q x) xs
all_both P Q [] g h = tt
all_both P Q (x ∷ xs) g h = ((g.0, h.0), all_both P Q xs g.1 h.1)

-- of each row
fields_both : (P Q : Doc → Type 0) (rs : List Row) (ds : Docs) → AllFields P rs ds → AllFields Q rs ds → AllFields (λ d. P d × Q d) rs ds
fields_both P Q [] ds g h = tt
fields_both P Q (r ∷ rs) ds g h = ((g.0, h.0), fields_both P Q rs _ g.1 h.1)

-- ---- how deep parts are

-- the document is written at most this deep
abbrev IsWithin : ℕ → Doc → Type 0
IsWithin m d = depth (write d) ≤ m

items_within : (m : ℕ) (ds : Docs) → AllByRecursion (IsWithin m) (list_in ds) → items_depth (write_items ds) ≤ m
unfolding write_items
items_within m no_docs h = omega arith
items_within m (doc d ds) h = omega (arith, h.0, items_within m ds h.1)

within_items : (m : ℕ) (ds : Docs) → items_depth (write_items ds) ≤ m → AllByRecursion (IsWithin m) (list_in ds)
unfolding write_items
within_items m no_docs h = tt
within_items m (doc d ds) h = (omega (arith, h), within_items m ds (omega (arith, h)))

entries_within : (m : ℕ) (es : Entries) → AllByRecursion (λ e. IsWithin m e.1) (pairs_in es) → members_depth (write_entries es) ≤ m
unfolding write_entries
entries_within m no_entries h = omega arith
entries_within m (entry k d es) h = omega (arith, h.0, entries_within m es h.1)

within_entries : (m : ℕ) (es : Entries) → members_depth (write_entries es) ≤ m → AllByRecursion (λ e. IsWithin m e.1) (pairs_in es)
unfolding write_entries
within_entries m no_entries h = tt
within_entries m (entry k d es) h = (omega (arith, h), within_entries m es (omega (arith, h)))

members_within : (m : ℕ) (ms : Members) → AllByRecursion (λ e. depth e.1 ≤ m) (member_pairs ms) → members_depth ms ≤ m
members_within m no_members h = omega arith
members_within m (member k t ms) h = omega (arith, h.0, members_within m ms h.1)

within_members : (m : ℕ) (ms : Members) → members_depth ms ≤ m → AllByRecursion (λ e. depth e.1 ≤ m) (member_pairs ms)
within_members m no_members h = tt
within_members m (member k t ms) h = (omega (arith, h), within_members m ms (omega (arith, h)))

-- the members of an object's rows
rows_within : (m : ℕ) (ds : Docs) (rs : List Row) (ms : Members) → AllByRecursion (IsWithin m) (list_in ds) → members_depth ms ≤ m → members_depth (write_rows ds rs ms) ≤ m
unfolding write_rows
rows_within m no_docs rs ms g h = h
rows_within m (doc d ds) [] ms g h = h
rows_within m (doc d ds) (r ∷ rs) ms g h = rows_within m ds rs _ g.1 (put_unless_depth (left_out r.mark d) r.name (write d) ms m (inr g.0) h)

-- ---- what stands among members is no deeper than they

member_within : (q : List ℕ) (ms : Members) (t : Data) → get_member q ms ≡ Some t → depth t ≤ members_depth ms
member_within q ms t is =
    of_found (get_member q ms) is (member_of_all (λ n x. depth x ≤ members_depth ms) ms q (within_members (members_depth ms) ms (omega arith)))
  where
    of_found : (o : Option Data) → o ≡ Some t → IfSome o (λ x. depth x ≤ members_depth ms) → depth t ≤ members_depth ms
    of_found None e h = cc
    of_found (Some x) e h = subst (λ y. depth y ≤ members_depth ms) (of_some x t e) h

-- what is left out is an empty list or map, or less
left_out_within : (m : Mark) (d : Doc) → left_out m d ≡ true → depth (write d) ≤ 1
unfolding write write_items write_entries put_written
left_out_within required d h = absurd (true≢false (sym h))
left_out_within optional none_doc h = omega arith
left_out_within optional d h = absurd (true≢false (sym h))
left_out_within or_null d h = absurd (true≢false (sym h))
left_out_within defaulted (text_doc s) h = omega arith
left_out_within defaulted (flag_doc b) h = omega arith
left_out_within defaulted any_value_doc h = omega arith
left_out_within defaulted (list_doc no_docs) h = omega arith
left_out_within defaulted (list_doc (doc d ds)) h = absurd (true≢false (sym h))
left_out_within defaulted (map_doc no_entries) h = omega arith
left_out_within defaulted (map_doc (entry k d es)) h = absurd (true≢false (sym h))
left_out_within defaulted (ordered_map_doc no_entries) h = omega arith
left_out_within defaulted (ordered_map_doc (entry k d es)) h = absurd (true≢false (sym h))
left_out_within defaulted d h = absurd (true≢false (sym h))

-- a row's field, by whether it is left out
field_within : (m : ℕ) (b : Bool) (d : Doc) (ms : Members) (q : List ℕ) → 1 ≤ m → (b ≡ true → depth (write d) ≤ 1) → get_member q ms ≡ stands b (write d) → members_depth ms ≤ m → IsWithin m d
field_within m true d ms q one out is h = omega (arith, one, out refl)
field_within m false d ms q one out is h = omega (arith, h, member_within q ms (write d) is)

-- the fields of the rows
fields_within : (m : ℕ) (ds : Docs) (rs : List Row) (ms : Members) → 1 ≤ m → are_apart rs ≡ true → Lacks rs ms → members_depth (write_rows ds rs ms) ≤ m → AllFields (IsWithin m) rs ds
unfolding write write_rows
fields_within m ds [] ms one apart lacks h = tt
fields_within m no_docs (r ∷ rs) ms one apart lacks h = (omega arith, fields_within m no_docs rs ms one (others_apart r rs apart) lacks.1 h)
fields_within m (doc d ds) (r ∷ rs) ms one apart lacks h =
    let once : is_row r.name rs ≡ false = first_once r rs apart in (
      field_within m (left_out r.mark d) d _ r.name one (left_out_within r.mark d) (write_rows-same r d ds rs ms once lacks.0) h,
      fields_within m ds rs _ one (others_apart r rs apart) (lacks_put rs r d (write d) ms once lacks.1) h,
    )

-- members that are all extensions
kept : (b : Bool) (k : List ℕ) (t : Data) (ms ns : Members) → b ≡ true → ns ≡ ms → cond b (member k t ns) ns ≡ member k t ms
kept true k t ms ns h is = ap (member k t) is
kept false k t ms ns h is = absurd (true≢false (sym h))

all_kept : (ms : Members) → all_extensions ms ≡ true → extension_members ms ≡ ms
all_kept no_members h = refl
all_kept (member k t ms) h = kept (is_extension k) k t ms (extension_members ms) (and_first _ _ h) (all_kept ms (and_second _ _ h))

-- extensions, among the members of an object's rows
beside_rows : (m : ℕ) (n : ObjectType) (ds : Docs) (e : Option Members) → AllExtensions e → members_depth (write_rows ds (table n) (members_or_none e)) ≤ m → members_depth (members_or_none e) ≤ m
beside_rows m n ds e h within =
    subst (λ ms. members_depth ms ≤ m) (write_rows-extension ds (table n) (members_or_none e) (table_apart n) ∙ all_kept (members_or_none e) h)
    (extension_members_depth m _ within)

-- and among entries whose names read as none
beside_entries : (m : ℕ) (es : Entries) (e : Option Members) → names_no_extension es ≡ true → AllExtensions e → members_depth (merge_members (write_entries es) (members_or_none e)) ≤ m
    → members_depth (members_or_none e) ≤ m
beside_entries m es e named h within =
    subst (λ ms. members_depth ms ≤ m) (merge-extensions es (members_or_none e) named h) (extension_members_depth m _ within)

-- a member, among those of another, and what comes after it
first_below : (k : List ℕ) (d : Data) (rest : Members → Members) (least : ℕ) → ((ms : Members) → least ≤ members_depth (rest ms)) → (ms : Members)
    → (depth d ≤ members_depth (merge_member k d rest ms)) × (least ≤ members_depth (merge_member k d rest ms))
first_below k d rest least h no_members = (omega arith, omega (arith, h no_members))
first_below k d rest least h (member l e ms) =
    let later = first_below k d rest least h ms in
    by_order (λ ns. (depth d ≤ members_depth ns) × (least ≤ members_depth ns)) (slice_cmp nat_cmp k l) (member k d (rest (member l e ms))) (member k d (rest ms)) (member l e (merge_member k d rest ms))
    (omega arith, omega (arith, h (member l e ms))) (omega arith, omega (arith, h ms)) (omega (arith, later.0), omega (arith, later.1))

-- members, among those of another
members_below : (es ms : Members) → members_depth es ≤ members_depth (merge_members es ms)
members_below no_members ms = omega arith
members_below (member k d es) ms =
    let both = first_below k d (merge_members es) (members_depth es) (members_below es) ms in
    omega (arith, both.0, both.1)

-- ---- the property

-- what is asked of a document at this level, where documents are written at most n deep
abbrev IsShallow : ℕ → ℕ → Doc → Type 0
IsShallow n k d = IsUnambiguous d × (depth (write d) ≤ n - k)

shallow : (n : ℕ) → 5 ≤ n → Property
unfolding write IsUnambiguous unambiguous
shallow n five = record {
  Has = IsShallow n;
  Stands = KeyOf;
  Names = IsNoExtension;
  Extends = λ k e. AllExtensions e × (members_depth (members_or_none e) ≤ n - suc k);
  Extension = λ k name t. (is_extension name ≡ true) × (depth t ≤ n - suc k);
  none = λ k l. (tt, omega (arith, five, l));
  some = λ k d written h. h;
  in_some = λ k d h. h;
  list = λ k ds l h. (unambiguous.list k ds l (all_then (λ d g. g.0) (list_in ds) h), above k l (items_within (n - suc k) ds (all_then (λ d g. g.1) (list_in ds) h)));
  in_list = λ k ds l h. all_both IsUnambiguous (IsWithin (n - suc k)) (list_in ds) (unambiguous.in_list k ds l h.0) (within_items (n - suc k) ds (below k l h.1));
  map =
      λ k es l h. (unambiguous.map k es l (all_then (λ e g. (g.0.0, g.1)) (pairs_in es) h), above k l (entries_within (n - suc k) es (all_then (λ e g. g.0.1) (pairs_in es) h)));
  in_map = λ k es l h. all_then (λ e g. ((g.0.0, g.1), g.0.1)) (pairs_in es) (all_both (λ e. IsUnambiguous e.1 × KeyOf e.0 e.1) (λ e. IsWithin (n - suc k) e.1) (pairs_in es) (unambiguous.in_map k es l h.0) (within_entries (n - suc k) es (below k l h.1)));
  object =
      λ k es e l h g. (
        unambiguous.object k es e l (all_then (λ x i. (i.0.0, i.1, i.2)) (pairs_in es) h) g.0,
        above k l (merge_members_depth (write_entries es) (members_or_none e) (n - suc k) (entries_within (n - suc k) es (all_then (λ x i. i.0.1) (pairs_in es) h)) g.1),
      );
  in_object =
      λ k es e l h. all_then (λ x i. ((i.0.0, i.1), i.0.1, i.0.2)) (pairs_in es)
      (all_both (λ e. IsUnambiguous e.1 × KeyOf e.0 e.1 × IsNoExtension e.0) (λ e. IsWithin (n - suc k) e.1) (pairs_in es) (unambiguous.in_object k es e l h.0) (within_entries (n - suc k) es (lesser (members_below (write_entries es) (members_or_none e)) (below k l h.1))));
  beside_object = λ k es e l h. (h.0.2, beside_entries (n - suc k) es e h.0.1 h.0.2 (below k l h.1));
  table =
      λ k t ds e l h g. (unambiguous.table k t ds e l (all_then (λ d i. i.0) (list_in ds) h) g.0, above k l (rows_within (n - suc k) ds (table t) (members_or_none e) (all_then (λ d i. i.1) (list_in ds) h) g.1));
  in_table =
      λ k t ds e l h. fields_both IsUnambiguous (IsWithin (n - suc k)) (table t) ds (unambiguous.in_table k t ds e l h.0)
      (fields_within (n - suc k) ds (table t) (members_or_none e) (omega (arith, five, l)) (table_apart t) (lacks_extensions (table t) (members_or_none e) (table_apart t) h.0.1) (below k l h.1));
  beside_table = λ k t ds e l h. (h.0.1, beside_rows (n - suc k) t ds e h.0.1 (below k l h.1));
  stands = unambiguous.stands;
  no_extensions = λ k l. (refl, omega arith);
  extends = λ k name t ms h. (unambiguous.extends k name t ms (all_then {P = IsKept k} (λ e g. g.0) (member_pairs (member name t ms)) h), members_within (n - suc k) (member name t ms) (all_then {P = IsKept k} (λ e g. g.1) (member_pairs (member name t ms)) h));
  extension =
      λ k e h name. both_of (λ t. is_extension name ≡ true) (λ t. depth t ≤ n - suc k) (get_member name (members_or_none e)) (unambiguous.extension k e h.0 name) (member_of_all (λ q t. depth t ≤ n - suc k) (members_or_none e) name (within_members (n - suc k) (members_or_none e) h.1));
}
  where
    IsKept : ℕ → List ℕ × Data → Type 0
    IsKept k e = (is_extension e.0 ≡ true) × (depth e.1 ≤ n - suc k)

    above : {x : ℕ} (k : ℕ) → IsLevel k → x ≤ n - suc k → suc x ≤ n - k
    above k l h = omega (arith, five, l, h)

    below : {x : ℕ} (k : ℕ) → IsLevel k → suc x ≤ n - k → x ≤ n - suc k
    below k l h = omega (arith, five, l, h)

    lesser : {x y z : ℕ} → x ≤ y → y ≤ z → x ≤ z
    lesser g h = omega (arith, g, h)

    both_of : (P Q : Data → Type 0) (o : Option Data) → IfSome o P → IfSome o Q → IfSome o (λ t. P t × Q t)
    both_of P Q None g h = tt
    both_of P Q (Some t) g h = (g, h)

-- ---- merging and nesting

shallow_named : (n : ℕ) (five : 5 ≤ n) (d : Doc) → IsOpenApi d → IsUnambiguous d → PathsNamed (shallow n five) d
unfolding shallow unambiguous
shallow_named n five d h u = paths_named d h u

-- what unambiguous documents are merged into is written no deeper than they are
pub merged_shallow : (n : ℕ) → 5 ≤ n → (documents : List Doc) (d : Doc) → IsMerged documents d → All IsOpenApi documents → All IsUnambiguous documents → All (IsWithin n) documents → IsInKeyOrder d
    → depth (write d) ≤ n
unfolding shallow
merged_shallow n five documents d m k h w s =
    let has = merged_has (shallow n five) documents d m (each documents (recursion_from_All IsOpenApi documents k) (recursion_from_All IsUnambiguous documents h) (recursion_from_All (IsWithin n) documents w)) s in
    omega (arith, has.1)
  where
    each : (ds : List Doc) → AllByRecursion IsOpenApi ds → AllByRecursion IsUnambiguous ds → AllByRecursion (IsWithin n) ds → AllByRecursion (λ x. IsShallow n 0 x × PathsNamed (shallow n five) x) ds
    each [] k h w = tt
    each (x ∷ xs) k h w = (((h.0, omega (arith, w.0)), shallow_named n five x k.0 h.0), each xs k.1 h.1 w.1)

-- what an unambiguous document is with one nested into it is written no deeper than they are, where no answer reads as an extension's name
pub nested_shallow : (n : ℕ) → 5 ≤ n → (answers : List (List ℕ)) (own nested d : Doc) → IsOpenApi own → IsOpenApi nested → IsNested answers own nested d → IsUnambiguous own → IsUnambiguous nested
    → AllByRecursion IsNoExtension answers → IsWithin n own → IsWithin n nested → IsInKeyOrder d → depth (write d) ≤ n
unfolding shallow
nested_shallow n five answers own nested d h g m u v a w x s =
    let has = nested_has (shallow n five) answers own nested d h g m (u, omega (arith, w)) (shallow_named n five own h u) (v, omega (arith, x)) (shallow_named n five nested g v) a s in
    omega (arith, has.1)
