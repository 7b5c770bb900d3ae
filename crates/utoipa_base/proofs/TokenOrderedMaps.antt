-- A map that keeps its order, made of a map that was read from tokens.
use Rattle.std.proofs.Common.{◌≡◌, ◌∙◌, ℕ, List, [], ◌∷◌, ◌++◌, Option, Some, None, option_map, option_and_then, refl, sym, ap, subst, append_assoc, append-nil, String, Global, BTreeMap, string_bytes, string_cmp, string_eq, Less}
use Rattle.std.specs.BTreeMap.{IsOrdered}
use Rattle.std.specs.List.{AllByRecursion}
use Rattle.std.specs.List.Sorted.{IsStrictlySortedBy}
use Rattle.std.specs.Map.{keys_of}
use Rattle.indexmap.specs.IndexMap.{IndexMap, insert_entry}
use Rattle.json.specs.Token.{Token}
use Rattle.serde_json.specs.Data.{Data, Members}
use Rattle.serde_json.specs.Find.{as_object}
use Rattle.utoipa_base.specs.Docs.{Doc, map_doc, ordered_map_doc, Entries, entries_of_list}
use Rattle.utoipa_base.specs.FromTokens.{FromTokens}
use Rattle.utoipa_base.specs.Kinds.{Kind, map_of, ordered_map_of}
use Rattle.utoipa_base.specs.Reading.{read}
use Rattle.utoipa_base.specs.Values.{schema_count}
use Rattle.utoipa_base.specs.Views.{pairs_of, map_of_docs, ordered_map_of_docs}
use Rattle.utoipa_base.proofs.ByName.{IsBelow, Ascends, by_name-stays}
use Rattle.utoipa_base.proofs.Maps.{members_read, read-map}
use Rattle.utoipa_base.proofs.OrderedMaps.{in_that_order, read-ordered_map, schema_count-ordered_map, insert_new, names_before}
use Rattle.utoipa_base.proofs.Places.{schema_count-map}
use Rattle.utoipa_base.proofs.TokenTables.{as_field}

-- ---- reading

ordered_entries : (es : Entries) (o : Option Entries) → option_map map_doc o ≡ Some (map_doc es) → option_map in_that_order o ≡ Some (in_that_order es)
ordered_entries es None h = absurd (cc)
ordered_entries es (Some fs) h = let same : fs ≡ es = cc in ap (λ r. Some (in_that_order r)) same

ordered_object : (k : Kind) (es : Entries) (o : Option Members) → option_and_then (λ ms. option_map map_doc (members_read k ms)) o ≡ Some (map_doc es) → option_and_then (λ ms. option_map in_that_order (members_read k ms)) o ≡ Some (in_that_order es)
ordered_object k es None h = absurd (cc)
ordered_object k es (Some ms) h = ordered_entries es (members_read k ms) h

-- what is read as a map is read as one that keeps its order
ordered_read : (k : Kind) (d : Data) (es : Entries) → read (map_of k) d ≡ Some (map_doc es) → read (ordered_map_of k) d ≡ Some (in_that_order es)
ordered_read k d es h = read-ordered_map k d ∙ ordered_object k es (as_object d) (sym (read-map k d) ∙ h)

-- names before which one comes
below_names : {T : Type 0} (f : T → Doc) (x : String Global) (es : List (String Global × T)) → AllByRecursion (λ y. string_cmp x y ≡ Less) (keys_of es) → IsBelow (string_bytes x) (entries_of_list (pairs_of f es))
below_names f x [] h = tt
below_names f x (e ∷ es) h = (h.0, below_names f x es h.1)

-- entries under names that ascend
ascend : {T : Type 0} (f : T → Doc) (es : List (String Global × T)) → IsStrictlySortedBy string_cmp (keys_of es) → Ascends (entries_of_list (pairs_of f es))
unfolding IsStrictlySortedBy
ascend f [] h = tt
ascend f (e ∷ es) h = (below_names f e.0 es h.0, ascend f es h.1)

-- the same entries in a map that keeps its order
pub ordered_from_tokens : {T S : Type 0} (k : Kind) (f : T → Doc) (m : BTreeMap (String Global) T) (o : IndexMap (String Global) T S) (depth : ℕ) (old new : List Token) (start now : ℕ) → IsOrdered string_cmp m → o.entries ≡ m.entries
    → FromTokens {A = BTreeMap (String Global) T} (read (map_of k)) (map_of_docs f) m depth old new start now → FromTokens {A = IndexMap (String Global) T S} (read (ordered_map_of k)) (ordered_map_of_docs f) o depth old new start now
ordered_from_tokens k f m o depth old new start now ordered same one =
    let es = entries_of_list (pairs_of f m.entries) in
    let is : in_that_order es ≡ ordered_map_of_docs f o = ap ordered_map_doc (by_name-stays es (ascend f m.entries ordered)) ∙ ap (λ r. ordered_map_doc (entries_of_list (pairs_of f r))) (sym same) in
    let count = ap (λ r. entries_of_list (pairs_of f r)) same in
    as_field (read (map_of k)) (read (ordered_map_of k)) (map_of_docs f) (ordered_map_of_docs f) m o depth old new start now
    (schema_count-ordered_map (entries_of_list (pairs_of f o.entries)) ∙ sym (schema_count-map (entries_of_list (pairs_of f o.entries))) ∙ ap (λ r. schema_count (map_doc r)) count)
    one (ordered_read k one.tree es one.reads.ok ∙ ap Some is)

-- ---- the loop that moves the entries

-- the entries before `left` have been moved
pub record Moved {T : Type 0} (all left es : List (String Global × T)) : Type 0 where
  pub split : all ≡ es ++ left

pub moved_none : {T : Type 0} (all es : List (String Global × T)) → es ≡ [] → Moved all all es
moved_none all es none = record { split = ap (λ r. r ++ all) (sym none) }

pub moved_one : {T : Type 0} (all left es fs : List (String Global × T)) (e : String Global × T) (more : List (String Global × T)) → Moved all left es → left ≡ e ∷ more → IsStrictlySortedBy string_cmp (keys_of all) → fs ≡ insert_entry string_eq es e.0 e.1 → Moved all more fs
moved_one all left es fs e more so_far rest sorted is =
    let whole : all ≡ es ++ e ∷ more = so_far.split ∙ ap (λ r. es ++ r) rest in
    let last : fs ≡ es ++ e ∷ [] = is ∙ insert_new es e.0 e.1 (names_before es es e more e.0 refl (subst (λ r. IsStrictlySortedBy string_cmp (keys_of r)) whole sorted) refl) in
    record { split = whole ∙ sym (append_assoc es (e ∷ []) more) ∙ ap (λ r. r ++ more) (sym last) }

pub moved_all : {T : Type 0} (all left es : List (String Global × T)) → Moved all left es → left ≡ [] → es ≡ all
moved_all all left es so_far none = sym (so_far.split ∙ ap (λ r. es ++ r) none ∙ append-nil es)
