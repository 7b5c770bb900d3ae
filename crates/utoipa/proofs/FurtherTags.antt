-- Operations that get further tags, and what holds such operations.
use Rattle.std.proofs.Common.{◌≡◌, ◌∙◌, ◌∷◌, ◌++◌, ℕ, List, [], Option, Some, None, map, refl, sym, ap, subst, append_assoc, append-nil, codes, String, Global, string_bytes, string_cmp}
use Rattle.std.specs.Prelude.{Vec}
use Rattle.std.specs.BTreeMap.{insert_entry}
use Rattle.std.specs.List.Sorted.{IsStrictlySortedBy}
use Rattle.std.specs.Map.{keys_of}
use Rattle.std.proofs.lemmas.List.{map-append}
use Rattle.utoipa_base.specs.Docs.{Doc, text_doc, some_doc, list_doc, docs_of, entry, entries_of_list}
use Rattle.utoipa_base.specs.Fill.{Pairs}
use Rattle.utoipa_base.specs.Kinds.{operation_object}
use Rattle.utoipa_base.specs.Views.{text_of, option_of, list_of_docs, pairs_of}
use Rattle.utoipa_base.proofs.Maps.{texts, insert_last}
use Rattle.utoipa_base.proofs.TableParts.{same_field, same_table}
use Rattle.utoipa_leaf.specs.declared.path.HttpMethod.{HttpMethod}
use Rattle.utoipa_leaf.specs.declared.path.HttpMethod.TheVariants.{Get, Post, Put, Delete, Options, Head, Patch, Trace}
use Rattle.utoipa_merging.specs.Slots.{in_field}
use Rattle.utoipa_merging.proofs.MapViews.{items_in-list}
use Rattle.utoipa_path.specs.Builders.{PathItemFields}
use Rattle.utoipa_path.specs.Docs.{operation_layer, operation_doc, path_item_doc}
use Rattle.utoipa_path.specs.Folds.{operation_is}
use Rattle.utoipa_path.specs.Lists.{items_if_any}
use Rattle.utoipa_path.specs.Methods.{with_method}
use Rattle.utoipa_path.specs.declared.types.Operation.{Operation, out-Operation}
use Rattle.utoipa_path.specs.declared.types.PathItem.{PathItem}
use Rattle.utoipa.specs.Tags.{text_in, texts_in, texts_doc, change_entries}

-- ---- lists of texts

texts_back : (xs : List (String Global)) → map text_in (map text_of xs) ≡ map string_bytes xs
texts_back [] = refl
texts_back (x ∷ xs) = ap (λ ts. string_bytes x ∷ ts) (texts_back xs)

as_texts : (xs : List (String Global)) → map text_of xs ≡ map text_doc (map string_bytes xs)
as_texts [] = refl
as_texts (x ∷ xs) = ap (λ ds. text_of x ∷ ds) (as_texts xs)

-- the texts of a list that may be absent
pub texts_of_list : (list : Option (Vec (String Global) Global)) → texts_in (option_of (list_of_docs text_of) list) ≡ map string_bytes (items_if_any list)
texts_of_list None = refl
texts_of_list (Some v) = ap (map text_in) (items_in-list text_of v) ∙ texts_back v.items

-- a list that is there, by its texts
pub list_of_texts : (v : Vec (String Global) Global) (ts : List (List ℕ)) → map string_bytes v.items ≡ ts → option_of (list_of_docs text_of) (Some v) ≡ texts_doc ts
list_of_texts v ts is = ap (λ ds. some_doc (list_doc (docs_of ds))) (as_texts v.items ∙ ap (map text_doc) is)

-- ---- operations

-- an operation that has other tags
pub tags_changed : (change : Doc → Doc) (o new : Operation) (list : Vec (String Global) Global) → out-Operation new ≡ record (out-Operation o) { tags = Some list }
    → option_of (list_of_docs text_of) (Some list) ≡ change (option_of (list_of_docs text_of) (out-Operation o).tags) → operation_doc new ≡ in_field (codes "tags") change (operation_doc o)
tags_changed change o new list is changed =
    operation_is new ∙ ap (operation_layer path_item_doc) is
    ∙ same_table operation_object _ _ _ _
    (same_field _ _ _ _ refl
    (same_field _ _ _ _ refl
    (same_field _ _ _ _ refl
    (same_field _ _ _ _ refl
    (same_field _ _ _ _ refl
    (same_field _ _ _ _ refl
    (same_field _ _ _ _ refl
    (same_field _ _ _ _ refl
    (same_field _ _ _ _ refl
    (same_field _ _ _ _ refl
    (same_field _ _ _ _ refl
    (same_field _ _ _ _ changed refl)))))))))))) refl
    ∙ sym (ap (in_field (codes "tags") change) (operation_is o))

-- ---- operations by their methods

-- an operation that is set once more
pub set_again : (m : HttpMethod) (o p : Option Operation) (i : PathItemFields) → with_method m o (with_method m p i) ≡ with_method m o i
set_again Get o p i = refl
set_again Post o p i = refl
set_again Put o p i = refl
set_again Delete o p i = refl
set_again Options o p i = refl
set_again Head o p i = refl
set_again Patch o p i = refl
set_again Trace o p i = refl

-- ---- path items under their paths

-- each entry's document changed
abbrev pub changed_pairs : (Doc → Doc) → List (List ℕ × Doc) → List (List ℕ × Doc)
changed_pairs change = map (λ p. (p.0, change p.1))

-- the entries before `left` have been put with changed documents
pub record ItemsChanged (change : Doc → Doc) (all left es : Pairs PathItem) : Type 0 where
  pub done : Pairs PathItem
  pub split : all ≡ done ++ left
  pub names : texts es ≡ texts done
  pub docs : pairs_of path_item_doc es ≡ changed_pairs change (pairs_of path_item_doc done)

pub none_changed : (change : Doc → Doc) (all left es : Pairs PathItem) → left ≡ all → es ≡ [] → ItemsChanged change all left es
none_changed change all left es whole none = record { done = []; split = sym whole; names = ap texts none; docs = ap (pairs_of path_item_doc) none }

pub one_changed : (change : Doc → Doc) (all left es fs : Pairs PathItem) (e : String Global × PathItem) (more : Pairs PathItem) (item : PathItem) → ItemsChanged change all left es → left ≡ e ∷ more
    → IsStrictlySortedBy string_cmp (keys_of all) → path_item_doc item ≡ change (path_item_doc e.1) → fs ≡ insert_entry string_cmp es e.0 item → ItemsChanged change all more fs
one_changed change all left es fs e more item so_far rest ordered changed is =
    let whole : all ≡ so_far.done ++ e ∷ more = so_far.split ∙ ap (λ r. so_far.done ++ r) rest in
    let sorted = subst (λ r. IsStrictlySortedBy string_cmp (keys_of r)) whole ordered in
    let last : fs ≡ es ++ (e.0, item) ∷ [] = is ∙ insert_last es so_far.done e more e.0 item so_far.names sorted refl in
    let name : List ℕ = string_bytes e.0 in
    record {
      done = so_far.done ++ e ∷ [];
      split = whole ∙ sym (append_assoc so_far.done (e ∷ []) more);
      names = ap texts last ∙ map-append _ es _ ∙ ap (λ ts. ts ++ name ∷ []) so_far.names ∙ sym (map-append _ so_far.done (e ∷ []));
      docs =
          ap (pairs_of path_item_doc) last ∙ map-append _ es _ ∙ ap (λ ps. ps ++ (name, path_item_doc item) ∷ []) so_far.docs
          ∙ ap (λ d. changed_pairs change (pairs_of path_item_doc so_far.done) ++ (name, d) ∷ []) changed
          ∙ sym (map-append _ (pairs_of path_item_doc so_far.done) ((name, path_item_doc e.1) ∷ []))
          ∙ ap (changed_pairs change) (sym (map-append _ so_far.done (e ∷ [])));
    }

entries_changed : (change : Doc → Doc) (ps : List (List ℕ × Doc)) → entries_of_list (changed_pairs change ps) ≡ change_entries change (entries_of_list ps)
entries_changed change [] = refl
entries_changed change (p ∷ ps) = ap (entry p.0 (change p.1)) (entries_changed change ps)

pub all_changed : (change : Doc → Doc) (all left es : Pairs PathItem) → ItemsChanged change all left es → left ≡ []
    → entries_of_list (pairs_of path_item_doc es) ≡ change_entries change (entries_of_list (pairs_of path_item_doc all))
all_changed change all left es so_far none =
    let whole : so_far.done ≡ all = sym (so_far.split ∙ ap (λ r. so_far.done ++ r) none ∙ append-nil so_far.done) in
    ap entries_of_list (so_far.docs ∙ ap (λ r. changed_pairs change (pairs_of path_item_doc r)) whole) ∙ entries_changed change (pairs_of path_item_doc all)
