-- What each kind reads a tree as, and how it is written.
use Rattle.std.proofs.Common.{◌≡◌, ℕ, List, [], ◌∷◌, ◌++◌, Bool, Option, Some, None, option_map, option_and_then, map, refl, sym, ap, ◌∙◌, suc, ◌+◌, ◌<◌, length, get_or, drop, drop-cons, add-one}
use Rattle.serde_json.specs.Data.{unsigned, Data, null, boolean, number, string, array, object, Items, item}
use Rattle.serde_json.specs.Find.{as_str, as_bool, as_number, as_array, as_u64}
use Rattle.serde_json.specs.View.{view, items_of, items_view}
use Rattle.serde_json.specs.declared.value.Value.{Value, the_lemmas}
use Rattle.utoipa_base.specs.Kinds.{Kind, text, flag, whole, any, list_of}
use Rattle.utoipa_base.specs.Docs.{Doc, text_doc, flag_doc, whole_doc, tree_doc, list_doc, Docs, no_docs, docs_of}
use Rattle.utoipa_base.specs.Reading.{reader, item_readers, read, read_items, both}
use Rattle.utoipa_base.specs.Writing.{write, write_items}

pub read-text : (d : Data) → read text d ≡ option_map text_doc (as_str d)
unfolding reader
read-text null = refl
read-text (boolean b) = refl
read-text (number n) = refl
read-text (string s) = refl
read-text (array ds) = refl
read-text (object ms) = refl

pub read-flag : (d : Data) → read flag d ≡ option_map flag_doc (as_bool d)
unfolding reader
read-flag null = refl
read-flag (boolean b) = refl
read-flag (number n) = refl
read-flag (string s) = refl
read-flag (array ds) = refl
read-flag (object ms) = refl

pub read-whole : (d : Data) → read whole d ≡ option_map whole_doc (option_and_then as_u64 (as_number d))
unfolding reader
read-whole null = refl
read-whole (boolean b) = refl
read-whole (number n) = refl
read-whole (string s) = refl
read-whole (array ds) = refl
read-whole (object ms) = refl

pub read-any : (d : Data) → read any d ≡ Some (tree_doc d)
unfolding reader
read-any null = refl
read-any (boolean b) = refl
read-any (number n) = refl
read-any (string s) = refl
read-any (array ds) = refl
read-any (object ms) = refl

-- the items of an array, read in turn
abbrev pub items_read : Kind → Items → Option Docs
items_read k ds = read_items k (item_readers ds)

pub read-list : (k : Kind) (d : Data) → read (list_of k) d ≡ option_and_then (λ ds. option_map list_doc (items_read k ds)) (as_array d)
unfolding reader
read-list k null = refl
read-list k (boolean b) = refl
read-list k (number n) = refl
read-list k (string s) = refl
read-list k (array ds) = refl
read-list k (object ms) = refl

pub write-text : (s : List ℕ) → write (text_doc s) ≡ string s
unfolding write
write-text s = refl

pub write-flag : (b : Bool) → write (flag_doc b) ≡ boolean b
unfolding write
write-flag b = refl

pub write-whole : (n : ℕ) → write (whole_doc n) ≡ number (unsigned n)
unfolding write
write-whole n = refl

pub write-any : (d : Data) → write (tree_doc d) ≡ d
unfolding write
write-any d = refl

pub ruleset by_kind = (read-text, read-flag, read-whole, read-any, write-text, write-flag, write-whole, write-any, the_lemmas)

-- ---- the items of a list

-- documents before those that are still to come
abbrev pub prepend : List Doc → Option Docs → Option Docs
prepend [] o = o
prepend (d ∷ ds) o = both (Some d) (prepend ds o)

pub prepend-none : (ds : List Doc) → prepend ds None ≡ None
prepend-none [] = refl
prepend-none (d ∷ ds) = rw (prepend-none ds)

pub prepend-some : (ds : List Doc) → prepend ds (Some no_docs) ≡ Some (docs_of ds)
prepend-some [] = refl
prepend-some (d ∷ ds) = rw (prepend-some ds)

pub prepend-append : (ds : List Doc) (d : Doc) (o : Option Docs) → prepend (ds ++ d ∷ []) o ≡ prepend ds (both (Some d) o)
prepend-append [] d o = refl
prepend-append (e ∷ ds) d o = rw (prepend-append ds d o)

-- the items of an array, as values
abbrev pub values_read : Kind → List Value → Option Docs
values_read k vs = items_read k (items_view vs)

pub values_read-nil : (k : Kind) → values_read k [] ≡ Some no_docs
unfolding item_readers
values_read-nil k = refl

pub values_read-cons : (k : Kind) (v : Value) (vs : List Value) → values_read k (v ∷ vs) ≡ both (read k (view v)) (values_read k vs)
unfolding item_readers
values_read-cons k v vs = refl

-- after an item was read
pub values_read-step : (k : Kind) (v : Value) (vs : List Value) (ds : List Doc) (d : Doc) (o : Option Docs) → o ≡ prepend ds (values_read k (v ∷ vs)) → read k (view v) ≡ Some d
    → o ≡ prepend (ds ++ d ∷ []) (values_read k vs)
values_read-step k v vs ds d o before is = before ∙ ap (prepend ds) (values_read-cons k v vs ∙ ap (λ r. both r (values_read k vs)) is) ∙ sym (prepend-append ds d (values_read k vs))

-- after an item was refused
pub values_read-stop : (k : Kind) (v : Value) (vs : List Value) (ds : List Doc) (o : Option Docs) → o ≡ prepend ds (values_read k (v ∷ vs)) → read k (view v) ≡ None → o ≡ None
values_read-stop k v vs ds o before is = before ∙ ap (prepend ds) (values_read-cons k v vs ∙ ap (λ r. both r (values_read k vs)) is) ∙ prepend-none ds

pub values_read-end : (k : Kind) (ds : List Doc) (o : Option Docs) → o ≡ prepend ds (values_read k []) → o ≡ Some (docs_of ds)
values_read-end k ds o before = before ∙ ap (prepend ds) (values_read-nil k) ∙ prepend-some ds

-- a list's items, as they are written
pub write_items-docs_of : {A : Type 0} (f : A → Doc) (xs : List A) → write_items (docs_of (map f xs)) ≡ items_of (map (λ x. write (f x)) xs)
unfolding write_items
write_items-docs_of f [] = refl
write_items-docs_of f (x ∷ xs) = ap (item (write (f x))) (write_items-docs_of f xs)

pub write-list : (ds : Docs) → write (list_doc ds) ≡ array (write_items ds)
unfolding write
write-list ds = refl

pub ruleset by_lists = (read-list, write-list, the_lemmas)

pub drop_item : {A : Type 0} (xs : List A) (i : ℕ) (x : A) → i < length xs → x ≡ get_or xs i x → drop i xs ≡ x ∷ drop (i + 1) xs
drop_item xs i x within is = rw add-one (drop-cons xs i x within ∙ ap (λ y. y ∷ drop (suc i) xs) (sym is))

-- a tree that is an array, with its items read
pub list_by_items : (k : Kind) (d : Data) (vs : List Value) (o : Option Docs) → Some (items_view vs) ≡ as_array d → values_read k vs ≡ o → read (list_of k) d ≡ option_map list_doc o
list_by_items k d vs o is read_as = read-list k d ∙ ap (option_and_then (λ ds. option_map list_doc (items_read k ds))) (sym is) ∙ ap (option_map list_doc) read_as
