-- Whether documents are unambiguous, part by part.
use Rattle.std.proofs.Common.{◌≡◌, ◌<◌, ◌+◌, ℕ, List, [], ◌∷◌, length, drop, get_or, map, Bool, true, false, ◌&&◌, Option, None, Some, refl, ap, ◌∙◌, String, Global, string_bytes, Vec}
use Rattle.std.specs.BTreeMap.{BTreeMap}
use Rattle.serde_json.specs.Data.{Data, Members}
use Rattle.serde_json.specs.declared.value.Value.{Value}
use Rattle.utoipa_base.specs.Docs.{Doc, text_doc, flag_doc, whole_doc, int_doc, uint_doc, tree_doc, word_doc, custom_doc, types_doc, any_value_doc, none_doc, some_doc, ref_doc, own_doc, schema_doc, tagged_doc, flow_doc, list_doc, map_doc, ordered_map_doc, entries_doc, table_doc, Docs, no_docs, doc, docs_of, Entries, no_entries, entry, entries_of_list}
use Rattle.utoipa_base.specs.Flags.{deprecated_doc, required_doc}
use Rattle.utoipa_base.specs.Kinds.{ObjectType, Kind}
use Rattle.utoipa_base.specs.Numbers.{number_doc}
use Rattle.utoipa_base.specs.Shape.{value_of, flow_place, IsOf}
use Rattle.utoipa_base.specs.Views.{text_of, tree_of, option_of, list_of_docs, map_of_docs, pairs_of}
use Rattle.utoipa_base.specs.Writing.{write}
use Rattle.utoipa_base.specs.WellFormed.{names_no_extension}
use Rattle.utoipa_base.specs.declared.number.Number.{Number}
use Rattle.utoipa_base.specs.declared.number.Number.TheVariants.{Int, UInt}
use Rattle.utoipa_base.specs.declared.deprecated.Deprecated.{Deprecated}
use Rattle.utoipa_base.specs.declared.deprecated.Deprecated.TheVariants as deprecation
use Rattle.utoipa_base.specs.declared.required.Required.{Required}
use Rattle.utoipa_base.specs.declared.required.Required.TheVariants as requirement
use Rattle.utoipa_base.proofs.ByKind.{drop_item}
use Rattle.utoipa_base.specs.Unambiguous.{is_unambiguous, are_unambiguous, entries_are_unambiguous, are_extensions, is_no_reference, is_key_of}

-- ---- documents that hold no other

pub unambiguous-text : (s : List ℕ) → is_unambiguous (text_doc s) ≡ true
unfolding is_unambiguous
unambiguous-text s = refl

pub unambiguous-flag : (b : Bool) → is_unambiguous (flag_doc b) ≡ true
unfolding is_unambiguous
unambiguous-flag b = refl

pub unambiguous-whole : (n : ℕ) → is_unambiguous (whole_doc n) ≡ true
unfolding is_unambiguous
unambiguous-whole n = refl

pub unambiguous-tree : (d : Data) → is_unambiguous (tree_doc d) ≡ true
unfolding is_unambiguous
unambiguous-tree d = refl

pub unambiguous-word : (s : List ℕ) → is_unambiguous (word_doc s) ≡ true
unfolding is_unambiguous
unambiguous-word s = refl

pub unambiguous-custom : (s : List ℕ) → is_unambiguous (custom_doc s) ≡ true
unfolding is_unambiguous
unambiguous-custom s = refl

pub unambiguous-any_value : is_unambiguous any_value_doc ≡ true
unfolding is_unambiguous
unambiguous-any_value = refl

pub unambiguous-none : is_unambiguous none_doc ≡ true
unfolding is_unambiguous
unambiguous-none = refl

pub unambiguous-number : (n : Number) → is_unambiguous (number_doc n) ≡ true
unfolding is_unambiguous
unambiguous-number (Int z) = refl
unambiguous-number (UInt n) = refl

pub unambiguous-deprecated : (d : Deprecated) → is_unambiguous (deprecated_doc d) ≡ true
unambiguous-deprecated deprecation.True = unambiguous-flag true
unambiguous-deprecated deprecation.False = unambiguous-flag false

pub unambiguous-required : (r : Required) → is_unambiguous (required_doc r) ≡ true
unambiguous-required requirement.True = unambiguous-flag true
unambiguous-required requirement.False = unambiguous-flag false

-- ---- documents that hold others

pub unambiguous-types : (d : Doc) → is_unambiguous (types_doc d) ≡ is_unambiguous d
unfolding is_unambiguous
unambiguous-types d = refl

pub unambiguous-some : (d : Doc) → is_unambiguous (some_doc d) ≡ is_unambiguous d
unfolding is_unambiguous
unambiguous-some d = refl

pub unambiguous-ref : (k : Kind) (d : Doc) → is_unambiguous (ref_doc k d) ≡ is_unambiguous d
unfolding is_unambiguous
unambiguous-ref k d = refl

pub unambiguous-own : (d : Doc) → is_unambiguous (own_doc d) ≡ (is_unambiguous d && is_no_reference (write d))
unfolding is_unambiguous
unambiguous-own d = refl

pub unambiguous-schema : (d : Doc) → is_unambiguous (schema_doc d) ≡ is_unambiguous d
unfolding is_unambiguous
unambiguous-schema d = refl

pub unambiguous-tagged : (name word : List ℕ) (d : Doc) → is_unambiguous (tagged_doc name word d) ≡ is_unambiguous d
unfolding is_unambiguous
unambiguous-tagged name word d = refl

pub unambiguous-flow : (d : Doc) → is_unambiguous (flow_doc d) ≡ is_unambiguous d
unfolding is_unambiguous
unambiguous-flow d = refl

pub unambiguous-list : (ds : Docs) → is_unambiguous (list_doc ds) ≡ are_unambiguous ds
unfolding is_unambiguous
unambiguous-list ds = refl

pub unambiguous-map : (es : Entries) → is_unambiguous (map_doc es) ≡ entries_are_unambiguous es
unfolding is_unambiguous
unambiguous-map es = refl

pub unambiguous-ordered_map : (es : Entries) → is_unambiguous (ordered_map_doc es) ≡ entries_are_unambiguous es
unfolding is_unambiguous
unambiguous-ordered_map es = refl

pub unambiguous-entries : (es : Entries) (e : Option Members) → is_unambiguous (entries_doc es e) ≡ (entries_are_unambiguous es && (names_no_extension es && are_extensions e))
unfolding is_unambiguous
unambiguous-entries es e = refl

pub unambiguous-table : (n : ObjectType) (ds : Docs) (e : Option Members) → is_unambiguous (table_doc n ds e) ≡ (are_unambiguous ds && are_extensions e)
unfolding is_unambiguous
unambiguous-table n ds e = refl

pub docs-none : are_unambiguous no_docs ≡ true
unfolding are_unambiguous
docs-none = refl

pub docs-next : (d : Doc) (ds : Docs) → are_unambiguous (doc d ds) ≡ (is_unambiguous d && are_unambiguous ds)
unfolding are_unambiguous
docs-next d ds = refl

pub entries-none : entries_are_unambiguous no_entries ≡ true
unfolding entries_are_unambiguous
entries-none = refl

pub entries-next : (k : List ℕ) (d : Doc) (es : Entries) → entries_are_unambiguous (entry k d es) ≡ (is_unambiguous d && (is_key_of k d && entries_are_unambiguous es))
unfolding entries_are_unambiguous
entries-next k d es = refl

-- ---- fields that are always unambiguous: options, lists and maps of documents that hold no other

pub option-always : {X : Type 0} (f : X → Doc) → ((x : X) → is_unambiguous (f x) ≡ true) → (o : Option X) → is_unambiguous (option_of f o) ≡ true
option-always f each None = unambiguous-none
option-always f each (Some x) = unambiguous-some (f x) ∙ each x

pub docs-always : {X : Type 0} (f : X → Doc) → ((x : X) → is_unambiguous (f x) ≡ true) → (xs : List X) → are_unambiguous (docs_of (map f xs)) ≡ true
docs-always f each [] = docs-none
docs-always f each (x ∷ xs) = docs-next _ _ ∙ ap (λ b. b && are_unambiguous (docs_of (map f xs))) (each x) ∙ docs-always f each xs

pub list-always : {X : Type 0} (f : X → Doc) → ((x : X) → is_unambiguous (f x) ≡ true) → (v : Vec X Global) → is_unambiguous (list_of_docs f v) ≡ true
list-always f each v = unambiguous-list _ ∙ docs-always f each v.items

pub option-text : (o : Option (String Global)) → is_unambiguous (option_of text_of o) ≡ true
option-text = option-always text_of (λ s. unambiguous-text (string_bytes s))

pub option-flag : (o : Option Bool) → is_unambiguous (option_of flag_doc o) ≡ true
option-flag = option-always flag_doc unambiguous-flag

pub option-whole : (o : Option ℕ) → is_unambiguous (option_of whole_doc o) ≡ true
option-whole = option-always whole_doc unambiguous-whole

pub option-tree : (o : Option Value) → is_unambiguous (option_of tree_of o) ≡ true
option-tree = option-always tree_of (λ v. unambiguous-tree _)

pub option-number : (o : Option Number) → is_unambiguous (option_of number_doc o) ≡ true
option-number = option-always number_doc unambiguous-number

pub option-deprecated : (o : Option Deprecated) → is_unambiguous (option_of deprecated_doc o) ≡ true
option-deprecated = option-always deprecated_doc unambiguous-deprecated

pub option-required : (o : Option Required) → is_unambiguous (option_of required_doc o) ≡ true
option-required = option-always required_doc unambiguous-required

pub texts-always : (v : Vec (String Global) Global) → is_unambiguous (list_of_docs text_of v) ≡ true
texts-always = list-always text_of (λ s. unambiguous-text (string_bytes s))

pub trees-always : (v : Vec Value Global) → is_unambiguous (list_of_docs tree_of v) ≡ true
trees-always = list-always tree_of (λ v. unambiguous-tree _)

pub option-texts : (o : Option (Vec (String Global) Global)) → is_unambiguous (option_of (list_of_docs text_of) o) ≡ true
option-texts = option-always (list_of_docs text_of) texts-always

pub option-trees : (o : Option (Vec Value Global)) → is_unambiguous (option_of (list_of_docs tree_of) o) ≡ true
option-trees = option-always (list_of_docs tree_of) trees-always

-- a map of documents that may stand under any key
entries-always : {X : Type 0} (f : X → Doc) → ((x : X) → is_unambiguous (f x) ≡ true) → ((x : X) (key : List ℕ) → is_key_of key (f x) ≡ true) → (es : List (String Global × X))
    → entries_are_unambiguous (entries_of_list (pairs_of f es)) ≡ true
entries-always f each keyed [] = entries-none
entries-always f each keyed (e ∷ es) =
    entries-next _ _ _ ∙ ap (λ b. b && (is_key_of (string_bytes e.0) (f e.1) && entries_are_unambiguous (entries_of_list (pairs_of f es)))) (each e.1)
    ∙ ap (λ b. b && entries_are_unambiguous (entries_of_list (pairs_of f es))) (keyed e.1 (string_bytes e.0)) ∙ entries-always f each keyed es

pub map-texts : (m : BTreeMap (String Global) (String Global)) → is_unambiguous (map_of_docs text_of m) ≡ true
map-texts m = unambiguous-map _ ∙ entries-always text_of (λ s. unambiguous-text (string_bytes s)) (λ s key. refl) m.entries

pub map-trees : (m : BTreeMap (String Global) Value) → is_unambiguous (map_of_docs tree_of m) ≡ true
map-trees m = unambiguous-map _ ∙ entries-always tree_of (λ v. unambiguous-tree _) (λ v key. refl) m.entries

pub map-lists : (m : BTreeMap (String Global) (Vec (String Global) Global)) → is_unambiguous (map_of_docs (list_of_docs text_of) m) ≡ true
map-lists m = unambiguous-map _ ∙ entries-always (list_of_docs text_of) texts-always (λ v key. refl) m.entries

-- ---- a list, from one item on

-- the item, and those after it
pub item_split : {X : Type 0} (f : X → Doc) (xs : List X) (i : ℕ) (x : X) → i < length xs → x ≡ get_or xs i x
    → are_unambiguous (docs_of (map f (drop i xs))) ≡ (is_unambiguous (f x) && are_unambiguous (docs_of (map f (drop (i + 1) xs))))
item_split f xs i x within is = ap (λ ys. are_unambiguous (docs_of (map f ys))) (drop_item xs i x within is) ∙ docs-next _ _

-- ---- keys

-- a value of a kind is no flow, so it may stand under any key
pub any_key : (key : List ℕ) (d : Doc) (k : Kind) → IsOf d (value_of k) → is_key_of key d ≡ true
unfolding IsOf
any_key key (text_doc s) k i = refl
any_key key (flag_doc b) k i = refl
any_key key (whole_doc n) k i = refl
any_key key (int_doc z) k i = refl
any_key key (uint_doc n) k i = refl
any_key key (tree_doc d) k i = refl
any_key key (word_doc s) k i = refl
any_key key (custom_doc s) k i = refl
any_key key (types_doc d) k i = refl
any_key key any_value_doc k i = refl
any_key key none_doc k i = refl
any_key key (some_doc d) k i = refl
any_key key (ref_doc j d) k i = refl
any_key key (own_doc d) k i = refl
any_key key (schema_doc d) k i = refl
any_key key (tagged_doc name word d) k i = refl
any_key key (flow_doc d) k i = let no : value_of k ≡ flow_place = i.1 in cc
any_key key (list_doc ds) k i = refl
any_key key (map_doc es) k i = refl
any_key key (ordered_map_doc es) k i = refl
any_key key (entries_doc es e) k i = refl
any_key key (table_doc n ds e) k i = refl

-- an entry whose document is of a kind, and those after it
pub entry_split : (all : Entries) (key : List ℕ) (d : Doc) (es : Entries) (k : Kind) → all ≡ entry key d es → IsOf d (value_of k)
    → entries_are_unambiguous all ≡ (is_unambiguous d && entries_are_unambiguous es)
entry_split all key d es k is i =
    ap entries_are_unambiguous is ∙ entries-next key d es ∙ ap (λ b. is_unambiguous d && (b && entries_are_unambiguous es)) (any_key key d k i)

-- documents, part by part
pub ruleset by_parts = (unambiguous-text, unambiguous-flag, unambiguous-whole, unambiguous-tree, unambiguous-word, unambiguous-custom, unambiguous-any_value, unambiguous-none, unambiguous-number, unambiguous-deprecated, unambiguous-required, unambiguous-types, unambiguous-some, unambiguous-ref, unambiguous-own, unambiguous-schema, unambiguous-tagged, unambiguous-flow, unambiguous-list, unambiguous-map, unambiguous-ordered_map, unambiguous-entries, unambiguous-table, docs-none, docs-next, entries-none, entries-next, option-text, option-flag, option-whole, option-tree, option-number, option-deprecated, option-required, texts-always, trees-always, option-texts, option-trees, map-texts, map-trees, map-lists)
