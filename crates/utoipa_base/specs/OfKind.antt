-- Why each value of the basic types is a document of its type's kind.
use Rattle.std.specs.Prelude.{◌≡◌, ℕ, List, [], ◌∷◌, Bool, true, false, Option, None, Some, map, String, refl}
use Rattle.std.specs.declared.alloc.Global.{Global}
use Rattle.std.specs.BTreeMap.{BTreeMap}
use Rattle.std.specs.Prelude.{Vec, Box}
use Rattle.indexmap.specs.IndexMap.{IndexMap}
use Rattle.serde_json.specs.Data.{Members}
use Rattle.serde_json.specs.Find.{as_str}
use Rattle.serde_json.specs.declared.value.Value.{Value}
use Rattle.utoipa_base.specs.Kinds.{ObjectType, reference_object, Kind, text, flag, any, whole, numeral, list_of, map_of, ordered_map_of, entries_of, ref_or, named, Row}
use Rattle.utoipa_base.specs.Docs.{Doc, flag_doc, whole_doc, table_doc, Docs, no_docs, doc, docs_of, entries_of_list}
use Rattle.utoipa_base.specs.Tables.{table, has_extensions}
use Rattle.utoipa_base.specs.Shape.{Place, value_of, option_of, field_place, IsOf, ItemsOf, EntriesOf, RowsOf, Extends}
use Rattle.utoipa_base.specs.Views as views
use Rattle.utoipa_base.specs.Refs.{reference_doc, ref_or_doc}
use Rattle.utoipa_base.specs.Writing.{write}
use Rattle.utoipa_base.specs.Flags.{deprecated_doc, required_doc}
use Rattle.utoipa_base.specs.Numbers.{number_doc}
use Rattle.utoipa_base.specs.declared.deprecated.Deprecated.{Deprecated}
use Rattle.utoipa_base.specs.declared.deprecated.Deprecated.TheVariants as deprecation
use Rattle.utoipa_base.specs.declared.required.Required.{Required}
use Rattle.utoipa_base.specs.declared.required.Required.TheVariants as requirement
use Rattle.utoipa_base.specs.declared.number.Number.{Number}
use Rattle.utoipa_base.specs.declared.number.Number.TheVariants.{Int, UInt}
use Rattle.utoipa_base.specs.declared.extensions.Extensions.{Extensions}
use Rattle.utoipa_base.specs.declared.refs.Ref.{Ref}
use Rattle.utoipa_base.specs.declared.refs.RefOr.{RefOr}
use Rattle.utoipa_base.specs.declared.refs.RefOr.TheVariants as made

pub text_of_kind : (s : String Global) → IsOf (views.text_of s) (value_of text)
unfolding IsOf
text_of_kind s = refl

pub flag_of_kind : (b : Bool) → IsOf (flag_doc b) (value_of flag)
unfolding IsOf
flag_of_kind b = refl

pub whole_of_kind : (n : ℕ) → IsOf (whole_doc n) (value_of whole)
unfolding IsOf
whole_of_kind n = refl

-- whether something is deprecated is a flag
pub deprecated_of_kind : (d : Deprecated) → IsOf (deprecated_doc d) (value_of flag)
deprecated_of_kind deprecation.True = flag_of_kind true
deprecated_of_kind deprecation.False = flag_of_kind false

-- whether something is required is a flag
pub required_of_kind : (r : Required) → IsOf (required_doc r) (value_of flag)
required_of_kind requirement.True = flag_of_kind true
required_of_kind requirement.False = flag_of_kind false

-- a number of either sort is a numeral
pub number_of_kind : (n : Number) → IsOf (number_doc n) (value_of numeral)
unfolding IsOf
number_of_kind (Int z) = refl
number_of_kind (UInt n) = refl

pub tree_of_kind : (v : Value) → IsOf (views.tree_of v) (value_of any)
unfolding IsOf
tree_of_kind v = refl

-- what a box holds
pub boxed_of_kind : {X : Type 0} (f : X → Doc) (k : Kind) → ((x : X) → IsOf (f x) (value_of k)) → (b : Box X Global) → IsOf (views.boxed f b) (value_of k)
boxed_of_kind f k each b = each b.value

-- an option, where what may be in it is of the kind
pub option_of_kind : {X : Type 0} (f : X → Doc) (k : Kind) → ((x : X) → IsOf (f x) (value_of k)) → (o : Option X) → IsOf (views.option_of f o) (option_of k)
unfolding IsOf
option_of_kind f k each None = (k, refl)
option_of_kind f k each (Some x) = (k, refl, each x)

items_of_kind : {X : Type 0} (f : X → Doc) (k : Kind) → ((x : X) → IsOf (f x) (value_of k)) → (xs : List X) → ItemsOf (docs_of (map f xs)) k
unfolding ItemsOf
items_of_kind f k each [] = tt
items_of_kind f k each (x ∷ xs) = (each x, items_of_kind f k each xs)

pub list_of_kind : {X : Type 0} (f : X → Doc) (k : Kind) → ((x : X) → IsOf (f x) (value_of k)) → (v : Vec X Global) → IsOf (views.list_of_docs f v) (value_of (list_of k))
unfolding IsOf
list_of_kind f k each v = (k, refl, items_of_kind f k each v.items)

pub entries_of_kind : {X : Type 0} (f : X → Doc) (p : Place) → ((x : X) → IsOf (f x) p) → (es : List (String Global × X)) → EntriesOf (entries_of_list (views.pairs_of f es)) p
unfolding EntriesOf
entries_of_kind f p each [] = tt
entries_of_kind f p each (e ∷ es) = (each e.1, entries_of_kind f p each es)

pub map_of_kind : {X : Type 0} (f : X → Doc) (k : Kind) → ((x : X) → IsOf (f x) (value_of k)) → (m : BTreeMap (String Global) X) → IsOf (views.map_of_docs f m) (value_of (map_of k))
unfolding IsOf
map_of_kind f k each m = (value_of k, refl, entries_of_kind f (value_of k) each m.entries)

pub ordered_map_of_kind : {X S : Type 0} (f : X → Doc) (k : Kind) → ((x : X) → IsOf (f x) (value_of k)) → (m : IndexMap (String Global) X S) → IsOf (views.ordered_map_of_docs f m) (value_of (ordered_map_of k))
unfolding IsOf
ordered_map_of_kind f k each m = (k, refl, entries_of_kind f (value_of k) each m.entries)

-- a map beside the extensions of its object
pub entries_beside_of_kind : {X : Type 0} (f : X → Doc) (k : Kind) → ((x : X) → IsOf (f x) (value_of k)) → (m : BTreeMap (String Global) X) (e : Option Extensions) → IsOf (views.entries_beside f m e) (value_of (entries_of k))
unfolding IsOf
entries_beside_of_kind f k each m e = (k, refl, entries_of_kind f (value_of k) each m.entries)

-- ---- an object's fields, row by row

-- the documents are the fields of the rows, one after the other, which is what `RowsOf` says. Here the rows and documents are inferred,
-- so that a proof names the facts alone.
pub data FieldsOf : Docs → List Row → Type 0 where
  no_rows : FieldsOf no_docs []
  next_row : {r : Row} {rs : List Row} {d : Doc} {ds : Docs} → IsOf d (field_place r.mark r.kind) → FieldsOf ds rs → FieldsOf (doc d ds) (r ∷ rs)

-- the same by `RowsOf`
pub rows_of_kind : {ds : Docs} {rs : List Row} → FieldsOf ds rs → RowsOf ds rs
unfolding RowsOf
rows_of_kind no_rows = tt
rows_of_kind (next_row first others) = (first, rows_of_kind others)

-- an object, by the fields of its table's rows, and extensions if its type keeps any
pub table_of_kind : (n : ObjectType) {ds : Docs} (e : Option Members) → FieldsOf ds (table n) → Extends (has_extensions n) e → IsOf (table_doc n ds e) (value_of (named n))
unfolding IsOf
table_of_kind n e fields extends = (refl, rows_of_kind fields, extends)

-- a reference is an object of its type
pub reference_of_kind : (r : Ref) → IsOf (reference_doc r) (value_of (named reference_object))
reference_of_kind r =
    table_of_kind _ _
    (next_row (text_of_kind r.ref_location)
    (next_row (option_of_kind views.tree_of any tree_of_kind r.default)
    (next_row (text_of_kind r.description)
    (next_row (option_of_kind flag_doc flag flag_of_kind r.read_only)
    (next_row (text_of_kind r.summary)
    (next_row (option_of_kind views.text_of text text_of_kind r.title)
    (next_row (option_of_kind flag_doc flag flag_of_kind r.write_only) no_rows)))))))
    tt

-- a reference, or a value in its place
pub ref_or_of_kind : {X : Type 0} (f : X → Doc) (k : Kind) → ((x : X) → IsOf (f x) (value_of k)) → (r : RefOr X) → IsOf (ref_or_doc k f r) (value_of (ref_or k))
unfolding IsOf
ref_or_of_kind f k each (made.Ref r) = (refl, reference_of_kind r)
ref_or_of_kind f k each (made.T x) = (k, refl, each x)

-- a type that keeps extensions may have any
pub extends_of_kind : (e : Option Members) → Extends true e
extends_of_kind None = tt
extends_of_kind (Some ms) = refl

-- an object of a type is written as no text
pub object_is_no_text : (n : ObjectType) (ds : Docs) (e : Option Members) → as_str (write (table_doc n ds e)) ≡ None
unfolding write
object_is_no_text n ds e = refl
