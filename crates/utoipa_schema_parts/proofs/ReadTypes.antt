-- The types of schemas, read and written.
use Rattle.std.proofs.Common.{◌≡◌, Bool, true, false, Option, Some, None, option_map, is_some, refl, ◌↔◌, IsTrue}
use Rattle.serde_json.specs.Data.{Data, null, boolean, number, string, array, object}
use Rattle.serde_json.specs.Find.{as_null, as_array}
use Rattle.serde_json.specs.declared.value.Value.{the_lemmas}
use Rattle.utoipa_base.specs.Docs.{Doc, Docs, types_doc, any_value_doc, list_doc}
use Rattle.utoipa_base.specs.Kinds.{type_word, word_of, list_of, schema_type}
use Rattle.utoipa_base.specs.Reading.{reader, item_readers, read, read_items}
use Rattle.utoipa_base.specs.Writing.{write, is_empty}
use Rattle.utoipa_schema_parts.specs.Types.{schema_type_doc}
use Rattle.utoipa_schema_parts.specs.declared.types.SchemaType.{SchemaType}
use Rattle.utoipa_schema_parts.specs.declared.types.SchemaType.TheVariants as types

-- null is any value
pub read-any_value : (d : Data) → is_some (as_null d) ≡ true → read schema_type d ≡ Some any_value_doc
unfolding reader
read-any_value null e = refl
read-any_value (boolean b) e = cc
read-any_value (number n) e = cc
read-any_value (string s) e = cc
read-any_value (array ds) e = cc
read-any_value (object ms) e = cc

listed : (o : Option Docs) → option_map (λ ws. types_doc (list_doc ws)) o ≡ option_map types_doc (option_map list_doc o)
listed None = refl
listed (Some ws) = refl

-- an array is a list of types
pub read-types : (d : Data) → is_some (as_array d) ≡ true → read schema_type d ≡ option_map types_doc (read (list_of (word_of type_word)) d)
unfolding reader
read-types null e = cc
read-types (boolean b) e = cc
read-types (number n) e = cc
read-types (string s) e = cc
read-types (array ds) e = listed (read_items (word_of type_word) (item_readers ds))
read-types (object ms) e = cc

-- any other tree is one type
pub read-single : (d : Data) → is_some (as_null d) ≡ false → is_some (as_array d) ≡ false → read schema_type d ≡ read (word_of type_word) d
unfolding reader
read-single null e f = cc
read-single (boolean b) e f = refl
read-single (number n) e f = refl
read-single (string s) e f = refl
read-single (array ds) e f = cc
read-single (object ms) e f = refl

pub write-types : (d : Doc) → write (types_doc d) ≡ write d
unfolding write
write-types d = refl

pub write-any_value : write any_value_doc ≡ null
unfolding write
write-any_value = refl

pub ruleset by_types = (read-any_value, read-types, read-single, write-types, write-any_value, the_lemmas)

-- any value is left out where it may be
pub left_out_if : (b : Bool) (t : SchemaType) → (IsTrue b ↔ (t ≡ types.AnyValue)) → b ≡ is_empty (schema_type_doc t)
left_out_if true (types.Single w) h = let e = h.0 refl in cc
left_out_if false (types.Single w) h = refl
left_out_if true (types.Array ws) h = let e = h.0 refl in cc
left_out_if false (types.Array ws) h = refl
left_out_if true types.AnyValue h = refl
left_out_if false types.AnyValue h = let e = h.1 refl in cc
