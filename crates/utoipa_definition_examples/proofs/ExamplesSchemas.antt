-- Examples of schemas: which alternative a tree reads as, and what is written for it.
use Rattle.std.specs.Prelude.{◌≡◌, ℕ, zero, suc, pos, negsuc, [], ◌∷◌, true, false, codes, None, Some, refl}
use Rattle.serde_json.specs.Data.{negative, Data, null, boolean, number, no_members}
use Rattle.utoipa_base.specs.Kinds.{media_type_object, example_object, one_of_schema, all_of_schema, array_schema, object_schema, ref_or, named, schema, schema_type, schema_format}
use Rattle.utoipa_base.specs.Docs.{flag_doc, int_doc, uint_doc, tree_doc, word_doc, custom_doc, types_doc, any_value_doc, some_doc, schema_doc, list_doc, no_docs, doc}
use Rattle.utoipa_base.specs.Reading.{reader}
use Rattle.utoipa_base.specs.Writing.{write}
use Rattle.utoipa_base.specs.NormalForm.{normal_form}
use Rattle.utoipa_base.specs.WellFormed.{IsUnambiguous}
use Rattle.utoipa_base.specs.Values.{values, schema_count}
use Rattle.utoipa_definition_examples.proofs.ExampleTrees.{members, list, str, num, Prints, Keeps, IsRefused, IsReadAs, schemas_of, built}

-- ---- the alternatives of a schema

-- an empty object is a schema of any value
empty_schema : Keeps (ref_or schema) (members [])
unfolding reader write
empty_schema = refl

-- a null default is none
null_default : Prints (ref_or schema) (members (("default", null) ∷ [])) (members [])
unfolding reader write
null_default = refl

-- an object that names no keyword of the other alternatives is an object of any value
empty_schema_is : IsReadAs schema (members []) (schema_doc (built object_schema [] None))
unfolding reader
empty_schema_is = refl

-- so is one whose default is null
null_default_is : IsReadAs schema (members (("default", null) ∷ [])) (schema_doc (built object_schema [] None))
unfolding reader
null_default_is = refl

-- a schema of any value with the default null is written with it
no_type_null_default : write (schema_doc (built object_schema (("default", some_doc (tree_doc null)) ∷ []) None)) ≡ members (("default", null) ∷ [])
unfolding write
no_type_null_default = refl

-- its normal form has no default
no_type_null_default_in_normal_form : normal_form (schema_doc (built object_schema (("default", some_doc (tree_doc null)) ∷ []) None)) ≡ schema_doc (built object_schema [] None)
unfolding normal_form write
no_type_null_default_in_normal_form = refl

-- and that is what its tree reads as
no_type_null_default_back : IsReadAs schema (write (schema_doc (built object_schema (("default", some_doc (tree_doc null)) ∷ []) None))) (schema_doc (built object_schema [] None))
unfolding reader write
no_type_null_default_back = refl

-- `oneOf` is tried first, and keeps its type
typed_one_of : Keeps (ref_or schema) (members (("oneOf", list []) ∷ ("type", str "string") ∷ []))
unfolding reader write
typed_one_of = refl

-- a typed schema with `oneOf` is that combination
typed_one_of_is : IsReadAs schema (members (("oneOf", list []) ∷ ("type", str "string") ∷ [])) (schema_doc (built one_of_schema (("type", word_doc (codes "string")) ∷ []) None))
unfolding reader
typed_one_of_is = refl

-- where `oneOf` is no list, an object that names its type is read
one_of_number : Prints (ref_or schema) (members (("oneOf", num 5) ∷ ("type", str "string") ∷ [])) (members (("type", str "string") ∷ []))
unfolding reader write
one_of_number = refl

-- a combination drops the members that it does not name
one_of_properties : Prints (ref_or schema) (members (("oneOf", list (members [] ∷ members [] ∷ [])) ∷ ("properties", members (("p", members []) ∷ [])) ∷ ("type", str "object") ∷ [])) (members (("oneOf", list (members [] ∷ members [] ∷ [])) ∷ ("type", str "object") ∷ []))
unfolding reader write
one_of_properties = refl

-- `anyOf` with a type is tried before the object, and has no title
any_of_title : Prints (ref_or schema) (members (("anyOf", list []) ∷ ("title", str "t") ∷ ("type", str "string") ∷ [])) (members (("anyOf", list []) ∷ ("type", str "string") ∷ []))
unfolding reader write
any_of_title = refl

-- `allOf` is tried before the array
all_of_items : Prints (ref_or schema) (members (("allOf", list (members [] ∷ [])) ∷ ("items", members []) ∷ ("type", str "array") ∷ [])) (members (("allOf", list (members [] ∷ [])) ∷ ("type", str "array") ∷ []))
unfolding reader write
all_of_items = refl

-- `oneOf` is tried before `allOf`, and `allOf` before `anyOf`
one_of_before_all_of : Prints (ref_or schema) (members (("allOf", list []) ∷ ("anyOf", list []) ∷ ("oneOf", list []) ∷ [])) (members (("oneOf", list []) ∷ []))
unfolding reader write
one_of_before_all_of = refl

-- `allOf` is tried before `anyOf`
all_of_before_any_of : Prints (ref_or schema) (members (("allOf", list []) ∷ ("anyOf", list []) ∷ [])) (members (("allOf", list []) ∷ []))
unfolding reader write
all_of_before_any_of = refl

-- `readOnly` belongs to `oneOf` and not to `allOf`
one_of_reads_only : Prints (ref_or schema) (members (("oneOf", list (members (("allOf", list []) ∷ ("readOnly", boolean true) ∷ []) ∷ [])) ∷ ("readOnly", boolean true) ∷ [])) (members (("oneOf", list (members (("allOf", list []) ∷ []) ∷ [])) ∷ ("readOnly", boolean true) ∷ []))
unfolding reader write
one_of_reads_only = refl

-- a schema that names `oneOf` without a list, and no type, is refused
one_of_number_alone : IsRefused (ref_or schema) (members (("oneOf", num 5) ∷ []))
unfolding reader
one_of_number_alone = refl

-- `oneOf` with a discriminator
one_of_discriminator : Keeps (ref_or schema) (members (("discriminator", members (("mapping", members (("int", str "#/components/schemas/MyInt") ∷ [])) ∷ ("propertyName", str "type") ∷ [])) ∷ ("oneOf", list (members (("$ref", str "#/components/schemas/MyInt") ∷ []) ∷ [])) ∷ []))
unfolding reader write
one_of_discriminator = refl

-- the type null of a combination is any value, which is not written
combination_null_type : Prints (ref_or schema) (members (("allOf", list []) ∷ ("type", null) ∷ [])) (members (("allOf", list []) ∷ []))
unfolding reader write
combination_null_type = refl

-- a combination with a type is well-formed
typed_all_of_well-formed : IsUnambiguous (schema_doc (built all_of_schema (("type", word_doc (codes "object")) ∷ ("default", some_doc (tree_doc null)) ∷ []) (Some no_members)))
unfolding IsUnambiguous write
typed_all_of_well-formed = ((tt, (tt, (tt, (tt, (tt, (tt, (tt, (tt, tt)))))))), refl)

-- its normal form has no null default and no empty extensions
typed_all_of_in_normal_form : normal_form (schema_doc (built all_of_schema (("type", word_doc (codes "object")) ∷ ("default", some_doc (tree_doc null)) ∷ []) (Some no_members))) ≡ schema_doc (built all_of_schema (("type", word_doc (codes "object")) ∷ []) None)
unfolding normal_form write
typed_all_of_in_normal_form = refl

-- and that is what its tree reads as
typed_all_of_back : IsReadAs schema (write (schema_doc (built all_of_schema (("type", word_doc (codes "object")) ∷ ("default", some_doc (tree_doc null)) ∷ []) (Some no_members)))) (schema_doc (built all_of_schema (("type", word_doc (codes "object")) ∷ []) None))
unfolding reader write
typed_all_of_back = refl

-- ---- arrays

-- an array of numbers
array_of_numbers : Keeps (ref_or schema) (members (("items", members (("type", str "number") ∷ [])) ∷ ("type", str "array") ∷ ("uniqueItems", boolean true) ∷ []))
unfolding reader write
array_of_numbers = refl

-- where `uniqueItems` is no flag the array does not fit, and the object that names its type drops both members
array_unique_number : Prints (ref_or schema) (members (("items", members []) ∷ ("type", str "array") ∷ ("uniqueItems", num 1) ∷ [])) (members (("type", str "array") ∷ []))
unfolding reader write
array_unique_number = refl

-- items that are true do not fit
array_items_true : Prints (ref_or schema) (members (("items", boolean true) ∷ ("type", str "array") ∷ [])) (members (("type", str "array") ∷ []))
unfolding reader write
array_items_true = refl

-- a reference is no prefix item
array_prefix_reference : Prints (ref_or schema) (members (("items", boolean false) ∷ ("prefixItems", list (members (("$ref", str "#/a") ∷ []) ∷ [])) ∷ ("type", str "array") ∷ [])) (members (("type", str "array") ∷ []))
unfolding reader write
array_prefix_reference = refl

-- items that are false, after prefix items
array_prefix_items : Keeps (ref_or schema) (members (("items", boolean false) ∷ ("prefixItems", list (members (("type", str "string") ∷ []) ∷ members [] ∷ [])) ∷ ("type", str "array") ∷ []))
unfolding reader write
array_prefix_items = refl

-- an array names its type
items_alone : IsRefused (ref_or schema) (members (("items", members []) ∷ []))
unfolding reader
items_alone = refl

-- the type of an array may be null, which is written
array_null_type : Keeps (ref_or schema) (members (("items", boolean false) ∷ ("type", null) ∷ []))
unfolding reader write
array_null_type = refl

-- null at the type of an array is any value
array_null_type_is : IsReadAs schema (members (("items", boolean false) ∷ ("type", null) ∷ [])) (schema_doc (built array_schema (("items", flag_doc false) ∷ []) None))
unfolding reader
array_null_type_is = refl

-- empty lists, empty texts and false are left out
array_empty_lists : Prints (ref_or schema) (members (("contentEncoding", str "") ∷ ("examples", list []) ∷ ("items", members (("$ref", str "#/a") ∷ [])) ∷ ("prefixItems", list []) ∷ ("type", str "array") ∷ ("uniqueItems", boolean false) ∷ [])) (members (("items", members (("$ref", str "#/a") ∷ [])) ∷ ("type", str "array") ∷ []))
unfolding reader write
array_empty_lists = refl

-- a number is no type, so the items do not fit, and the object of type array is read
array_type_number : IsReadAs schema (members (("items", members (("type", num 5) ∷ [])) ∷ ("type", str "array") ∷ [])) (schema_doc (built object_schema (("type", word_doc (codes "array")) ∷ []) None))
unfolding reader
array_type_number = refl

-- an array or null
array_nullable : Keeps (ref_or schema) (members (("items", members (("type", str "string") ∷ [])) ∷ ("type", list (str "array" ∷ str "null" ∷ [])) ∷ []))
unfolding reader write
array_nullable = refl

-- ---- types

-- a list of types
type_list : Keeps (ref_or schema) (members (("type", list (str "string" ∷ str "null" ∷ [])) ∷ []))
unfolding reader write
type_list = refl

-- an empty list of types stays
type_empty_list : Keeps (ref_or schema) (members (("type", list []) ∷ []))
unfolding reader write
type_empty_list = refl

-- a word that is no type is refused
type_unknown : IsRefused (ref_or schema) (members (("type", str "text") ∷ []))
unfolding reader
type_unknown = refl

-- a number is no schema
schema_number : IsRefused (ref_or schema) (num 5)
unfolding reader
schema_number = refl

-- true is no schema
schema_true : IsRefused (ref_or schema) (boolean true)
unfolding reader
schema_true = refl

-- null is no schema
schema_null : IsRefused (ref_or schema) null
unfolding reader
schema_null = refl

-- null at the type of an object is any value, which is not written
object_null_type : Prints (ref_or schema) (members (("title", str "t") ∷ ("type", null) ∷ [])) (members (("title", str "t") ∷ []))
unfolding reader write
object_null_type = refl

-- a type by its word
type_word_is : IsReadAs schema_type (str "integer") (word_doc (codes "integer"))
unfolding reader
type_word_is = refl

-- a list of type words
type_list_is : IsReadAs schema_type (list (str "integer" ∷ str "null" ∷ [])) (types_doc (list_doc (doc (word_doc (codes "integer")) (doc (word_doc (codes "null")) no_docs))))
unfolding reader
type_list_is = refl

-- null is any value
type_null_is : IsReadAs schema_type null any_value_doc
unfolding reader
type_null_is = refl

-- each type of a list is a word
type_list_unknown : IsRefused schema_type (list (str "integer" ∷ str "text" ∷ []))
unfolding reader
type_list_unknown = refl

-- ---- references

-- where the summary is no text the reference does not fit, and the object drops both members
reference_number_summary : Prints (ref_or schema) (members (("$ref", str "#/a") ∷ ("summary", num 5) ∷ ("type", str "string") ∷ [])) (members (("type", str "string") ∷ []))
unfolding reader write
reference_number_summary = refl

-- a reference is tried first
reference_before_type : Prints (ref_or schema) (members (("$ref", str "#/a") ∷ ("type", str "string") ∷ [])) (members (("$ref", str "#/a") ∷ []))
unfolding reader write
reference_before_type = refl

-- a schema that names `$ref` without a text, and no type, is refused
reference_number : IsRefused (ref_or schema) (members (("$ref", num 5) ∷ []))
unfolding reader
reference_number = refl

-- where a schema alone may stand, a reference is refused
schema_no_reference : IsRefused schema (members (("$ref", str "#/a") ∷ []))
unfolding reader
schema_no_reference = refl

-- ---- objects

-- a bound beyond i64 is kept
bounds : Prints (ref_or schema) (members (("maximum", num 9223372036854775808) ∷ ("minimum", num 0) ∷ ("type", str "integer") ∷ [])) (members (("maximum", num 9223372036854775808) ∷ ("minimum", num 0) ∷ ("type", str "integer") ∷ []))
unfolding reader write
bounds = refl

-- that maximum is unsigned, and the minimum an integer
bounds_are : IsReadAs schema (members (("maximum", num 9223372036854775808) ∷ ("minimum", num 0) ∷ ("type", str "integer") ∷ [])) (schema_doc (built object_schema (("type", word_doc (codes "integer")) ∷ ("maximum", some_doc (uint_doc 9223372036854775808)) ∷ ("minimum", some_doc (int_doc (pos 0))) ∷ []) None))
unfolding reader
bounds_are = refl

-- an unsigned minimum 0 reads back as the integer 0
minimum_zero_back : IsReadAs schema (write (schema_doc (built object_schema (("type", word_doc (codes "integer")) ∷ ("minimum", some_doc (uint_doc 0)) ∷ []) None))) (schema_doc (built object_schema (("type", word_doc (codes "integer")) ∷ ("minimum", some_doc (int_doc (pos 0))) ∷ []) None))
unfolding reader write
minimum_zero_back = refl

-- which is its normal form
minimum_zero_in_normal_form : normal_form (schema_doc (built object_schema (("type", word_doc (codes "integer")) ∷ ("minimum", some_doc (uint_doc 0)) ∷ []) None)) ≡ schema_doc (built object_schema (("type", word_doc (codes "integer")) ∷ ("minimum", some_doc (int_doc (pos 0))) ∷ []) None)
unfolding normal_form write
minimum_zero_in_normal_form = refl

-- a bound may be negative
negative_bound : Keeps (ref_or schema) (members (("exclusiveMinimum", number (negative (negsuc 0))) ∷ ("type", str "integer") ∷ []))
unfolding reader write
negative_bound = refl

-- a text is no bound
bound_text : IsRefused (ref_or schema) (members (("minimum", str "1") ∷ []))
unfolding reader
bound_text = refl

-- additional properties of any kind
additional_true : Keeps (ref_or schema) (members (("additionalProperties", boolean true) ∷ ("type", str "object") ∷ []))
unfolding reader write
additional_true = refl

-- no additional properties
additional_false : Keeps (ref_or schema) (members (("additionalProperties", boolean false) ∷ ("type", str "object") ∷ []))
unfolding reader write
additional_false = refl

-- additional properties by a schema
additional_schema : Keeps (ref_or schema) (members (("additionalProperties", members (("type", str "string") ∷ [])) ∷ ("type", str "object") ∷ []))
unfolding reader write
additional_schema = refl

-- additional properties by a reference
additional_reference : Keeps (ref_or schema) (members (("additionalProperties", members (("$ref", str "#/components/schemas/ComplexModel") ∷ [])) ∷ ("type", str "object") ∷ []))
unfolding reader write
additional_reference = refl

-- a number is no additional properties
additional_number : IsRefused (ref_or schema) (members (("additionalProperties", num 1) ∷ []))
unfolding reader
additional_number = refl

-- the names of properties are no reference
names_by_reference : IsRefused (ref_or schema) (members (("propertyNames", members (("$ref", str "#/a") ∷ [])) ∷ []))
unfolding reader
names_by_reference = refl

-- a title
titled : Keeps (ref_or schema) (members (("title", str "SomeName") ∷ ("type", str "object") ∷ []))
unfolding reader write
titled = refl

-- examples of any kind
examples : Keeps (ref_or schema) (members (("examples", list (members (("age", num 20) ∷ ("name", str "bob the cat") ∷ []) ∷ null ∷ [])) ∷ ("type", str "object") ∷ []))
unfolding reader write
examples = refl

-- keywords that the model does not have are dropped
unknown_keywords : Prints (ref_or schema) (members (("const", num 1) ∷ ("not", members []) ∷ ("type", str "string") ∷ ("x-a", members (("b", null) ∷ [])) ∷ [])) (members (("type", str "string") ∷ ("x-a", members (("b", null) ∷ [])) ∷ []))
unfolding reader write
unknown_keywords = refl

-- null at an optional member is none
null_members : Prints (ref_or schema) (members (("additionalProperties", null) ∷ ("contentSchema", null) ∷ ("enum", null) ∷ ("example", null) ∷ ("title", null) ∷ ("type", str "object") ∷ [])) (members (("type", str "object") ∷ []))
unfolding reader write
null_members = refl

-- null at a list that may be absent is refused
null_required : IsRefused (ref_or schema) (members (("required", null) ∷ []))
unfolding reader
null_required = refl

-- and so is null at the examples of a typed schema
null_examples : IsRefused (ref_or schema) (members (("examples", null) ∷ ("type", str "string") ∷ []))
unfolding reader
null_examples = refl

-- an empty enumeration stays
empty_enum : Keeps (ref_or schema) (members (("enum", list []) ∷ []))
unfolding reader write
empty_enum = refl

-- ---- formats

-- a known format is its word
format_known : IsReadAs schema_format (str "int32") (word_doc (codes "int32"))
unfolding reader
format_known = refl

-- any other text is a custom format
format_custom : IsReadAs schema_format (str "uuid") (custom_doc (codes "uuid"))
unfolding reader
format_custom = refl

-- a number is no format
format_number : IsRefused schema_format (num 32)
unfolding reader
format_number = refl

-- a custom format that spells a known one has the normal form the known one
custom_known_in_normal_form : normal_form (schema_doc (built object_schema (("format", some_doc (custom_doc (codes "int32"))) ∷ []) None)) ≡ schema_doc (built object_schema (("format", some_doc (word_doc (codes "int32"))) ∷ []) None)
unfolding normal_form write
custom_known_in_normal_form = refl

-- and reads back as that
custom_known_back : IsReadAs schema (write (schema_doc (built object_schema (("format", some_doc (custom_doc (codes "int32"))) ∷ []) None))) (schema_doc (built object_schema (("format", some_doc (word_doc (codes "int32"))) ∷ []) None))
unfolding reader write
custom_known_back = refl

-- another custom format stays
custom_in_normal_form : normal_form (schema_doc (built object_schema (("format", some_doc (custom_doc (codes "uuid"))) ∷ []) None)) ≡ schema_doc (built object_schema (("format", some_doc (custom_doc (codes "uuid"))) ∷ []) None)
unfolding normal_form write
custom_in_normal_form = refl

-- ---- content schemas

-- a content schema in a content schema
content_schemas : Keeps schema (members (("contentSchema", members (("contentSchema", members (("type", str "string") ∷ [])) ∷ ("type", str "string") ∷ [])) ∷ ("type", str "string") ∷ []))
unfolding reader write
content_schemas = refl

-- a content schema that is refused refuses its schema
content_schema_type : IsRefused schema (members (("contentSchema", members (("type", num 5) ∷ [])) ∷ []))
unfolding reader
content_schema_type = refl

-- a content schema may be a reference
content_schema_reference : Keeps schema (members (("contentSchema", members (("$ref", str "#/a") ∷ [])) ∷ []))
unfolding reader write
content_schema_reference = refl

-- ---- values of trees, and schemas of documents

-- three schemas, each the content schema of the one around it
nested_schemas : schemas_of schema (members (("contentSchema", members (("contentSchema", members (("type", str "string") ∷ [])) ∷ ("type", str "string") ∷ [])) ∷ ("type", str "string") ∷ [])) ≡ Some 3
unfolding reader schema_count
nested_schemas = refl

-- values of that tree
nested_schemas_values : values (members (("contentSchema", members (("contentSchema", members (("type", str "string") ∷ [])) ∷ ("type", str "string") ∷ [])) ∷ ("type", str "string") ∷ [])) ≡ 6
unfolding values
nested_schemas_values = refl

-- a schema, its two properties, one of them a reference, and the items of the other
object_schemas : schemas_of schema (members (("properties", members (("a", members (("$ref", str "#/x") ∷ [])) ∷ ("b", members (("items", members (("type", str "string") ∷ [])) ∷ ("type", str "array") ∷ [])) ∷ [])) ∷ ("type", str "object") ∷ [])) ≡ Some 4
unfolding reader schema_count
object_schemas = refl

-- values of that tree
object_schemas_values : values (members (("properties", members (("a", members (("$ref", str "#/x") ∷ [])) ∷ ("b", members (("items", members (("type", str "string") ∷ [])) ∷ ("type", str "array") ∷ [])) ∷ [])) ∷ ("type", str "object") ∷ [])) ≡ 9
unfolding values
object_schemas_values = refl

-- a reference in the place of a schema counts
reference_schema : schemas_of (ref_or schema) (members (("$ref", str "#/a") ∷ [])) ≡ Some 1
unfolding reader schema_count
reference_schema = refl

-- a reference in the place of an example does not
reference_example : schemas_of (ref_or (named example_object)) (members (("$ref", str "#/a") ∷ [])) ≡ Some 0
unfolding reader schema_count
reference_example = refl

-- a combination and its two schemas; the dropped properties do not count
one_of_schemas : schemas_of (ref_or schema) (members (("oneOf", list (members [] ∷ members [] ∷ [])) ∷ ("properties", members (("p", members []) ∷ [])) ∷ ("type", str "object") ∷ [])) ≡ Some 3
unfolding reader schema_count
one_of_schemas = refl

-- values of that tree
one_of_schemas_values : values (members (("oneOf", list (members [] ∷ members [] ∷ [])) ∷ ("properties", members (("p", members []) ∷ [])) ∷ ("type", str "object") ∷ [])) ≡ 7
unfolding values
one_of_schemas_values = refl

-- the object of type array, without the items that did not fit
array_type_number_counts : schemas_of schema (members (("items", members (("type", num 5) ∷ [])) ∷ ("type", str "array") ∷ [])) ≡ Some 1
unfolding reader schema_count
array_type_number_counts = refl

-- values of that tree
array_type_number_counts_values : values (members (("items", members (("type", num 5) ∷ [])) ∷ ("type", str "array") ∷ [])) ≡ 4
unfolding values
array_type_number_counts_values = refl

-- values of a tree that is no schema
content_schema_values_values : values (members (("contentSchema", members (("type", num 5) ∷ [])) ∷ [])) ≡ 3
unfolding values
content_schema_values_values = refl

-- false as items, and a flag as additional properties, are no schemas
flags_no_schemas : schemas_of (ref_or schema) (members (("oneOf", list (members (("items", boolean false) ∷ ("type", str "array") ∷ []) ∷ members (("additionalProperties", boolean true) ∷ []) ∷ [])) ∷ [])) ≡ Some 3
unfolding reader schema_count
flags_no_schemas = refl

-- additional properties, names of properties and prefix items are schemas
additional_schemas : schemas_of (ref_or schema) (members (("oneOf", list (members (("items", members []) ∷ ("prefixItems", list (members [] ∷ members [] ∷ [])) ∷ ("type", str "array") ∷ []) ∷ members (("additionalProperties", members []) ∷ ("propertyNames", members []) ∷ []) ∷ [])) ∷ [])) ≡ Some 8
unfolding reader schema_count
additional_schemas = refl

-- the schema of a content, and that of a header of its encoding
content_schemas_in_headers : schemas_of (named media_type_object) (members (("encoding", members (("a", members (("headers", members (("h", members (("schema", members []) ∷ [])) ∷ [])) ∷ [])) ∷ [])) ∷ ("schema", members (("type", str "string") ∷ [])) ∷ [])) ≡ Some 2
unfolding reader schema_count
content_schemas_in_headers = refl

-- values of that tree
content_schemas_in_headers_values : values (members (("encoding", members (("a", members (("headers", members (("h", members (("schema", members []) ∷ [])) ∷ [])) ∷ [])) ∷ [])) ∷ ("schema", members (("type", str "string") ∷ [])) ∷ [])) ≡ 8
unfolding values
content_schemas_in_headers_values = refl

-- null is a value, and so is each element and member
values_of_null : values (list (null ∷ members (("a", null) ∷ []) ∷ [])) ≡ 4
unfolding values
values_of_null = refl

-- ---- deep schemas

-- a tree inside n levels of members
abbrev levels : (Data → Data) → ℕ → Data → Data
levels f zero t = t
levels f (suc n) t = f (levels f n t)

abbrev content_schema : Data → Data
content_schema t = members (("contentSchema", t) ∷ ("type", str "string") ∷ [])

-- sixty content schemas, one in another, and the innermost schema
sixty_content_schemas : schemas_of schema (levels content_schema 60 (members (("type", str "string") ∷ []))) ≡ Some 61
unfolding reader schema_count
sixty_content_schemas = refl

-- values of that tree
sixty_content_schemas_values : values (levels content_schema 60 (members (("type", str "string") ∷ []))) ≡ 122
unfolding values
sixty_content_schemas_values = refl

-- a hundred and twenty levels
many_content_schemas : schemas_of schema (levels content_schema 120 (members (("type", str "string") ∷ []))) ≡ Some 121
unfolding reader schema_count
many_content_schemas = refl

-- values of that tree
many_content_schemas_values : values (levels content_schema 120 (members (("type", str "string") ∷ []))) ≡ 242
unfolding values
many_content_schemas_values = refl

-- they are written as they were read
content_schemas_kept : Keeps (ref_or schema) (levels content_schema 120 (members (("type", str "string") ∷ [])))
unfolding reader write
content_schemas_kept = refl

-- sixty levels of items
sixty_items : schemas_of (ref_or schema) (levels (λ t. members (("items", t) ∷ ("type", str "array") ∷ [])) 60 (members [])) ≡ Some 61
unfolding reader schema_count
sixty_items = refl

-- sixty levels of prefix items
sixty_prefix_items : schemas_of (ref_or schema) (levels (λ t. members (("items", boolean false) ∷ ("prefixItems", list (t ∷ [])) ∷ ("type", str "array") ∷ [])) 60 (members [])) ≡ Some 61
unfolding reader schema_count
sixty_prefix_items = refl

-- sixty levels of properties
sixty_properties : schemas_of (ref_or schema) (levels (λ t. members (("properties", members (("p", t) ∷ [])) ∷ [])) 60 (members [])) ≡ Some 61
unfolding reader schema_count
sixty_properties = refl

-- sixty levels of additional properties
sixty_additional_properties : schemas_of (ref_or schema) (levels (λ t. members (("additionalProperties", t) ∷ [])) 60 (members [])) ≡ Some 61
unfolding reader schema_count
sixty_additional_properties = refl

-- sixty levels of names of properties
sixty_property_names : schemas_of (ref_or schema) (levels (λ t. members (("propertyNames", t) ∷ [])) 60 (members [])) ≡ Some 61
unfolding reader schema_count
sixty_property_names = refl

-- sixty levels of `oneOf`
sixty_one_of : schemas_of (ref_or schema) (levels (λ t. members (("oneOf", list (t ∷ [])) ∷ [])) 60 (members [])) ≡ Some 61
unfolding reader schema_count
sixty_one_of = refl

-- sixty levels of `allOf`
sixty_all_of : schemas_of (ref_or schema) (levels (λ t. members (("allOf", list (t ∷ [])) ∷ [])) 60 (members [])) ≡ Some 61
unfolding reader schema_count
sixty_all_of = refl

-- sixty levels of `anyOf`
sixty_any_of : schemas_of (ref_or schema) (levels (λ t. members (("anyOf", list (t ∷ [])) ∷ [])) 60 (members [])) ≡ Some 61
unfolding reader schema_count
sixty_any_of = refl

-- sixty content schemas of arrays, around a schema that is refused
sixty_refused : IsRefused (ref_or schema) (levels (λ t. members (("contentSchema", t) ∷ ("items", boolean false) ∷ ("type", str "array") ∷ [])) 60 (members (("type", num 5) ∷ [])))
unfolding reader
sixty_refused = refl
