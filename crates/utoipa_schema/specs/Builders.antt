-- What the builders of schemas hold, and what the constructors make.
use Rattle.std.specs.Prelude.{◌≡◌, false, List, [], ◌∷◌, None, Some, String, string_bytes, Vec, Box}
use Rattle.std.specs.BTreeMap.{BTreeMap}
use Rattle.std.specs.declared.alloc.Global.{Global}
use Rattle.serde_json.specs.declared.value.Value.{Value}
use Rattle.serde_json.specs.declared.value.Value.TheVariants as tree
use Rattle.utoipa_base.specs.declared.refs.Ref.{Ref}
use Rattle.utoipa_base.specs.declared.refs.RefOr.{RefOr}
use Rattle.utoipa_base.specs.declared.refs.RefOr.TheVariants as places
use Rattle.utoipa_schema_parts.specs.declared.types.SchemaType.{SchemaType}
use Rattle.utoipa_schema_parts.specs.declared.types.SchemaType.TheVariants as types
use Rattle.utoipa_schema_parts.specs.declared.types.TypeWord.{TypeWord}
use Rattle.utoipa_schema_parts.specs.declared.types.TypeWord.TheVariants as words
use Rattle.utoipa_schema.specs.declared.types.Schema.{Schema}
use Rattle.utoipa_schema.specs.declared.types.Schema.TheVariants as schemas
use Rattle.utoipa_schema.specs.declared.types.ArrayItems.{ArrayItems}
use Rattle.utoipa_schema.specs.declared.types.ArrayItems.TheVariants as items_made
use Rattle.utoipa_schema.specs.declared.types.Object.{Object}
use Rattle.utoipa_schema.specs.declared.types.Array.{Array}
use Rattle.utoipa_schema.specs.declared.types.OneOf.{OneOf}
use Rattle.utoipa_schema.specs.declared.types.AllOf.{AllOf}
use Rattle.utoipa_schema.specs.declared.types.AnyOf.{AnyOf}
use Rattle.utoipa_schema.specs.declared.object.ObjectBuilder.{ObjectBuilder}
use Rattle.utoipa_schema.specs.declared.array.ArrayBuilder.{ArrayBuilder}
use Rattle.utoipa_schema.specs.declared.one_of.OneOfBuilder.{OneOfBuilder}
use Rattle.utoipa_schema.specs.declared.all_of.AllOfBuilder.{AllOfBuilder}
use Rattle.utoipa_schema.specs.declared.any_of.AnyOfBuilder.{AnyOfBuilder}

-- texts, in their order
abbrev pub Texts : Type 0
Texts = Vec (String Global) Global

-- values, in their order
abbrev pub Values : Type 0
Values = Vec Value Global

-- schemas, in their order
abbrev pub Schemas : Type 0
Schemas = Vec Schema Global

-- schemas and references to such, in their order
abbrev pub Items : Type 0
Items = Vec (RefOr Schema) Global

-- the schemas of properties, by their names
abbrev pub Properties : Type 0
Properties = BTreeMap (String Global) (RefOr Schema)

-- the object of a builder so far
abbrev pub built_object : ObjectBuilder → Object
built_object b = b.object

-- the array of a builder so far
abbrev pub built_array : ArrayBuilder → Array
built_array b = b.array

-- the schema of a builder so far
abbrev pub built_one_of : OneOfBuilder → OneOf
built_one_of b = b.one_of

-- the schema of a builder so far
abbrev pub built_all_of : AllOfBuilder → AllOf
built_all_of b = b.all_of

-- the schema of a builder so far
abbrev pub built_any_of : AnyOfBuilder → AnyOf
built_any_of b = b.any_of

-- an object, where a reference could stand
abbrev pub object_place : Object → RefOr Schema
object_place o = places.T (schemas.Object o)

-- an array, where a reference could stand
abbrev pub array_place : Array → RefOr Schema
array_place a = places.T (schemas.Array a)

-- a schema with oneOf, where a reference could stand
abbrev pub one_of_place : OneOf → RefOr Schema
one_of_place o = places.T (schemas.OneOf o)

-- a schema with allOf, where a reference could stand
abbrev pub all_of_place : AllOf → RefOr Schema
all_of_place a = places.T (schemas.AllOf a)

-- a schema with anyOf, where a reference could stand
abbrev pub any_of_place : AnyOf → RefOr Schema
any_of_place a = places.T (schemas.AnyOf a)

-- a reference, where a schema could stand
abbrev pub reference_place : Ref → RefOr Schema
reference_place r = places.Ref r

-- the type of an object alone
abbrev pub one_object : SchemaType
one_object = types.Single words.Object

-- the type of an array alone
abbrev pub one_array : SchemaType
one_array = types.Single words.Array

-- the type of any value
abbrev pub any_value : SchemaType
any_value = types.AnyValue

-- the object is of these types, and nothing else is said of it
abbrev pub IsEmptyObject : SchemaType → Object → Type 0
IsEmptyObject t o =
    (o.schema_type ≡ t)
    × (o.title ≡ None)
    × (o.format ≡ None)
    × (o.description ≡ None)
    × (o.default ≡ None)
    × (o.enum_values ≡ None)
    × (o.required.items ≡ [])
    × (o.properties.entries ≡ [])
    × (o.additional_properties ≡ None)
    × (o.property_names ≡ None)
    × (o.deprecated ≡ None)
    × (o.example ≡ None)
    × (o.examples.items ≡ [])
    × (o.write_only ≡ None)
    × (o.read_only ≡ None)
    × (o.xml ≡ None)
    × (o.multiple_of ≡ None)
    × (o.maximum ≡ None)
    × (o.minimum ≡ None)
    × (o.exclusive_maximum ≡ None)
    × (o.exclusive_minimum ≡ None)
    × (o.max_length ≡ None)
    × (o.min_length ≡ None)
    × (o.pattern ≡ None)
    × (o.max_properties ≡ None)
    × (o.min_properties ≡ None)
    × (string_bytes o.content_encoding ≡ [])
    × (string_bytes o.content_media_type ≡ [])
    × (o.content_schema ≡ None)
    × (o.extensions ≡ None)

-- the schema is of any value, its default is null, and nothing else is said
abbrev pub IsEmptySchema : Schema → Type 0
IsEmptySchema s = (o : Object) × IsEmptyObject any_value o × (s ≡ schemas.Object (record o { default = Some tree.Null }))

-- the array is of these types, with these items, and nothing else is said of it
abbrev pub IsArrayWith : SchemaType → ArrayItems → Array → Type 0
IsArrayWith t i a =
    (a.schema_type ≡ t)
    × (a.title ≡ None)
    × (a.items ≡ i)
    × (a.prefix_items.items ≡ [])
    × (a.description ≡ None)
    × (a.deprecated ≡ None)
    × (a.example ≡ None)
    × (a.examples.items ≡ [])
    × (a.default ≡ None)
    × (a.max_items ≡ None)
    × (a.min_items ≡ None)
    × (a.unique_items ≡ false)
    × (a.xml ≡ None)
    × (string_bytes a.content_encoding ≡ [])
    × (string_bytes a.content_media_type ≡ [])
    × (a.content_schema ≡ None)
    × (a.extensions ≡ None)

-- the items are of this schema
abbrev pub IsItemsOf : RefOr Schema → ArrayItems → Type 0
IsItemsOf schema i = (boxed : Box (RefOr Schema) Global) × (boxed.value ≡ schema) × (i ≡ items_made.RefOrSchema boxed)

-- the array is of these types, its items are of this schema, and nothing else is said of it
abbrev pub IsArrayOf : SchemaType → RefOr Schema → Array → Type 0
IsArrayOf t schema a = (i : ArrayItems) × IsItemsOf schema i × IsArrayWith t i a

-- the type words of an array and of null
abbrev pub array_and_null : List TypeWord
array_and_null = words.Array ∷ words.Null ∷ []

-- the types are these words
abbrev pub IsTypesOf : List TypeWord → SchemaType → Type 0
IsTypesOf listed t = (held : Vec TypeWord Global) × (held.items ≡ listed) × (t ≡ types.Array held)

-- the value is an array or null, the items of the array are of this schema, and nothing else is said of it
abbrev pub IsNullableArrayOf : RefOr Schema → Array → Type 0
IsNullableArrayOf schema a = (t : SchemaType) × IsTypesOf array_and_null t × IsArrayOf t schema a

-- the combination is of no schema, and nothing else is said
abbrev pub IsEmptyOneOf : OneOf → Type 0
IsEmptyOneOf c =
    (c.items.items ≡ [])
    × (c.schema_type ≡ any_value)
    × (c.title ≡ None)
    × (c.description ≡ None)
    × (c.default ≡ None)
    × (c.example ≡ None)
    × (c.examples.items ≡ [])
    × (c.discriminator ≡ None)
    × (c.read_only ≡ None)
    × (c.write_only ≡ None)
    × (c.extensions ≡ None)

-- the combination is of no schema, and nothing else is said
abbrev pub IsEmptyAllOf : AllOf → Type 0
IsEmptyAllOf c =
    (c.items.items ≡ [])
    × (c.schema_type ≡ any_value)
    × (c.title ≡ None)
    × (c.description ≡ None)
    × (c.default ≡ None)
    × (c.example ≡ None)
    × (c.examples.items ≡ [])
    × (c.discriminator ≡ None)
    × (c.extensions ≡ None)

-- the combination is of no schema, and nothing else is said
abbrev pub IsEmptyAnyOf : AnyOf → Type 0
IsEmptyAnyOf c =
    (c.items.items ≡ [])
    × (c.schema_type ≡ any_value)
    × (c.description ≡ None)
    × (c.default ≡ None)
    × (c.example ≡ None)
    × (c.examples.items ≡ [])
    × (c.discriminator ≡ None)
    × (c.extensions ≡ None)
