-- A schema has no more schema places than one and those of its members that hold schemas.
use Rattle.std.proofs.Common.{◌≡◌, ◌∙◌, ◌≤◌, ◌+◌, ℕ, ap, None, Option, Box, Vec, Global, String, BTreeMap, arith}
use Rattle.utoipa_base.specs.Kinds.{schema}
use Rattle.utoipa_base.specs.Refs.{ref_or_doc}
use Rattle.utoipa_base.specs.Values.{schema_count}
use Rattle.utoipa_base.specs.Views.{boxed, option_of, list_of_docs, map_of_docs}
use Rattle.utoipa_base.specs.declared.refs.RefOr.{RefOr}
use Rattle.utoipa_base.proofs.Places.{schema_count-none}
use Rattle.utoipa_schema.specs.Choice.{ContentSchema, content_schema_doc}
use Rattle.utoipa_schema.specs.Docs.{schema_doc, array_items_doc, additional_properties_doc, array_doc, object_doc}
use Rattle.utoipa_schema.specs.Folds.{schema-Array, schema-Object}
use Rattle.utoipa_schema.specs.declared.types.AdditionalProperties.{AdditionalProperties}
use Rattle.utoipa_schema.specs.declared.types.Array.{Array}
use Rattle.utoipa_schema.specs.declared.types.ArrayItems.{ArrayItems}
use Rattle.utoipa_schema.specs.declared.types.Object.{Object}
use Rattle.utoipa_schema.specs.declared.types.Schema.{Schema}
use Rattle.utoipa_schema.specs.declared.types.Schema as schemas
use Rattle.utoipa_schema.proofs.MemberCounts.{array_counts, object_counts}
use Rattle.utoipa_schema.proofs.SchemaCounts.{counts_one, array_content_counts, object_content_counts}

-- an array and an object without a content schema
pub array_kept : (a : Array) (items : ArrayItems) (prefix : Vec Schema Global) (m n : ℕ) → (a.items ≡ items) × (a.prefix_items ≡ prefix) × (a.content_schema ≡ None)
    → schema_count (array_items_doc items) ≤ m → schema_count (list_of_docs schema_doc prefix) ≤ n → schema_count (array_doc a) ≤ m + n
array_kept a items prefix m n k first second =
    let one = ap (λ i. schema_count (array_items_doc i)) k.0 in
    let two = ap (λ v. schema_count (list_of_docs schema_doc v)) k.1 in
    let none : schema_count (content_schema_doc a.content_schema) ≡ 0 = ap (λ c. schema_count (content_schema_doc c)) k.2 ∙ schema_count-none in
    omega (arith, array_counts a, one, two, none, first, second)

pub object_kept : (o : Object) (properties : BTreeMap (String Global) (RefOr Schema)) (additional : Option (Box (AdditionalProperties Schema) Global)) (names : Option (Box Schema Global)) (l m n : ℕ)
    → (o.properties ≡ properties) × (o.additional_properties ≡ additional) × (o.property_names ≡ names) × (o.content_schema ≡ None)
    → schema_count (map_of_docs (ref_or_doc schema schema_doc) properties) ≤ l → schema_count (option_of (boxed (additional_properties_doc schema_doc)) additional) ≤ m → schema_count (option_of (boxed schema_doc) names) ≤ n
    → schema_count (object_doc o) ≤ l + (m + n)
object_kept o properties additional names l m n k first second third =
    let one = ap (λ p. schema_count (map_of_docs (ref_or_doc schema schema_doc) p)) k.0 in
    let two = ap (λ q. schema_count (option_of (boxed (additional_properties_doc schema_doc)) q)) k.1 in
    let three = ap (λ q. schema_count (option_of (boxed schema_doc) q)) k.2 in
    let none : schema_count (content_schema_doc o.content_schema) ≡ 0 = ap (λ c. schema_count (content_schema_doc c)) k.3 ∙ schema_count-none in
    omega (arith, object_counts o, one, two, three, none, first, second, third)

-- and with one
pub single_array : (a : Array) (content : ContentSchema) (n : ℕ) → a.content_schema ≡ None → schema_count (array_doc a) ≤ n
    → schema_count (schema_doc (schemas.Array (record a { content_schema = content }))) ≤ 1 + (n + schema_count (content_schema_doc content))
single_array a content n none counted =
    omega (arith, counted, array_content_counts a content none, ap schema_count (schema-Array (record a { content_schema = content })), counts_one (array_doc (record a { content_schema = content })))

pub single_object : (o : Object) (content : ContentSchema) (n : ℕ) → o.content_schema ≡ None → schema_count (object_doc o) ≤ n
    → schema_count (schema_doc (schemas.Object (record o { content_schema = content }))) ≤ 1 + (n + schema_count (content_schema_doc content))
single_object o content n none counted =
    omega (arith, counted, object_content_counts o content none, ap schema_count (schema-Object (record o { content_schema = content })), counts_one (object_doc (record o { content_schema = content })))
