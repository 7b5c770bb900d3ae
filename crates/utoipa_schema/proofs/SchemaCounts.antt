-- The schema places of schemas, and what a content schema that does not fit refuses.
use Rattle.std.proofs.Common.{◌∙◌, ap, ◌≡◌, ◌+◌, None, arith}
use Rattle.serde_json.specs.Data.{Data}
use Rattle.utoipa_base.specs.Docs.{Doc}
use Rattle.utoipa_base.specs.Docs as docs
use Rattle.utoipa_base.specs.Fields.{field}
use Rattle.utoipa_base.specs.Kinds.{named, array_schema, object_schema}
use Rattle.utoipa_base.specs.Reading.{read}
use Rattle.utoipa_base.specs.Values.{schema_count}
use Rattle.utoipa_base.proofs.ByRows.{table_refused, fields-first, fields-later}
use Rattle.utoipa_base.proofs.Places.{schema_count-none}
use Rattle.utoipa_base.proofs.TableParts.{join-later}
use Rattle.utoipa_schema.specs.Choice.{content_schema_row, ContentSchema, content_schema_doc}
use Rattle.utoipa_schema.specs.Docs.{array_doc, object_doc}
use Rattle.utoipa_schema.proofs.MemberCounts.{array_counts, object_counts}
use Rattle.utoipa_schema.specs.declared.types.Array.{Array}
use Rattle.utoipa_schema.specs.declared.types.Object.{Object}
use Rattle.utoipa_schema.specs.Parts.{text_content_rows}

-- a schema is one schema more than its table has
pub counts_one : (d : Doc) → schema_count (docs.schema_doc d) ≡ 1 + schema_count d
unfolding schema_count
counts_one d = omega arith

-- a tree whose content schema does not fit is no array
pub no_array : (d : Data) → field content_schema_row d ≡ None → read (named array_schema) d ≡ None
no_array d e = table_refused array_schema d (join-later text_content_rows _ d (fields-first _ _ d e))

-- nor an object
pub no_object_table : (d : Data) → field content_schema_row d ≡ None → read (named object_schema) d ≡ None
no_object_table d e = table_refused object_schema d (fields-later _ _ d (join-later text_content_rows _ d (fields-first _ _ d e)))

-- ---- an array and an object, with a content schema that was read before

pub array_content_counts : (a : Array) (content : ContentSchema) → a.content_schema ≡ None → schema_count (array_doc (record a { content_schema = content })) ≡ schema_count (array_doc a) + schema_count (content_schema_doc content)
array_content_counts a content none =
    let without : schema_count (content_schema_doc a.content_schema) ≡ 0 = ap (λ c. schema_count (content_schema_doc c)) none ∙ schema_count-none in
    omega (arith, array_counts (record a { content_schema = content }), array_counts a, without)

pub object_content_counts : (o : Object) (content : ContentSchema) → o.content_schema ≡ None → schema_count (object_doc (record o { content_schema = content })) ≡ schema_count (object_doc o) + schema_count (content_schema_doc content)
object_content_counts o content none =
    let without : schema_count (content_schema_doc o.content_schema) ≡ 0 = ap (λ c. schema_count (content_schema_doc c)) none ∙ schema_count-none in
    omega (arith, object_counts (record o { content_schema = content }), object_counts o, without)
