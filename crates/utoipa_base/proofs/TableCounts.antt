-- A table counts the schemas of those rows that may hold any.
use Rattle.std.proofs.Common.{◌≡◌, ◌+◌, ℕ, List, [], ◌∷◌, Bool, true, false, Option, if◌then◌else◌, refl, arith}
use Rattle.serde_json.specs.Data.{Members}
use Rattle.utoipa_base.specs.Docs.{Doc, table_doc, Docs, no_docs, doc}
use Rattle.utoipa_base.specs.Kinds.{ObjectType, named, Row}
use Rattle.utoipa_base.specs.Shape.{IsOf, RowsOf, field_place, value_of}
use Rattle.utoipa_base.specs.Tables.{table}
use Rattle.utoipa_base.specs.Values.{schema_count, docs_schema_count}
use Rattle.utoipa_base.proofs.WithoutSchemas.{holds_no_schema, rows_count_none}

-- the schemas of the fields of those rows that may hold any
abbrev pub rows_schema_count : Docs → List Row → ℕ
rows_schema_count no_docs rs = 0
rows_schema_count (doc d ds) [] = 0
rows_schema_count (doc d ds) (r ∷ rs) = (if holds_no_schema r.kind then 0 else schema_count d) + rows_schema_count ds rs

field_counts : (b : Bool) (d : Doc) (r : Row) → holds_no_schema r.kind ≡ b → IsOf d (field_place r.mark r.kind) → docs_schema_count (doc d no_docs) ≡ (if b then 0 else schema_count d)
unfolding docs_schema_count RowsOf
field_counts true d r h i = rows_count_none (doc d no_docs) (r ∷ []) (rw h refl) (i, tt)
field_counts false d r h i = omega arith

-- other fields count none
rows_count : (ds : Docs) (rs : List Row) → RowsOf ds rs → docs_schema_count ds ≡ rows_schema_count ds rs
unfolding docs_schema_count RowsOf
rows_count no_docs rs h = refl
rows_count (doc d ds) [] h = absurd h
rows_count (doc d ds) (r ∷ rs) h = omega (arith, field_counts (holds_no_schema r.kind) d r refl h.0, rows_count ds rs h.1)

-- an object of a type counts those of its table's rows
pub table_counts : (n : ObjectType) (ds : Docs) (e : Option Members) → IsOf (table_doc n ds e) (value_of (named n)) → schema_count (table_doc n ds e) ≡ rows_schema_count ds (table n)
unfolding schema_count IsOf
table_counts n ds e h = rows_count ds (table n) h.1
