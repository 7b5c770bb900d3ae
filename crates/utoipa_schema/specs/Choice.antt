-- What decides which alternative of a schema a tree is.
use Rattle.std.specs.Prelude.{◌≡◌, Bool, not, ◌||◌, is_some, codes, Option, Some, None, Box}
use Rattle.std.specs.List.{list_any}
use Rattle.std.specs.declared.alloc.Global.{Global}
use Rattle.serde_json.specs.Data.{Data}
use Rattle.serde_json.specs.Find.{get}
use Rattle.utoipa_base.specs.Choices.{schema_keywords}
use Rattle.utoipa_base.specs.Docs.{Doc}
use Rattle.utoipa_base.specs.Fields.{field}
use Rattle.utoipa_base.specs.Kinds.{schema, ref_or, named, one_of_schema, all_of_schema, any_of_schema, optional, Row}
use Rattle.utoipa_base.specs.Reading.{read}
use Rattle.utoipa_base.specs.Refs.{ref_or_doc}
use Rattle.utoipa_base.specs.Tables.{row}
use Rattle.utoipa_base.specs.Views.{boxed, option_of}
use Rattle.utoipa_base.specs.declared.refs.RefOr.{RefOr}
use Rattle.utoipa_schema.specs.Docs.{schema_doc}
use Rattle.utoipa_schema.specs.declared.types.Schema.{Schema}

-- whether a tree that is no combination and no array may be an object: it names `type`, or none of the schema keywords
abbrev pub may_be_object : Data → Bool
may_be_object d = is_some (get (codes "type") d) || not (list_any (λ name. is_some (get name d)) schema_keywords)

-- a tree that is no combination
abbrev pub IsNoCombination : Data → Type 0
IsNoCombination d = (read (named one_of_schema) d ≡ None) × (read (named all_of_schema) d ≡ None) × (read (named any_of_schema) d ≡ None)

-- ---- the schema of a text's content, which arrays and objects both may have

abbrev pub ContentSchema : Type 0
ContentSchema = Option (Box (RefOr Schema) Global)

abbrev pub content_schema_doc : ContentSchema → Doc
content_schema_doc = option_of (boxed (ref_or_doc schema schema_doc))

abbrev pub content_schema_row : Row
content_schema_row = row (codes "contentSchema") optional (ref_or schema)

-- the tree has this content schema
abbrev pub HasContent : Data → ContentSchema → Type 0
HasContent d content = field content_schema_row d ≡ Some (content_schema_doc content)
