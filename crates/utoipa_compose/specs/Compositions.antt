-- What types are composed to: the schema of a type's values, by the schemas that stand for those of its parameters.
use Rattle.std.specs.Prelude.{◌≡◌, ◌++◌, ℕ, List, Option, None, Some, option_map, map, String, Vec}
use Rattle.std.specs.List.{slice_get}
use Rattle.std.specs.Option.{option_or}
use Rattle.std.specs.declared.alloc.Global.{Global}
use Rattle.utoipa_base.specs.Docs.{Doc, own_doc}
use Rattle.utoipa_base.specs.Kinds.{schema as schema_kind}
use Rattle.utoipa_base.specs.Refs.{ref_or_doc}
use Rattle.utoipa_base.specs.Views.{pairs_of}
use Rattle.utoipa_base.specs.declared.refs.RefOr.{RefOr}
use Rattle.utoipa_schema.specs.Builders.{Items}
use Rattle.utoipa_schema.specs.Docs.{schema_doc}
use Rattle.utoipa_schema.specs.declared.types.Schema.{Schema}
use Rattle.utoipa_compose.specs.Made.{nullable, listed, unique, mapped}

-- ---- documents

-- a schema or a reference to one, as a document
abbrev pub place_doc : RefOr Schema → Doc
place_doc = ref_or_doc schema_kind schema_doc

-- the documents of schemas and references, in their order
abbrev pub place_docs : Items → List Doc
place_docs schemas = map place_doc schemas.items

-- documents of schemas, each with its name
abbrev pub Named : Type 0
Named = List (List ℕ × Doc)

-- schemas and references, each with its name
abbrev pub NamedPlaces : Type 0
NamedPlaces = Vec (String Global × RefOr Schema) Global

-- behind what the list held stand the schemas, each with its name
abbrev pub AreAppended : Named → (before after : NamedPlaces) → Type 0
AreAppended named before after =
    (added : List (String Global × RefOr Schema)) × (after.items ≡ before.items ++ added) × (pairs_of place_doc added ≡ named)

-- ---- compositions

-- the schema of a type by the schemas that stand for those of its parameters; none where the keys of a map have a reference for theirs
abbrev pub Composition : Type 0
Composition = List Doc → Option Doc

-- a type without parameters
abbrev pub always : Doc → Composition
always schema given = Some schema

-- the schema that stands for the parameter, or what that is composed to where none does
abbrev pub part : (index : ℕ) → Composition → Composition
part index composed given = option_or (slice_get given index) (composed given)

-- a value that holds one of the parameter, as a box does
abbrev pub same_as : Composition → Composition
same_as composed = part 0 composed

-- a value that may be absent
abbrev pub option_composed : Composition → Composition
option_composed composed given = option_map nullable (part 0 composed given)

-- a list
abbrev pub list_composed : Composition → Composition
list_composed composed given = option_map listed (part 0 composed given)

-- a set
abbrev pub set_composed : Composition → Composition
set_composed composed given = option_map unique (part 0 composed given)

-- the schema that stands in its place; none where a reference does
abbrev pub own_schema : Option Doc → Option Doc
own_schema None = None
own_schema (Some (own_doc schema)) = Some schema
own_schema (Some reference) = None

-- the schema of a map by those of its keys and its values, where there are both
abbrev pub map_by : (keys values : Option Doc) → Option Doc
map_by (Some keys) (Some values) = Some (mapped keys values)
map_by keys values = None

-- a map
abbrev pub map_composed : (keys values : Composition) → Composition
map_composed keys values given = map_by (own_schema (part 0 keys given)) (part 1 values given)
