-- The schemas that a program's own types have most, as documents.
use Rattle.std.specs.Prelude.{ℕ, List, [], ◌∷◌, ◌++◌, if◌then◌else◌, not, filter, map, codes, string_bytes}
use Rattle.std.specs.BTreeMap.{insert_entry}
use Rattle.std.specs.Cmp.Lexicographic.{slice_cmp}
use Rattle.std.specs.Ordering.{nat_cmp}
use Rattle.std.specs.Str.{bytes_eq}
use Rattle.serde_json.specs.Data.{string}
use Rattle.utoipa_base.specs.Docs.{Doc, text_doc, tree_doc, list_doc, some_doc, own_doc, ref_doc, docs_of}
use Rattle.utoipa_base.specs.Docs as docs
use Rattle.utoipa_base.specs.Kinds.{schema as schema_kind}
use Rattle.utoipa_base.specs.References.{schema_location}
use Rattle.utoipa_base.specs.Values.{is_one_of}
use Rattle.utoipa_base.specs.Views.{pairs_of}
use Rattle.utoipa_compose.specs.Compositions.{place_doc}
use Rattle.utoipa_compose.specs.Made.{text}
use Rattle.utoipa_merging.specs.Slots.{in_field}
use Rattle.utoipa_operation_parts.specs.Described.{bare_reference}
use Rattle.utoipa.specs.declared.own_schemas.Fields.{Fields}

-- ---- a schema of which more is said

-- a schema, and no reference to one, with the member of this name so
abbrev pub with_member : (name : List ℕ) → (member : Doc) → Doc → Doc
with_member name member (own_doc (docs.schema_doc schema)) = own_doc (docs.schema_doc (in_field name (λ _. member) schema))
with_member name member schema = schema

-- the schema with this description
abbrev pub described_as : (description : List ℕ) → Doc → Doc
described_as description = with_member (codes "description") (some_doc (text_doc description))

-- ---- schemas that recur

-- a reference to the schema of this name in the components
abbrev pub schema_ref : (name : List ℕ) → Doc
schema_ref name = ref_doc schema_kind (bare_reference (schema_location name))

-- a text as a tree
abbrev pub text_tree : List ℕ → Doc
text_tree t = tree_doc (string t)

-- one of these texts
abbrev pub text_among : List (List ℕ) → Doc
text_among texts = with_member (codes "enum") (some_doc (list_doc (docs_of (map text_tree texts)))) text

-- ---- the fields of a struct

-- the names with this one among them: at the end, unless it is there already
abbrev pub with_name : (name : List ℕ) → List (List ℕ) → List (List ℕ)
with_name name names = if is_one_of name names then names else names ++ name ∷ []

-- the names without this one
abbrev pub without_name : (name : List ℕ) → List (List ℕ) → List (List ℕ)
without_name name names = filter (λ n. not (bytes_eq name n)) names

-- the names of those that have to be there, in the order in which they were put
abbrev pub required_names : Fields → List (List ℕ)
required_names f = map string_bytes f.required.items

-- the schemas of all, by their names
abbrev pub field_schemas : Fields → List (List ℕ × Doc)
field_schemas f = pairs_of place_doc f.properties.entries

-- the schemas, with one put under a name, in place of an earlier one of that name
abbrev pub with_field : (name : List ℕ) → Doc → List (List ℕ × Doc) → List (List ℕ × Doc)
with_field name schema fields = insert_entry (slice_cmp nat_cmp) fields name schema
