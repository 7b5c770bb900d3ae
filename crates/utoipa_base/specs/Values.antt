-- How many values a tree has, and how many schemas a document.
use Rattle.std.specs.Str.{bytes_eq}
use Rattle.std.specs.List.{list_any}
use Rattle.std.specs.Prelude.{ℕ, ◌+◌, ◌&&◌, not, List, [], ◌∷◌, Bool, true, false, Option, None, Some}
use Rattle.serde_json.specs.Data.{Data, null, boolean, number, string, array, object, Items, no_items, item, Members, no_members, member}
use Rattle.serde_json.specs.Find.{get}
use Rattle.utoipa_base.specs.Kinds.{Kind, schema}
use Rattle.utoipa_base.specs.Docs.{Doc, text_doc, flag_doc, whole_doc, int_doc, uint_doc, tree_doc, word_doc, custom_doc, types_doc, any_value_doc, none_doc, some_doc, ref_doc, own_doc, schema_doc, tagged_doc, flow_doc, list_doc, map_doc, ordered_map_doc, entries_doc, table_doc, Docs, no_docs, doc, Entries, no_entries, entry}

-- ---- the values of a tree: one for itself, and those of its elements or members

unfoldable mutual
  pub values : Data → ℕ
  values null = 1
  values (boolean b) = 1
  values (number n) = 1
  values (string s) = 1
  values (array ds) = 1 + items_values ds
  values (object ms) = 1 + members_values ms

  pub items_values : Items → ℕ
  items_values no_items = 0
  items_values (item d ds) = values d + items_values ds

  pub members_values : Members → ℕ
  members_values no_members = 0
  members_values (member k d ms) = values d + members_values ms

-- the values of a member, if it is there
unfoldable pub values_of : Option Data → ℕ
values_of None = 0
values_of (Some d) = values d

abbrev pub values_at : List ℕ → Data → ℕ
values_at name d = values_of (get name d)

-- the values of the members under some names
abbrev pub names_values : List (List ℕ) → Data → ℕ
names_values [] d = 0
names_values (n ∷ ns) d = values_of (get n d) + names_values ns d

abbrev pub is_one_of : List ℕ → List (List ℕ) → Bool
is_one_of name names = list_any (bytes_eq name) names

-- whether no name stands twice
abbrev pub are_distinct : List (List ℕ) → Bool
are_distinct [] = true
are_distinct (n ∷ ns) = not (is_one_of n ns) && are_distinct ns

-- ---- the schema places of a document: schemas, and references in the place of one

-- how many schema places a reference is, in the place of a kind
abbrev pub reference_schema_count : Kind → ℕ
reference_schema_count schema = 1
reference_schema_count k = 0

unfoldable mutual
  pub schema_count : Doc → ℕ
  schema_count (text_doc s) = 0
  schema_count (flag_doc b) = 0
  schema_count (whole_doc n) = 0
  schema_count (int_doc z) = 0
  schema_count (uint_doc n) = 0
  schema_count (tree_doc d) = 0
  schema_count (word_doc s) = 0
  schema_count (custom_doc s) = 0
  schema_count (types_doc d) = 0
  schema_count any_value_doc = 0
  schema_count none_doc = 0
  schema_count (some_doc d) = schema_count d
  schema_count (ref_doc k d) = reference_schema_count k
  schema_count (own_doc d) = schema_count d
  schema_count (schema_doc d) = 1 + schema_count d
  schema_count (tagged_doc name word d) = schema_count d
  schema_count (flow_doc d) = schema_count d
  schema_count (list_doc ds) = docs_schema_count ds
  schema_count (map_doc es) = entries_schema_count es
  schema_count (ordered_map_doc es) = entries_schema_count es
  schema_count (entries_doc es e) = entries_schema_count es
  schema_count (table_doc n ds e) = docs_schema_count ds

  pub docs_schema_count : Docs → ℕ
  docs_schema_count no_docs = 0
  docs_schema_count (doc d ds) = schema_count d + docs_schema_count ds

  pub entries_schema_count : Entries → ℕ
  entries_schema_count no_entries = 0
  entries_schema_count (entry k d es) = schema_count d + entries_schema_count es

-- whether a place of the kind is a schema's
abbrev pub is_schema : Kind → Bool
is_schema schema = true
is_schema k = false
