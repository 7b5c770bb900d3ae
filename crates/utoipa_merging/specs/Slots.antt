-- The slots that an OpenAPI document is taken apart into where documents are merged: what stands under one name, or the parts that
-- stay together.
use Rattle.std.specs.Prelude.{ℕ, List, [], ◌∷◌, Bool, Option, None, Some, option_and_then, if◌then◌else◌, map, codes}
use Rattle.std.specs.Option.{is_some}
use Rattle.std.specs.Str.{bytes_eq}
use Rattle.std.specs.Ordering.{nat_cmp}
use Rattle.std.specs.Cmp.Lexicographic.{slice_cmp}
use Rattle.std.specs.Map.{lookup}
use Rattle.std.specs.BTreeMap.{is_at}
use Rattle.serde_json.specs.Data.{Data, Members}
use Rattle.serde_json.specs.Find.{get_member}
use Rattle.utoipa_base.specs.Kinds.{Row}
use Rattle.utoipa_base.specs.Docs.{Doc, some_doc, list_doc, map_doc, entries_doc, table_doc, Docs, no_docs, doc, Entries, no_entries, entry, entries_of_list}
use Rattle.utoipa_base.specs.Extensions.{members_or_none}
-- the field of an object by the name of its member
pub use Rattle.utoipa_base.specs.Members.{field_at, row_field, first_doc, rest_docs}
use Rattle.utoipa_base.specs.Tables.{table}

-- ---- looking into a document. What is looked for in a field that may be absent is looked for in what it holds

-- the first row of this name changed
abbrev pub change_row : List ℕ → (Doc → Doc) → List Row → Docs → Docs
change_row name change [] ds = ds
change_row name change (r ∷ rs) no_docs = no_docs
change_row name change (r ∷ rs) (doc d ds) = if bytes_eq name r.name then doc (change d) ds else doc d (change_row name change rs ds)

-- an object, with the field of this member changed
abbrev pub in_field : List ℕ → (Doc → Doc) → Doc → Doc
in_field name change (table_doc n ds e) = table_doc n (change_row name change (table n) ds) e
in_field name change d = d

-- the extensions of an object
abbrev pub extensions_in : Doc → Option Members
extensions_in (some_doc d) = extensions_in d
extensions_in (table_doc n ds e) = e
extensions_in (entries_doc es e) = e
extensions_in d = None

-- what a field holds, if it is there
abbrev pub held : Doc → Option Doc
held (some_doc d) = Some d
held d = None

-- documents as a list
abbrev pub list_in : Docs → List Doc
list_in no_docs = []
list_in (doc d ds) = d ∷ list_in ds

-- the items of a list, none where it is absent
abbrev pub items_in : Doc → List Doc
items_in (some_doc d) = items_in d
items_in (list_doc ds) = list_in ds
items_in d = []

-- entries as a list of names with documents
abbrev pub pairs_in : Entries → List (List ℕ × Doc)
pairs_in no_entries = []
pairs_in (entry name d es) = (name, d) ∷ pairs_in es

-- the entries of a map, or of an object whose members are entries
abbrev pub entries_in : Doc → List (List ℕ × Doc)
entries_in (some_doc d) = entries_in d
entries_in (map_doc es) = pairs_in es
entries_in (entries_doc es e) = pairs_in es
entries_in d = []

-- the entry of this name, the first where there are more
abbrev pub entry_at : List ℕ → Doc → Option Doc
entry_at name d = lookup (is_at (slice_cmp nat_cmp name)) (entries_in d)

-- these members under their names, and the extensions, as one slot
abbrev pub parts : List (List ℕ) → Doc → Doc
parts names d = entries_doc (entries_of_list (map (λ name. (name, field_at name d)) names)) (extensions_in d)

-- ---- the members of each slot

-- the members of an OpenAPI Object (section 4.8.1) that stay together, and are the first document's
abbrev pub fixed_members : List (List ℕ)
fixed_members = codes "openapi" ∷ codes "info" ∷ codes "webhooks" ∷ codes "externalDocs" ∷ codes "jsonSchemaDialect" ∷ codes "$schema" ∷ codes "$self" ∷ []

-- the members of a Path Item Object (section 4.8.9) that are no operations, and stay together
abbrev pub base_members : List (List ℕ)
base_members = codes "$ref" ∷ codes "summary" ∷ codes "description" ∷ codes "servers" ∷ codes "parameters" ∷ []

-- the lists of an OpenAPI Object whose entries are joined
pub data Joined : Type 0 where
  servers_joined security_joined tags_joined : Joined

abbrev pub joined_member : Joined → List ℕ
joined_member servers_joined = codes "servers"
joined_member security_joined = codes "security"
joined_member tags_joined = codes "tags"

-- the operations of a path item that have a member of their own; `query` from 3.2
pub data Method : Type 0 where
  get_method put_method post_method delete_method options_method head_method patch_method trace_method query_method : Method

abbrev pub method_member : Method → List ℕ
method_member get_method = codes "get"
method_member put_method = codes "put"
method_member post_method = codes "post"
method_member delete_method = codes "delete"
method_member options_method = codes "options"
method_member head_method = codes "head"
method_member patch_method = codes "patch"
method_member trace_method = codes "trace"
method_member query_method = codes "query"

-- the maps of a Components Object (section 4.8.7); `mediaTypes` from 3.2
pub data ComponentMap : Type 0 where
  schema_map response_map parameter_map example_map request_body_map header_map link_map callback_map path_item_map media_type_map security_scheme_map : ComponentMap

abbrev pub map_member : ComponentMap → List ℕ
map_member schema_map = codes "schemas"
map_member response_map = codes "responses"
map_member parameter_map = codes "parameters"
map_member example_map = codes "examples"
map_member request_body_map = codes "requestBodies"
map_member header_map = codes "headers"
map_member link_map = codes "links"
map_member callback_map = codes "callbacks"
map_member path_item_map = codes "pathItems"
map_member media_type_map = codes "mediaTypes"
map_member security_scheme_map = codes "securitySchemes"

-- ---- the slots of a path item

pub data ItemSlot : Type 0 where
  -- the members that are no operations, and the extensions: each item has them
  base : ItemSlot
  operation : Method → ItemSlot
  -- the operation under this name in `additionalOperations`, from 3.2
  additional : (name : List ℕ) → ItemSlot

-- what an item has in a slot
abbrev pub item_slot : ItemSlot → Doc → Option Doc
item_slot base item = Some (parts base_members item)
item_slot (operation m) item = held (field_at (method_member m) item)
item_slot (additional name) item = entry_at name (field_at (codes "additionalOperations") item)

-- ---- the slots of a Paths Object (section 4.8.8)

-- what the item at a path has in a slot, nothing where there is no item
abbrev pub path_slot : (path : List ℕ) → ItemSlot → Doc → Option Doc
path_slot path s paths = option_and_then (item_slot s) (entry_at path paths)

-- whether extensions are there, also empty ones
abbrev pub has_extensions : Doc → Bool
has_extensions d = is_some (extensions_in d)

-- the value of the extension of this name
abbrev pub extension_at : List ℕ → Doc → Option Data
extension_at name d = get_member name (members_or_none (extensions_in d))

-- ---- the slots of components

-- the component of this name in a map
abbrev pub component_at : ComponentMap → (name : List ℕ) → Doc → Option Doc
component_at m name components = entry_at name (field_at (map_member m) components)

-- ---- the parts of an OpenAPI Object that have slots of their own

-- whether a field that may be absent is there
abbrev pub is_there : Doc → Bool
is_there d = is_some (held d)

abbrev pub joined_of : Joined → Doc → Doc
joined_of j d = field_at (joined_member j) d

abbrev pub paths_of : Doc → Doc
paths_of d = field_at (codes "paths") d

abbrev pub components_of : Doc → Doc
components_of d = field_at (codes "components") d
