-- What is dropped where OpenAPI documents are merged. A slot is a place of a document that one of the documents decides, the first or the
-- last that has the slot's holder: what that document has there is kept, and what another has there, if it is another value, is dropped.
use Rattle.std.specs.Prelude.{ℕ, suc, List, [], ◌∷◌, ◌++◌, ◌==◌, Bool, ◌||◌, if◌then◌else◌, Option, None, Some, is_some, map, codes}
use Rattle.std.specs.List.{list_any, flat_map}
use Rattle.std.specs.Str.{bytes_eq}
use Rattle.serde_json.specs.Data.{Data}
use Rattle.utoipa_base.specs.Extensions.{is_extension}
use Rattle.utoipa_base.specs.EachMember.{each_member}
use Rattle.utoipa_check.specs.Misfits.{at_name}
use Rattle.utoipa_check.specs.Places.{members_at}
use Rattle.utoipa_merging.specs.Rules.{first_of, last_of}
use Rattle.utoipa_conflicts.specs.Same.{is_value}
use Rattle.utoipa_conflicts.specs.Trees.{Place, at_place}

-- ---- names

-- the members of an OpenAPI Object (section 4.8.1) whose lists are joined, so that no document decides them
abbrev pub joined_members : List (List ℕ)
joined_members = codes "servers" ∷ codes "security" ∷ codes "tags" ∷ []

-- the members of a Path Item Object (section 4.8.9) that are operations; `query` from 3.2
abbrev pub methods : List (List ℕ)
methods =
    codes "get"
    ∷ codes "put"
    ∷ codes "post"
    ∷ codes "delete"
    ∷ codes "options"
    ∷ codes "head"
    ∷ codes "patch"
    ∷ codes "trace"
    ∷ codes "query" ∷ []

abbrev pub is_joined : List ℕ → Bool
is_joined name = list_any (bytes_eq name) joined_members

abbrev pub is_method : List ℕ → Bool
is_method name = list_any (bytes_eq name) methods

-- ---- holders

-- what a document has to have so that it may decide slots
pub data Holder : Type 0 where
  -- the document itself
  document : Holder
  -- the entry of this name in a map of components (section 4.8.7)
  component : (kind name : List ℕ) → Holder
  -- the entry of this name in `paths` (section 4.8.8): the item at a path, or an extension
  path_entry : (path : List ℕ) → Holder
  -- the member of this name of the item at a path, as an operation
  item_member : (path name : List ℕ) → Holder
  -- the operation of this name in `additionalOperations` of the item at a path, from 3.2
  additional_operation : (path name : List ℕ) → Holder

abbrev pub place_of_item : List ℕ → Place
place_of_item path = at_name (codes "paths") ∷ at_name path ∷ []

abbrev pub place_of_holder : Holder → Place
place_of_holder document = []
place_of_holder (component kind name) = at_name (codes "components") ∷ at_name kind ∷ at_name name ∷ []
place_of_holder (path_entry path) = place_of_item path
place_of_holder (item_member path name) = place_of_item path ++ at_name name ∷ []
place_of_holder (additional_operation path name) = place_of_item path ++ at_name (codes "additionalOperations") ∷ at_name name ∷ []

-- whether a document has a holder
abbrev pub has : Holder → Data → Bool
has h d = is_some (at_place (place_of_holder h) d)

-- which of the documents that have a holder decides
pub data Rule : Type 0 where
  first_decides last_decides : Rule

-- the first, but at an extension of `paths` the last
abbrev pub rule : Holder → Rule
rule (path_entry path) = if is_extension path then last_decides else first_decides
rule h = first_decides

-- ---- slots

pub data Slot : Type 0 where
  -- a member of an OpenAPI Object that is kept as it is: the version, `info`, `webhooks`, an extension
  document_member : (name : List ℕ) → Slot
  -- an entry of a map of components
  component_entry : (kind name : List ℕ) → Slot
  -- an extension of components
  components_extension : (name : List ℕ) → Slot
  -- an extension of `paths`
  paths_extension : (name : List ℕ) → Slot
  -- the operation of a method at a path
  operation : (path method : List ℕ) → Slot
  -- the operation of this name in `additionalOperations` at a path
  named_operation : (path name : List ℕ) → Slot
  -- a member of the item at a path that is no operation: `$ref`, `summary`, `description`, `servers`, `parameters`, an extension
  base_member : (path name : List ℕ) → Slot

-- What decides a slot. Components' extensions are the first document's, which may have no components; what is no operation of an item is
-- that of the first item at the path.
abbrev pub holder : Slot → Holder
holder (document_member name) = document
holder (component_entry kind name) = component kind name
holder (components_extension name) = document
holder (paths_extension name) = path_entry name
holder (operation path method) = item_member path method
holder (named_operation path name) = additional_operation path name
holder (base_member path name) = path_entry path

abbrev pub place : Slot → Place
place (document_member name) = at_name name ∷ []
place (component_entry kind name) = place_of_holder (component kind name)
place (components_extension name) = at_name (codes "components") ∷ at_name name ∷ []
place (paths_extension name) = place_of_item name
place (operation path method) = place_of_item path ++ at_name method ∷ []
place (named_operation path name) = place_of_holder (additional_operation path name)
place (base_member path name) = place_of_item path ++ at_name name ∷ []

-- ---- the slots of a document, each with its value, in the order of the members

-- a slot with what a document has there
abbrev pub Filled : Type 0
Filled = Slot × Data

abbrev pub one_slot : Slot → Data → List Filled
one_slot s d = (s, d) ∷ []

-- a slot for each entry of a map
abbrev pub entry_slots : (List ℕ → Slot) → Data → List Filled
entry_slots s d = each_member (λ name e. one_slot (s name) e) (members_at d)

-- of a member of the item at a path
abbrev pub item_slots : List ℕ → List ℕ → Data → List Filled
item_slots path name d =
    if is_method name then one_slot (operation path name) d
    else (if bytes_eq name (codes "additionalOperations") then entry_slots (named_operation path) d
    else one_slot (base_member path name) d)

-- of an entry of `paths`
abbrev pub path_slots : List ℕ → Data → List Filled
path_slots path d = if is_extension path then one_slot (paths_extension path) d else each_member (item_slots path) (members_at d)

-- of a member of `components`
abbrev pub component_slots : List ℕ → Data → List Filled
component_slots kind d = if is_extension kind then one_slot (components_extension kind) d else entry_slots (component_entry kind) d

-- of a member of the document
abbrev pub member_slots : List ℕ → Data → List Filled
member_slots name d =
    if is_joined name then []
    else (if bytes_eq name (codes "paths") then each_member path_slots (members_at d)
    else (if bytes_eq name (codes "components") then each_member component_slots (members_at d)
    else one_slot (document_member name) d))

abbrev pub slots : Data → List Filled
slots d = each_member member_slots (members_at d)

-- ---- conflicts

-- a document, with its number among those that are merged
abbrev pub Numbered : Type 0
Numbered = ℕ × Data

-- documents, numbered from n on
abbrev pub numbered : ℕ → List Data → List Numbered
numbered n [] = []
numbered n (d ∷ ds) = (n, d) ∷ numbered (suc n) ds

-- the document, if it has the holder
abbrev pub offered : Holder → Numbered → Option Numbered
offered h t = if has h t.1 then Some t else None

-- the first that is there, or the last
abbrev pub by_rule : {A : Type 0} → Rule → List (Option A) → Option A
by_rule first_decides os = first_of os
by_rule last_decides os = last_of os

-- the document that decides the slots of a holder, none where no document has it
abbrev pub deciding : Holder → List Numbered → Option Numbered
deciding h all = by_rule (rule h) (map (offered h) all)

-- a value that is dropped: its place, the document that decides there, and the document whose value it is
abbrev pub Conflict : Type 0
Conflict = Place × ℕ × ℕ

-- what is dropped of the value that document j has in a slot, by the document that decides: nothing where that is document j, or has the same
-- value there
abbrev pub dropped_by : ℕ → Filled → Option Numbered → List Conflict
dropped_by j s None = []
dropped_by j s (Some t) = if t.0 == j || is_value s.1 (at_place (place s.0) t.1) then [] else (place s.0, t.0, j) ∷ []

-- what is dropped of one of the documents
abbrev pub conflicts_of : List Numbered → Numbered → List Conflict
conflicts_of all t = flat_map (λ s. dropped_by t.0 s (deciding (holder s.0) all)) (slots t.1)

-- what is dropped where documents are merged, document by document
abbrev pub conflicts : List Data → List Conflict
conflicts ds = flat_map (conflicts_of (numbered 0 ds)) (numbered 0 ds)
