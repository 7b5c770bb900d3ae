-- The operations under the paths of a document, each with the path item that it stands in, and which document an operation comes from where
-- documents are merged.
use Rattle.std.specs.Prelude.{ℕ, suc, List, [], ◌∷◌, Bool, false, ◌&&◌, if◌then◌else◌, Option, None, Some, option_and_then, option_map, codes}
use Rattle.std.specs.List.{list_any}
use Rattle.std.specs.Str.{bytes_eq}
use Rattle.serde_json.specs.Data.{Data}
use Rattle.serde_json.specs.Find.{get}
use Rattle.utoipa_base.specs.EachMember.{each_member}
use Rattle.utoipa_base.specs.Extensions.{is_extension}
use Rattle.utoipa_check.specs.Misfits.{Step, at_name}
use Rattle.utoipa_check.specs.Places.{members_at}
use Rattle.utoipa_conflicts.specs.Conflicts.{is_method}

-- ---- where an operation stands

pub data OperationPlace : Type 0 where
  -- the member of this name, a method, of the item at a path (section 4.8.9)
  method_at : (path method : List ℕ) → OperationPlace
  -- the operation of this method in `additionalOperations` of the item at a path, from 3.2
  additional_at : (path method : List ℕ) → OperationPlace

abbrev pub path_of : OperationPlace → List ℕ
path_of (method_at path method) = path
path_of (additional_at path method) = path

-- the steps from the document
abbrev pub steps_to : OperationPlace → List Step
steps_to (method_at path method) = at_name (codes "paths") ∷ at_name path ∷ at_name method ∷ []
steps_to (additional_at path method) = at_name (codes "paths") ∷ at_name path ∷ at_name (codes "additionalOperations") ∷ at_name method ∷ []

abbrev pub same_place : OperationPlace → OperationPlace → Bool
same_place (method_at path method) (method_at p m) = bytes_eq path p && bytes_eq method m
same_place (method_at path method) p = false
same_place (additional_at path method) (additional_at p m) = bytes_eq path p && bytes_eq method m
same_place (additional_at path method) p = false

-- an operation where it stands: its document, its path item, and itself
abbrev pub Standing : Type 0
Standing = Data × Data × Data

-- the item at a path
abbrev pub item_at : (path : List ℕ) → (document : Data) → Option Data
item_at path document = option_and_then (get path) (get (codes "paths") document)

abbrev pub operation_in : OperationPlace → (path_item : Data) → Option Data
operation_in (method_at path method) path_item = get method path_item
operation_in (additional_at path method) path_item = option_and_then (get method) (get (codes "additionalOperations") path_item)

abbrev pub standing_in : OperationPlace → (document path_item : Data) → Option Standing
standing_in p document path_item = option_map (λ operation. (document, path_item, operation)) (operation_in p path_item)

-- the operation at a place of a document, if one stands there
abbrev pub standing_at : OperationPlace → (document : Data) → Option Standing
standing_at p document = option_and_then (standing_in p document) (item_at (path_of p) document)

-- ---- the operations of a document

-- a place, the path item there, and the operation (Operation Object: section 4.8.10)
abbrev pub Operation : Type 0
Operation = OperationPlace × Data × Data

abbrev pub one_operation : OperationPlace → (path_item : Data) → Data → List Operation
one_operation p path_item d = (p, path_item, d) ∷ []

abbrev pub additional_operations : (path : List ℕ) → (path_item : Data) → Data → List Operation
additional_operations path path_item d = each_member (λ method e. one_operation (additional_at path method) path_item e) (members_at d)

-- of a member of the item at a path
abbrev pub member_operations : (path : List ℕ) → (path_item : Data) → (name : List ℕ) → Data → List Operation
member_operations path path_item name d =
    if is_method name then one_operation (method_at path name) path_item d
    else (if bytes_eq name (codes "additionalOperations") then additional_operations path path_item d else [])

-- of an entry of `paths` (section 4.8.8): a path item, or an extension
abbrev pub entry_operations : (path : List ℕ) → Data → List Operation
entry_operations path d = if is_extension path then [] else each_member (member_operations path d) (members_at d)

abbrev pub operations_in : Option Data → List Operation
operations_in None = []
operations_in (Some paths) = each_member entry_operations (members_at paths)

-- The operations under the paths of a document, in the order of the members. A path item that is a reference is not followed.
abbrev pub operations : (document : Data) → List Operation
operations document = operations_in (get (codes "paths") document)

-- ---- where an operation comes from

-- whether one of these operations stands at a place
abbrev pub stands_among : OperationPlace → List Operation → Bool
stands_among p os = list_any (λ o. same_place p o.0) os

abbrev pub if_so : Bool → ℕ → Option ℕ
if_so b n = if b then Some n else None

-- Of documents numbered from n on, the first that has an operation at a place. Where documents are merged, the operation there is that one's.
abbrev pub first_with : OperationPlace → ℕ → List Data → Option ℕ
first_with p n [] = None
first_with p n (d ∷ ds) = if stands_among p (operations d) then Some n else first_with p (suc n) ds
