-- The operations of a document, by its tree.
use Rattle.std.specs.Prelude.{ℕ, List, [], ◌∷◌, ◌++◌, if◌then◌else◌, Option, None, Some, codes}
use Rattle.std.specs.Str.{bytes_eq}
use Rattle.serde_json.specs.Data.{Data}
use Rattle.serde_json.specs.Find.{get}
use Rattle.utoipa_base.specs.Extensions.{is_extension}
use Rattle.utoipa_base.specs.EachMember.{each_member}
use Rattle.utoipa_check.specs.Places.{members_at}

-- the members of a Path Item Object (section 4.8.9) that are operations, each with its method as HTTP has it; `query` from 3.2
abbrev pub methods : List (List ℕ × List ℕ)
methods =
    (codes "get", codes "GET")
    ∷ (codes "put", codes "PUT")
    ∷ (codes "post", codes "POST")
    ∷ (codes "delete", codes "DELETE")
    ∷ (codes "options", codes "OPTIONS")
    ∷ (codes "head", codes "HEAD")
    ∷ (codes "patch", codes "PATCH")
    ∷ (codes "trace", codes "TRACE")
    ∷ (codes "query", codes "QUERY") ∷ []

abbrev pub method_among : List (List ℕ × List ℕ) → List ℕ → Option (List ℕ)
method_among [] name = None
method_among (m ∷ ms) name = if bytes_eq name m.0 then Some m.1 else method_among ms name

-- the method of a member of a path item, if the member is an operation
abbrev pub method_of : List ℕ → Option (List ℕ)
method_of name = method_among methods name

-- an operation: its method, its path or the name of its webhook, and the Operation Object (section 4.8.10)
abbrev pub Operation : Type 0
Operation = List ℕ × List ℕ × Data

abbrev pub operation : (method path : List ℕ) → Data → List Operation
operation method path d = (method, path, d) ∷ []

-- the entries of `additionalOperations`, from 3.2, each of which is of the method that it is named after
abbrev pub additional_operations : (path name : List ℕ) → Data → List Operation
additional_operations path name d =
    if bytes_eq name (codes "additionalOperations") then each_member (λ method e. operation method path e) (members_at d) else []

abbrev pub operations_by : Option (List ℕ) → (path name : List ℕ) → Data → List Operation
operations_by None path name d = additional_operations path name d
operations_by (Some method) path name d = operation method path d

-- of a member of the item at a path
abbrev pub member_operations : (path name : List ℕ) → Data → List Operation
member_operations path name d = operations_by (method_of name) path name d

-- of an entry of `paths` (section 4.8.8), or of `webhooks`: a path item, or an extension
abbrev pub entry_operations : (path : List ℕ) → Data → List Operation
entry_operations path d = if is_extension path then [] else each_member (member_operations path) (members_at d)

-- of `paths`, or of `webhooks`, if it is there
abbrev pub operations_in : Option Data → List Operation
operations_in None = []
operations_in (Some d) = each_member entry_operations (members_at d)

-- The operations of a document's paths, and then those of its webhooks, in the order of the members. A path item that is a reference is
-- not followed, and an operation of a callback is none of the document's.
abbrev pub operations : Data → List Operation
operations d = operations_in (get (codes "paths") d) ++ operations_in (get (codes "webhooks") d)
