-- The operations of a path item, each with the key under which it stands.
use Rattle.std.specs.Prelude.{ℕ, List, [], ◌∷◌, ◌++◌, Bool, false, Option, None, Some, String, string_bytes, codes, map}
use Rattle.std.specs.BTreeMap.{get_by_text}
use Rattle.std.specs.List.{find, flat_map}
use Rattle.std.specs.Str.{bytes_eq}
use Rattle.std.specs.declared.alloc.Global.{Global}
use Rattle.utoipa_leaf.specs.Path.{http_method_text}
use Rattle.utoipa_leaf.specs.declared.path.HttpMethod.{HttpMethod}
use Rattle.utoipa_leaf.specs.declared.path.HttpMethod.TheVariants.{Get, Post, Put, Delete, Options, Head, Patch, Trace}
use Rattle.utoipa_path.specs.Builders.{PathItemFields}
use Rattle.utoipa_path.specs.Methods.{operation_at}
use Rattle.utoipa_path.specs.declared.operations.ItemOperation.{ItemOperation}
use Rattle.utoipa_path.specs.declared.operations.OperationMethod.{OperationMethod}
use Rattle.utoipa_path.specs.declared.operations.OperationMethod.TheVariants as methods
use Rattle.utoipa_path.specs.declared.types.Operation.{Operation, out-Operation}

-- ---- keys

-- the key under which an operation stands in a Path Item Object (section 4.8.9): a member for a method that `HttpMethod` names, the member
-- `query`, or an entry of `additionalOperations`, the latter two from 3.2
pub data Key : Type 0 where
  standard : HttpMethod → Key
  query : Key
  additional : (name : List ℕ) → Key

-- the text of a key: the name of the member or of the entry
abbrev pub key_text : Key → List ℕ
key_text (standard m) = http_method_text m
key_text query = codes "query"
key_text (additional name) = name

-- ---- the operations of a path item

-- the operation under a key
abbrev pub operation_under : Key → PathItemFields → Option Operation
operation_under (standard m) i = operation_at m i
operation_under query i = i.query
operation_under (additional name) i = get_by_text i.additional_operations name

-- an operation with its key
abbrev pub KeyedOperation : Type 0
KeyedOperation = Key × Operation

abbrev pub keyed_if_any : Key → Option Operation → List KeyedOperation
keyed_if_any k None = []
keyed_if_any k (Some o) = (k, o) ∷ []

-- the operation that a member is, if it is there
abbrev pub member_operation : PathItemFields → Key → List KeyedOperation
member_operation i k = keyed_if_any k (operation_under k i)

-- the members that are operations, in the order of their names
abbrev pub operation_members : List Key
operation_members =
    standard Delete
    ∷ standard Get
    ∷ standard Head
    ∷ standard Options
    ∷ standard Patch
    ∷ standard Post
    ∷ standard Put
    ∷ query
    ∷ standard Trace ∷ []

-- an entry of `additionalOperations`
abbrev pub additional_entry : String Global × Operation → KeyedOperation
additional_entry e = (additional (string_bytes e.0), e.1)

-- all operations of a path item, in the order of its members' names: first the entries of `additionalOperations`, in the order of the map
abbrev pub operations_in : PathItemFields → List KeyedOperation
operations_in i = map additional_entry i.additional_operations.entries ++ flat_map (member_operation i) operation_members

-- ---- the operation of a name

-- whether the text that a member is, if it is there, is this one
abbrev pub is_text : List ℕ → Option (String Global) → Bool
is_text t None = false
is_text t (Some s) = bytes_eq (string_bytes s) t

-- whether the `operationId` of an operation (section 4.8.10) is this text
abbrev pub has_id : (id : List ℕ) → Operation → Bool
has_id id o = is_text id (out-Operation o).operation_id

-- the first operation of a list whose `operationId` is this text
abbrev pub first_with_id : (id : List ℕ) → List KeyedOperation → Option KeyedOperation
first_with_id id = find (λ o. has_id id o.1)

-- ---- what the values of the program stand for

abbrev pub key_of : OperationMethod → Key
key_of (methods.Standard m) = standard m
key_of methods.Query = query
key_of (methods.Additional name) = additional name.now

abbrev pub keyed : ItemOperation → KeyedOperation
keyed o = (key_of o.method, o.operation.now)

abbrev pub all_keyed : List ItemOperation → List KeyedOperation
all_keyed = map keyed
