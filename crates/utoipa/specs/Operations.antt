-- The operations of a document's paths.
use Rattle.std.specs.Prelude.{ℕ, List, Option, String, string_bytes, map}
use Rattle.std.specs.List.{find, flat_map}
use Rattle.std.specs.declared.alloc.Global.{Global}
use Rattle.utoipa_path.specs.Operations.{KeyedOperation, key_of, operations_in, has_id}
use Rattle.utoipa_path.specs.declared.types.PathItem.{PathItem, out-PathItem}
use Rattle.utoipa.specs.declared.document.OpenApi.{OpenApi}
use Rattle.utoipa.specs.declared.operations.PathOperation.{PathOperation}

-- an operation with its key in a path item, and the path of the item
abbrev pub LocatedOperation : Type 0
LocatedOperation = List ℕ × KeyedOperation

abbrev pub located : (path : List ℕ) → KeyedOperation → LocatedOperation
located path o = (path, o)

-- the operations of the path item at a path (section 4.8.9)
abbrev pub operations_at : (path : List ℕ) → PathItem → List LocatedOperation
operations_at path i = map (located path) (operations_in (out-PathItem i))

-- those of an entry of a document's paths
abbrev pub entry_operations : String Global × PathItem → List LocatedOperation
entry_operations e = operations_at (string_bytes e.0) e.1

-- All operations of a document's paths (section 4.8.8), in the order of the map of the paths, and at each path in that of its item's members.
-- Those of its webhooks and of callbacks are none of them.
abbrev pub document_operations : OpenApi → List LocatedOperation
document_operations d = flat_map entry_operations d.paths.paths.entries

-- the first operation of a list whose `operationId` (section 4.8.10) is this text
abbrev pub first_located : (id : List ℕ) → List LocatedOperation → Option LocatedOperation
first_located id = find (λ o. has_id id o.1.1)

-- ---- what the values of the program stand for

abbrev pub located_of : PathOperation → LocatedOperation
located_of o = (o.path.now, (key_of o.method, o.operation.now))

abbrev pub all_located : List PathOperation → List LocatedOperation
all_located = map located_of
