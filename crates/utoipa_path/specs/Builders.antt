-- What the builders of operations and path items hold, and what the constructors make.
use Rattle.std.specs.Prelude.{◌≡◌, [], None, String}
use Rattle.std.specs.BTreeMap.{BTreeMap}
use Rattle.std.specs.declared.alloc.Global.{Global}
use Rattle.utoipa_operation_parts.specs.Responses.{IsEmptyResponses}
use Rattle.utoipa_path.specs.Docs.{CallbackOf, CallbacksOf}
use Rattle.utoipa_path.specs.declared.types.Operation.{Operation, Operation-F, out-Operation}
use Rattle.utoipa_path.specs.declared.types.PathItem.{PathItem, PathItem-F}
use Rattle.utoipa_path.specs.declared.operation.OperationBuilder.{OperationBuilder}

-- path items and references to such, by the expressions that give their URLs
abbrev pub Callback : Type 0
Callback = CallbackOf PathItem

-- callbacks and references to such, by their names
abbrev pub Callbacks : Type 0
Callbacks = CallbacksOf PathItem

-- operations, by the names of their methods
abbrev pub Operations : Type 0
Operations = BTreeMap (String Global) Operation

-- the fields of an operation, which are all that it is
abbrev pub OperationFields : Type 0
OperationFields = Operation-F Operation PathItem

-- the fields of a path item, which are all that it is
abbrev pub PathItemFields : Type 0
PathItemFields = PathItem-F Operation PathItem

-- the operation of a builder so far, by its fields
abbrev pub built_operation : OperationBuilder → OperationFields
built_operation b = out-Operation b.operation

-- nothing is said of the operation, and it has no response
abbrev pub IsEmptyOperation : OperationFields → Type 0
IsEmptyOperation o =
    (o.tags ≡ None)
    × (o.summary ≡ None)
    × (o.description ≡ None)
    × (o.operation_id ≡ None)
    × (o.external_docs ≡ None)
    × (o.parameters ≡ None)
    × (o.request_body ≡ None)
    × IsEmptyResponses o.responses
    × (o.callbacks.entries ≡ [])
    × (o.deprecated ≡ None)
    × (o.security ≡ None)
    × (o.servers ≡ None)
    × (o.extensions ≡ None)
