-- Operations, path items and callbacks as documents.
--
-- They hold each other: a path item holds operations, an operation callbacks, a callback path items. So the documents of operations
-- are a fold: a layer for each type gives the document of a value by those of the values in it, and the fold applies the layers from
-- the innermost value outwards. The documents of path items and callbacks are a layer over those of operations.
use Rattle.std.specs.Prelude.{List, [], ◌∷◌, Bool, true, false, String, option_map}
use Rattle.std.specs.BTreeMap.{BTreeMap}
use Rattle.std.specs.declared.alloc.Global.{Global}
use Rattle.utoipa_base.specs.Docs.{Doc, Docs, table_doc, docs_woven, no_docs, doc}
use Rattle.utoipa_base.specs.Extensions.{extensions_view}
use Rattle.utoipa_base.specs.Flags.{deprecated_doc}
use Rattle.utoipa_base.specs.Kinds.{named, parameter_object, request_body_object, operation_object, path_item_object}
use Rattle.utoipa_base.specs.Refs.{ref_or_doc}
use Rattle.utoipa_base.specs.Tables.{callback}
use Rattle.utoipa_base.specs.Views.{text_of, option_of, list_of_docs, map_of_docs}
use Rattle.utoipa_base.specs.declared.refs.RefOr.{RefOr}
use Rattle.utoipa_leaf.specs.ExternalDocs.{external_docs_doc}
use Rattle.utoipa_leaf.specs.Server.{server_doc}
use Rattle.utoipa_operation_parts.specs.Parameter.{parameter_doc}
use Rattle.utoipa_operation_parts.specs.RequestBody.{request_body_doc}
use Rattle.utoipa_operation_parts.specs.Responses.{responses_doc}
use Rattle.utoipa_security.specs.Requirement.{requirement_doc}
use Rattle.utoipa_path.specs.declared.types.Operation.{Operation, Operation-F, fold-Operation}
use Rattle.utoipa_path.specs.declared.types.PathItem.{PathItem, PathItem-F, out-PathItem}

-- ---- callbacks, by the documents of the path items in them

-- the path items of a callback, and references to such, by expressions
abbrev pub CallbackOf : Type 0 → Type 0
CallbackOf I = BTreeMap (String Global) (RefOr I)

abbrev pub callback_of : {I : Type 0} → (I → Doc) → CallbackOf I → Doc
callback_of f = map_of_docs (ref_or_doc (named path_item_object) f)

-- callbacks, and references to such, by their names
abbrev pub CallbacksOf : Type 0 → Type 0
CallbacksOf I = BTreeMap (String Global) (RefOr (CallbackOf I))

abbrev pub callbacks_of : {I : Type 0} → (I → Doc) → CallbacksOf I → Doc
callbacks_of f = map_of_docs (ref_or_doc callback (callback_of f))

-- ---- a layer of each type, by the documents of the values in it

-- the table of an operation, by the document of its callbacks
abbrev pub operation_table : {O I : Type 0} → Doc → Operation-F O I → Doc
operation_table callbacks o =
    table_doc operation_object
    (doc callbacks
    (doc (option_of deprecated_doc o.deprecated)
    (doc (option_of text_of o.description)
    (doc (option_of external_docs_doc o.external_docs)
    (doc (option_of text_of o.operation_id)
    (doc (option_of (list_of_docs (ref_or_doc (named parameter_object) parameter_doc)) o.parameters)
    (doc (option_of (ref_or_doc (named request_body_object) request_body_doc) o.request_body)
    (doc (responses_doc o.responses)
    (doc (option_of (list_of_docs requirement_doc) o.security)
    (doc (option_of (list_of_docs server_doc) o.servers)
    (doc (option_of text_of o.summary)
    (doc (option_of (list_of_docs text_of) o.tags) no_docs))))))))))))
    (option_map extensions_view o.extensions)

abbrev pub operation_layer : {O I : Type 0} → (I → Doc) → Operation-F O I → Doc
operation_layer f o = operation_table (callbacks_of f o.callbacks) o

-- the operations of a path item, in the order of their members' names
abbrev pub operations_of : {O I : Type 0} → (O → Doc) → PathItem-F O I → Docs
operations_of f i =
    doc (map_of_docs f i.additional_operations)
    (doc (option_of f i.delete)
    (doc (option_of f i.get)
    (doc (option_of f i.head)
    (doc (option_of f i.options)
    (doc (option_of f i.patch)
    (doc (option_of f i.post)
    (doc (option_of f i.put)
    (doc (option_of f i.query)
    (doc (option_of f i.trace) no_docs)))))))))

-- at which rows of its table a path item has no operations: `$ref`, `description`, `parameters`, `servers` and `summary`
abbrev pub item_order : List Bool
item_order =
    true ∷ false ∷ false ∷ true ∷ false ∷ false ∷ false ∷ true ∷ false ∷ false ∷ false ∷ false ∷ true ∷ true ∷ false ∷ []

-- the table of a path item, by the documents of its operations, among which the other fields stand
abbrev pub path_item_table : {O I : Type 0} → Docs → PathItem-F O I → Doc
path_item_table operations i =
    table_doc path_item_object
    (docs_woven item_order
    (doc (option_of text_of i.ref_path)
    (doc (option_of text_of i.description)
    (doc (option_of (list_of_docs (ref_or_doc (named parameter_object) parameter_doc)) i.parameters)
    (doc (option_of (list_of_docs server_doc) i.servers)
    (doc (option_of text_of i.summary) no_docs)))))
    operations)
    (option_map extensions_view i.extensions)

abbrev pub path_item_layer : {O I : Type 0} → (O → Doc) → PathItem-F O I → Doc
path_item_layer f i = path_item_table (operations_of f i) i

-- ---- the documents

abbrev pub as_is : Doc → Doc
as_is d = d

abbrev pub operation_doc : Operation → Doc
operation_doc = fold-Operation Doc Doc (operation_layer as_is) (path_item_layer as_is)

abbrev pub path_item_doc : PathItem → Doc
path_item_doc i = path_item_layer operation_doc (out-PathItem i)

-- a callback as a document
abbrev pub callback_doc : CallbackOf PathItem → Doc
callback_doc = callback_of path_item_doc

-- the callbacks of an operation as a document
abbrev pub callbacks_doc : CallbacksOf PathItem → Doc
callbacks_doc = callbacks_of path_item_doc
