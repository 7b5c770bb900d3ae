-- Each operation, path item and callback is a document of its kind.
use Rattle.std.proofs.Common.{◌≡◌, ◌∙◌, ap, sym, subst, option_map, None}
use Rattle.serde_json.specs.Find.{as_str}
use Rattle.utoipa_base.specs.Docs.{Doc}
use Rattle.utoipa_base.specs.Extensions.{extensions_view}
use Rattle.utoipa_base.specs.Flags.{deprecated_doc}
use Rattle.utoipa_base.specs.Kinds.{text, flag, list_of, ref_or, named, external_docs_object, server_object, parameter_object, request_body_object, operation_object, path_item_object}
use Rattle.utoipa_base.specs.OfKind.{object_is_no_text, text_of_kind, deprecated_of_kind, option_of_kind, list_of_kind, map_of_kind, ref_or_of_kind, extends_of_kind, no_rows, next_row, table_of_kind}
use Rattle.utoipa_base.specs.Refs.{ref_or_doc}
use Rattle.utoipa_base.specs.Shape.{IsOf, value_of}
use Rattle.utoipa_base.specs.Tables.{callback, security_requirement}
use Rattle.utoipa_base.specs.Views.{text_of, list_of_docs}
use Rattle.utoipa_base.specs.Writing.{write}
use Rattle.utoipa_leaf.specs.ExternalDocs.{external_docs_doc, external_docs_of_kind}
use Rattle.utoipa_leaf.specs.Server.{server_doc, server_of_kind}
use Rattle.utoipa_operation_parts.specs.Parameter.{parameter_doc, parameter_of_kind}
use Rattle.utoipa_operation_parts.specs.RequestBody.{request_body_doc, request_body_of_kind}
use Rattle.utoipa_operation_parts.specs.Responses.{responses_of_kind}
use Rattle.utoipa_security.specs.Requirement.{requirement_doc, requirement_of_kind}
use Rattle.utoipa_path.specs.Docs.{CallbackOf, callback_of, operation_layer, path_item_layer, operation_doc, path_item_doc}
use Rattle.utoipa_path.specs.Folds.{operation_is}
use Rattle.utoipa_path.specs.Layers.{operation_natural, path_item_natural}
use Rattle.utoipa_path.specs.declared.types.Operation.{Operation, Operation-F, ind-Operation, out-roll-Operation}
use Rattle.utoipa_path.specs.declared.types.PathItem.{PathItem, PathItem-F, out-PathItem, out-roll-PathItem}

-- a callback of path items that are of their kind
pub callback_of_kind : {I : Type 0} (f : I → Doc) → ((i : I) → IsOf (f i) (value_of (named path_item_object))) → (c : CallbackOf I) → IsOf (callback_of f c) (value_of callback)
callback_of_kind f each c = map_of_kind (ref_or_doc (named path_item_object) f) (ref_or (named path_item_object)) (ref_or_of_kind f (named path_item_object) each) c

operation_layer_of_kind : {O I : Type 0} (f : I → Doc) → ((i : I) → IsOf (f i) (value_of (named path_item_object))) → (x : Operation-F O I) → IsOf (operation_layer f x) (value_of (named operation_object))
operation_layer_of_kind f each x =
    table_of_kind _ _
    (next_row (map_of_kind (ref_or_doc callback (callback_of f)) (ref_or callback) (ref_or_of_kind (callback_of f) callback (callback_of_kind f each)) x.callbacks)
    (next_row (option_of_kind deprecated_doc flag deprecated_of_kind x.deprecated)
    (next_row (option_of_kind text_of text text_of_kind x.description)
    (next_row (option_of_kind external_docs_doc (named external_docs_object) external_docs_of_kind x.external_docs)
    (next_row (option_of_kind text_of text text_of_kind x.operation_id)
    (next_row (option_of_kind (list_of_docs (ref_or_doc (named parameter_object) parameter_doc)) (list_of (ref_or (named parameter_object))) (list_of_kind (ref_or_doc (named parameter_object) parameter_doc) (ref_or (named parameter_object)) (ref_or_of_kind parameter_doc (named parameter_object) parameter_of_kind)) x.parameters)
    (next_row (option_of_kind (ref_or_doc (named request_body_object) request_body_doc) (ref_or (named request_body_object)) (ref_or_of_kind request_body_doc (named request_body_object) request_body_of_kind) x.request_body)
    (next_row (responses_of_kind x.responses)
    (next_row (option_of_kind (list_of_docs requirement_doc) (list_of security_requirement) (list_of_kind requirement_doc security_requirement requirement_of_kind) x.security)
    (next_row (option_of_kind (list_of_docs server_doc) (list_of (named server_object)) (list_of_kind server_doc (named server_object) server_of_kind) x.servers)
    (next_row (option_of_kind text_of text text_of_kind x.summary)
    (next_row (option_of_kind (list_of_docs text_of) (list_of text) (list_of_kind text_of text text_of_kind) x.tags) no_rows))))))))))))
    (extends_of_kind (option_map extensions_view x.extensions))

path_item_layer_of_kind : {O I : Type 0} (f : O → Doc) → ((o : O) → IsOf (f o) (value_of (named operation_object))) → (x : PathItem-F O I) → IsOf (path_item_layer f x) (value_of (named path_item_object))
path_item_layer_of_kind f each x =
    table_of_kind _ _
    (next_row (option_of_kind text_of text text_of_kind x.ref_path)
    (next_row (map_of_kind f (named operation_object) each x.additional_operations)
    (next_row (option_of_kind f (named operation_object) each x.delete)
    (next_row (option_of_kind text_of text text_of_kind x.description)
    (next_row (option_of_kind f (named operation_object) each x.get)
    (next_row (option_of_kind f (named operation_object) each x.head)
    (next_row (option_of_kind f (named operation_object) each x.options)
    (next_row (option_of_kind (list_of_docs (ref_or_doc (named parameter_object) parameter_doc)) (list_of (ref_or (named parameter_object))) (list_of_kind (ref_or_doc (named parameter_object) parameter_doc) (ref_or (named parameter_object)) (ref_or_of_kind parameter_doc (named parameter_object) parameter_of_kind)) x.parameters)
    (next_row (option_of_kind f (named operation_object) each x.patch)
    (next_row (option_of_kind f (named operation_object) each x.post)
    (next_row (option_of_kind f (named operation_object) each x.put)
    (next_row (option_of_kind f (named operation_object) each x.query)
    (next_row (option_of_kind (list_of_docs server_doc) (list_of (named server_object)) (list_of_kind server_doc (named server_object) server_of_kind) x.servers)
    (next_row (option_of_kind text_of text text_of_kind x.summary)
    (next_row (option_of_kind f (named operation_object) each x.trace) no_rows)))))))))))))))
    (extends_of_kind (option_map extensions_view x.extensions))

-- ---- by induction, from the innermost value outwards

abbrev IsOperation : Operation → Type 0
IsOperation o = IsOf (operation_doc o) (value_of (named operation_object))

abbrev IsPathItem : PathItem → Type 0
IsPathItem i = IsOf (path_item_doc i) (value_of (named path_item_object))

pub operation_of_kind : (o : Operation) → IsOf (operation_doc o) (value_of (named operation_object))
operation_of_kind = ind-Operation IsOperation IsPathItem
    (λ x y is. subst (λ d. IsOf d (value_of (named operation_object))) (sym (operation_is _ ∙ ap (operation_layer path_item_doc) (out-roll-Operation x ∙ sym is) ∙ operation_natural path_item_doc (λ e. e.0) (λ e. e.0) y))
    (operation_layer_of_kind (λ i. path_item_doc i.0) (λ i. i.1) y))
    (λ x y is. subst (λ d. IsOf d (value_of (named path_item_object))) (sym (ap (path_item_layer operation_doc) (out-roll-PathItem x ∙ sym is) ∙ path_item_natural operation_doc (λ e. e.0) (λ e. e.0) y))
    (path_item_layer_of_kind (λ o. operation_doc o.0) (λ o. o.1) y))

pub path_item_of_kind : (i : PathItem) → IsOf (path_item_doc i) (value_of (named path_item_object))
path_item_of_kind i = path_item_layer_of_kind operation_doc operation_of_kind (out-PathItem i)

-- a path item is written as an object
pub path_item_is_no_text : (i : PathItem) → as_str (write (path_item_doc i)) ≡ None
path_item_is_no_text i = object_is_no_text path_item_object _ _
