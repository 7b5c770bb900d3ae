-- For users of the model, and for whoever checks it: which field of a type stands in its document under which name.
-- The page `Members` of utoipa_base says how these theorems are read and cited.
-- A type that holds itself has its fields in `out-NAME x`, as `out-Operation o`.
use Rattle.std.proofs.Common.{ap}
use Rattle.std.specs.Prelude.{◌≡◌, refl, [], ◌∷◌}
use Rattle.utoipa_base.specs.Flags.{deprecated_doc}
use Rattle.utoipa_base.specs.Kinds.{named, parameter_object, request_body_object}
use Rattle.utoipa_base.specs.Members.{member, members_in}
use Rattle.utoipa_base.specs.Refs.{ref_or_doc}
use Rattle.utoipa_base.specs.Views.{text_of, option_of, list_of_docs, map_of_docs}
use Rattle.utoipa_leaf.specs.ExternalDocs.{external_docs_doc}
use Rattle.utoipa_leaf.specs.Server.{server_doc}
use Rattle.utoipa_operation_parts.specs.Parameter.{parameter_doc}
use Rattle.utoipa_operation_parts.specs.RequestBody.{request_body_doc}
use Rattle.utoipa_operation_parts.specs.Responses.{responses_doc}
use Rattle.utoipa_security.specs.Requirement.{requirement_doc}
use Rattle.utoipa_path.specs.Docs.{callbacks_doc, operation_doc, path_item_doc}
use Rattle.utoipa_path.specs.Folds.{operation_is}
use Rattle.utoipa_path.specs.declared.types.Operation.{Operation, out-Operation}
use Rattle.utoipa_path.specs.declared.types.PathItem.{PathItem, out-PathItem}

-- Path Item Object: section 4.8.9
pub path_item_members : (i : PathItem) → members_in (path_item_doc i) ≡
    member "$ref" (option_of text_of (out-PathItem i).ref_path)
    ∷ member "additionalOperations" (map_of_docs operation_doc (out-PathItem i).additional_operations)
    ∷ member "delete" (option_of operation_doc (out-PathItem i).delete)
    ∷ member "description" (option_of text_of (out-PathItem i).description)
    ∷ member "get" (option_of operation_doc (out-PathItem i).get)
    ∷ member "head" (option_of operation_doc (out-PathItem i).head)
    ∷ member "options" (option_of operation_doc (out-PathItem i).options)
    ∷ member "parameters" (option_of (list_of_docs (ref_or_doc (named parameter_object) parameter_doc)) (out-PathItem i).parameters)
    ∷ member "patch" (option_of operation_doc (out-PathItem i).patch)
    ∷ member "post" (option_of operation_doc (out-PathItem i).post)
    ∷ member "put" (option_of operation_doc (out-PathItem i).put)
    ∷ member "query" (option_of operation_doc (out-PathItem i).query)
    ∷ member "servers" (option_of (list_of_docs server_doc) (out-PathItem i).servers)
    ∷ member "summary" (option_of text_of (out-PathItem i).summary)
    ∷ member "trace" (option_of operation_doc (out-PathItem i).trace) ∷ []
path_item_members i = refl

-- Operation Object: section 4.8.10
pub operation_members : (o : Operation) → members_in (operation_doc o) ≡
    member "callbacks" (callbacks_doc (out-Operation o).callbacks)
    ∷ member "deprecated" (option_of deprecated_doc (out-Operation o).deprecated)
    ∷ member "description" (option_of text_of (out-Operation o).description)
    ∷ member "externalDocs" (option_of external_docs_doc (out-Operation o).external_docs)
    ∷ member "operationId" (option_of text_of (out-Operation o).operation_id)
    ∷ member "parameters" (option_of (list_of_docs (ref_or_doc (named parameter_object) parameter_doc)) (out-Operation o).parameters)
    ∷ member "requestBody" (option_of (ref_or_doc (named request_body_object) request_body_doc) (out-Operation o).request_body)
    ∷ member "responses" (responses_doc (out-Operation o).responses)
    ∷ member "security" (option_of (list_of_docs requirement_doc) (out-Operation o).security)
    ∷ member "servers" (option_of (list_of_docs server_doc) (out-Operation o).servers)
    ∷ member "summary" (option_of text_of (out-Operation o).summary)
    ∷ member "tags" (option_of (list_of_docs text_of) (out-Operation o).tags) ∷ []
operation_members o = ap members_in (operation_is o)
