-- Whether operations and path items are unambiguous, by the members that are asked: the others always are.
use Rattle.std.proofs.Common.{◌≡◌, Bool, true, false, ◌&&◌, refl, sym, ap, ◌∙◌, option_map}
use Rattle.utoipa_base.specs.Docs.{Doc, Docs, no_docs, doc, docs_append}
use Rattle.utoipa_base.specs.Extensions.{extensions_view}
use Rattle.utoipa_base.specs.Kinds.{named, parameter_object, request_body_object, operation_object, path_item_object}
use Rattle.utoipa_base.specs.Refs.{ref_or_doc}
use Rattle.utoipa_base.specs.Unambiguous.{is_unambiguous, are_unambiguous, are_extensions}
use Rattle.utoipa_base.specs.Views.{option_of, list_of_docs}
use Rattle.utoipa_base.proofs.UnambiguousParts.{by_parts, unambiguous-table, docs-none, docs-next, option-text, option-deprecated, option-texts}
use Rattle.utoipa_leaf.specs.ExternalDocs.{external_docs_doc}
use Rattle.utoipa_leaf.specs.Server.{server_doc}
use Rattle.utoipa_operation_parts.specs.Parameter.{parameter_doc}
use Rattle.utoipa_operation_parts.specs.RequestBody.{request_body_doc}
use Rattle.utoipa_operation_parts.specs.Responses.{responses_doc}
use Rattle.utoipa_schema.proofs.FieldsAsked.{passes_by, is_asked}
use Rattle.utoipa_security.proofs.UnambiguousRequirements.{option-requirements}
use Rattle.utoipa_path.specs.Docs.{callbacks_doc, operation_table, operation_doc, path_item_doc}
use Rattle.utoipa_path.specs.Folds.{operation_is}
use Rattle.utoipa_path.specs.ItemMembers.{up_to_get_docs, head_to_post_docs, from_put_docs}
use Rattle.utoipa_path.specs.declared.types.Operation.{Operation, Operation-F, out-Operation}
use Rattle.utoipa_path.specs.declared.types.PathItem.{PathItem, out-PathItem}

-- ---- operations

operation_table_parts : {O I : Type 0} (callbacks : Doc) (o : Operation-F O I)
    → is_unambiguous (operation_table callbacks o)
    ≡ ((is_unambiguous callbacks && (is_unambiguous (option_of external_docs_doc o.external_docs)
    && (is_unambiguous (option_of (list_of_docs (ref_or_doc (named parameter_object) parameter_doc)) o.parameters)
    && (is_unambiguous (option_of (ref_or_doc (named request_body_object) request_body_doc) o.request_body)
    && (is_unambiguous (responses_doc o.responses) && (is_unambiguous (option_of (list_of_docs server_doc) o.servers) && true))))))
    && are_extensions (option_map extensions_view o.extensions))
operation_table_parts callbacks o =
    unambiguous-table operation_object _ _ ∙ ap (λ b. b && are_extensions (option_map extensions_view o.extensions))
    (is_asked _ _
    (passes_by _ _ (option-deprecated o.deprecated)
    (passes_by _ _ (option-text o.description)
    (is_asked _ _
    (passes_by _ _ (option-text o.operation_id)
    (is_asked _ _
    (is_asked _ _
    (is_asked _ _
    (passes_by _ _ (option-requirements o.security)
    (is_asked _ _
    (passes_by _ _ (option-text o.summary)
    (passes_by _ _ (option-texts o.tags) docs-none))))))))))))

pub operation_parts : (o : Operation)
    → is_unambiguous (operation_doc o)
    ≡ ((is_unambiguous (callbacks_doc (out-Operation o).callbacks) && (is_unambiguous (option_of external_docs_doc (out-Operation o).external_docs)
    && (is_unambiguous (option_of (list_of_docs (ref_or_doc (named parameter_object) parameter_doc)) (out-Operation o).parameters)
    && (is_unambiguous (option_of (ref_or_doc (named request_body_object) request_body_doc) (out-Operation o).request_body)
    && (is_unambiguous (responses_doc (out-Operation o).responses) && (is_unambiguous (option_of (list_of_docs server_doc) (out-Operation o).servers) && true))))))
    && are_extensions (option_map extensions_view (out-Operation o).extensions))
operation_parts o = ap is_unambiguous (operation_is o) ∙ operation_table_parts (callbacks_doc (out-Operation o).callbacks) (out-Operation o)

-- documents of operations, by the members that are asked
pub ruleset by_operation_parts = (operation_parts)

-- what path items hold, part by part
pub ruleset by_operation_fields = (by_parts, option-requirements)

-- ---- path items

all_of_three : (a b c : Bool) → ((a && b) && c) ≡ (a && (b && c))
all_of_three true b c = refl
all_of_three false b c = refl

-- fields after others
appended : (xs ys : Docs) → are_unambiguous (docs_append xs ys) ≡ (are_unambiguous xs && are_unambiguous ys)
appended no_docs ys = ap (λ b. b && are_unambiguous ys) (sym docs-none)
appended (doc d ds) ys =
    docs-next d (docs_append ds ys) ∙ ap (λ b. is_unambiguous d && b) (appended ds ys) ∙ sym (all_of_three (is_unambiguous d) (are_unambiguous ds) (are_unambiguous ys))
    ∙ ap (λ b. b && are_unambiguous ys) (sym (docs-next d ds))

pub item_parts : (i : PathItem)
    → is_unambiguous (path_item_doc i)
    ≡ (are_unambiguous (up_to_get_docs operation_doc (out-PathItem i)) && (are_unambiguous (head_to_post_docs operation_doc (out-PathItem i))
    && (are_unambiguous (from_put_docs operation_doc (out-PathItem i)) && are_extensions (option_map extensions_view (out-PathItem i).extensions))))
item_parts i =
    let first = up_to_get_docs operation_doc (out-PathItem i) in
    let middle = head_to_post_docs operation_doc (out-PathItem i) in
    let last = from_put_docs operation_doc (out-PathItem i) in
    let extends = are_extensions (option_map extensions_view (out-PathItem i).extensions) in
    unambiguous-table path_item_object (docs_append first (docs_append middle last)) _
    ∙ ap (λ b. b && extends) (appended first (docs_append middle last) ∙ ap (λ b. are_unambiguous first && b) (appended middle last))
    ∙ all_of_three (are_unambiguous first) (are_unambiguous middle && are_unambiguous last) extends
    ∙ ap (λ b. are_unambiguous first && b) (all_of_three (are_unambiguous middle) (are_unambiguous last) extends)

pub ruleset by_item_parts = (item_parts)
