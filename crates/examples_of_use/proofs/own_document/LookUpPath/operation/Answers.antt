use Rattle.std.proofs.Common.{◌≡◌, ◌∙◌, ap, codes, string_bytes, rules}
use Rattle.utoipa_base.specs.Docs.{some_doc, text_doc}
use Rattle.utoipa_merging.specs.Slots.{field_at}
use Rattle.utoipa_path.specs.Docs.{operation_layer, path_item_doc}
use Rattle.utoipa_path.specs.Folds.{operation_is}
use Rattle.examples_of_use.proofs.own_document.LookUpPath.operation.Goals as goal

pub returns : goal.returns
returns c =
    let said : string_bytes c.in_ok-name.name ≡ codes "lookUp" = search rules in
    ap (field_at (codes "operationId")) (operation_is c.build.result)
    ∙ ap (λ o. field_at (codes "operationId") (operation_layer path_item_doc o)) (c.build.ensures ∙ c.operation_id.ensures)
    ∙ ap (λ t. some_doc (text_doc t)) said
