use Rattle.std.proofs.Common.{◌∙◌, Option, refl, ap}
use Rattle.utoipa_base.specs.Docs.{Doc}
use Rattle.utoipa_base.specs.Kinds.{path_item_object}
use Rattle.utoipa_base.proofs.TableParts.{same_field, same_table}
use Rattle.utoipa_path.specs.Builders.{PathItemFields}
use Rattle.utoipa_path.specs.Docs.{path_item_layer, operation_doc}
use Rattle.utoipa_path.specs.declared.types.Operation.{Operation}
use Rattle.utoipa.specs.Tags.{texts_of, nested_method}
use Rattle.utoipa.proofs.tags.tag_item.Goals as goal

abbrev with_other : (options head patch trace : Option Operation) → PathItemFields → PathItemFields
with_other options head patch trace i = record i { options = options; head = head; patch = patch; trace = trace }

pub returns : goal.returns
returns c =
    let main = c.in_ok-tag_main_methods.ensures in
    let other = c.in_ok-tag_other_methods.ensures in
    let tagged : Option Operation → Doc = nested_method (texts_of c.args.tags.now.items) c.args.module_path.now in
    ap (path_item_layer operation_doc) (other.8 ∙ ap (with_other other.0 other.1 other.2 other.3) main.8)
    ∙ same_table path_item_object _ _ _ _
    (same_field _ _ _ _ refl
    (same_field _ _ _ _ refl
    (same_field _ _ _ _ main.7
    (same_field _ _ _ _ refl
    (same_field _ _ _ _ main.4
    (same_field _ _ _ _ (other.5 ∙ ap {A = PathItemFields} (λ i. tagged i.head) main.8)
    (same_field _ _ _ _ (other.4 ∙ ap {A = PathItemFields} (λ i. tagged i.options) main.8)
    (same_field _ _ _ _ refl
    (same_field _ _ _ _ (other.6 ∙ ap {A = PathItemFields} (λ i. tagged i.patch) main.8)
    (same_field _ _ _ _ main.6
    (same_field _ _ _ _ main.5
    (same_field _ _ _ _ refl
    (same_field _ _ _ _ refl
    (same_field _ _ _ _ refl
    (same_field _ _ _ _ (other.7 ∙ ap {A = PathItemFields} (λ i. tagged i.trace) main.8) refl)))))))))))))))
    refl
