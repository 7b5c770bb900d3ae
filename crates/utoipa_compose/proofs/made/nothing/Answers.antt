use Rattle.std.proofs.Common.{◌≡◌, ◌∙◌, Some, ap, rules}
use Rattle.serde_json.specs.Data.{null}
use Rattle.serde_json.specs.View.{view}
use Rattle.serde_json.specs.declared.value.Value.{the_lemmas}
use Rattle.serde_json.specs.declared.value.Value.TheVariants as tree
use Rattle.utoipa_base.specs.Docs.{any_value_doc, none_doc, own_doc, some_doc, tree_doc}
use Rattle.utoipa_schema.specs.Builders.{any_value}
use Rattle.utoipa_schema.specs.Docs.{schema_doc}
use Rattle.utoipa_compose.specs.Made.{object_of}
use Rattle.utoipa_compose.proofs.MadeDocuments.{default_made}
use Rattle.utoipa_compose.proofs.made.nothing.Goals as goal

view-Null : view tree.Null ≡ null
view-Null = search (rules, the_lemmas)

pub returns : goal.returns
returns c =
    let made = c.empty.ensures in
    ap (λ s. own_doc (schema_doc s)) made.2 ∙ default_made any_value made.0 made.1 (Some tree.Null) ∙
    ap (λ d. object_of any_value_doc none_doc (some_doc (tree_doc d)) none_doc none_doc none_doc) view-Null
