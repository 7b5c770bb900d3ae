use Rattle.std.proofs.Common.{◌∙◌, ℕ, List, option_map, ap, refl}
use Rattle.utoipa_base.specs.Docs.{Entries, entries_doc}
use Rattle.utoipa_base.specs.Extensions.{extensions_view}
use Rattle.utoipa_base.specs.Kinds.{open_api_object}
use Rattle.utoipa_base.proofs.TableParts.{same_field, same_table}
use Rattle.utoipa_path.proofs.Built.{built_where_set}
use Rattle.utoipa_paths.specs.Items.{ItemsByPath}
use Rattle.utoipa.specs.OpenApi.{openapi_doc}
use Rattle.utoipa.specs.Tags.{texts_of, item_entries, change_entries, nested_item}
use Rattle.utoipa.proofs.tags.openapi_of.Goals as goal

pub returns : goal.returns
returns g c =
    let own = c.in_ok-document.document in
    let made = c.in_ok-document.ensures in
    let further : List (List ℕ) = texts_of c.in_ok-document.tags.items in
    let path : List ℕ = c.in_ok-document.module_path.now in
    let changed : List (List ℕ) → List ℕ → ItemsByPath → Entries = λ t p items. change_entries (nested_item t p) (item_entries items) in
    built_where_set c.nested_items-items.result _ c.set.new.field c.set.result _ c.and.result _ c.nested_items-items.ensures c.set.ensures.ok c.and.ensures
    (λ items. (
      openapi_doc own,
      made.0,
      same_table open_api_object _ _ _ _
          (same_field _ _ _ _ refl
          (same_field _ _ _ _ refl
          (same_field _ _ _ _ refl
          (same_field _ _ _ _ refl
          (same_field _ _ _ _ refl
          (same_field _ _ _ _ refl
          (same_field _ _ _ _ refl
          (same_field _ _ _ _
          (ap (λ es. entries_doc es (option_map extensions_view own.paths.extensions))
          (items ∙ ap (changed further path) c.replace-items.ensures.value ∙ ap (λ t. changed t path own.paths.paths) made.1 ∙ ap (λ p. changed g.T.NestedApiConfig.tagged p own.paths.paths) made.2)) refl))))))))
          refl,
    ))
