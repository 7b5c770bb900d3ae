-- A layer's document, where the values in the layer were mapped first.
use Rattle.std.proofs.Common.{◌≡◌, refl, ap, Option, Some, None, string_bytes}
use Rattle.utoipa_base.specs.Docs.{Doc, map_doc, own_doc, entries_of_list}
use Rattle.utoipa_base.specs.Kinds.{named, path_item_object}
use Rattle.utoipa_base.specs.Mapped.{entries_through}
use Rattle.utoipa_base.specs.Refs.{ref_or_doc}
use Rattle.utoipa_base.specs.Tables.{callback}
use Rattle.utoipa_base.specs.Views.{option_of}
use Rattle.utoipa_base.specs.declared.refs.RefOr.TheVariants as made
use Rattle.utoipa_base.proofs.TableParts.{same_field}
use Rattle.utoipa_path.specs.Docs.{callback_of, operation_table, operation_layer, path_item_table, path_item_layer}
use Rattle.utoipa_path.specs.declared.types.Operation.{Operation-F, map-Operation}
use Rattle.utoipa_path.specs.declared.types.PathItem.{PathItem-F, map-PathItem}

pub operation_natural : {O I O' I' : Type 0} (f : I' → Doc) (o : O → O') (i : I → I') (x : Operation-F O I)
    → operation_layer f (map-Operation O I O' I' o i x) ≡ operation_layer (λ v. f (i v)) x
operation_natural f o i x =
    ap (λ es. operation_table (map_doc (entries_of_list es)) x)
    (entries_through (ref_or_doc callback (callback_of f)) _ (ref_or_doc callback (callback_of (λ v. f (i v))))
    (λ k. elim [
      | made.Ref r ↦ refl
      | made.T t ↦
          ap (λ es. (string_bytes k, own_doc (map_doc (entries_of_list es))))
          (entries_through (ref_or_doc (named path_item_object) f) _ (ref_or_doc (named path_item_object) (λ v. f (i v))) (λ k. elim [ made.Ref r ↦ refl | made.T t ↦ refl ]) t.entries)
    ])
    x.callbacks.entries)

-- an operation that may be absent
method_natural : {O I O' I' : Type 0} (f : O' → Doc) (o : O → O') (i : I → I') (x : PathItem-F O I) (m : Option O)
    → option_of f (map-PathItem O I O' I' o i (record x { get = m })).get ≡ option_of (λ v. f (o v)) m
method_natural f o i x None = refl
method_natural f o i x (Some v) = refl

pub path_item_natural : {O I O' I' : Type 0} (f : O' → Doc) (o : O → O') (i : I → I') (x : PathItem-F O I)
    → path_item_layer f (map-PathItem O I O' I' o i x) ≡ path_item_layer (λ v. f (o v)) x
path_item_natural f o i x =
    ap (λ ds. path_item_table ds x)
    (same_field _ _ _ _ (ap (λ es. map_doc (entries_of_list es)) (entries_through f _ (λ v. f (o v)) (λ k v. refl) x.additional_operations.entries))
    (same_field _ _ _ _ (method_natural f o i x x.delete)
    (same_field _ _ _ _ (method_natural f o i x x.get)
    (same_field _ _ _ _ (method_natural f o i x x.head)
    (same_field _ _ _ _ (method_natural f o i x x.options)
    (same_field _ _ _ _ (method_natural f o i x x.patch)
    (same_field _ _ _ _ (method_natural f o i x x.post)
    (same_field _ _ _ _ (method_natural f o i x x.put)
    (same_field _ _ _ _ (method_natural f o i x x.query)
    (same_field _ _ _ _ (method_natural f o i x x.trace) refl))))))))))
