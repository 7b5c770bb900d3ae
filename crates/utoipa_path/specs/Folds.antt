-- The documents of operations, a layer at a time.
use Rattle.std.proofs.Common.{◌≡◌, ◌∙◌, refl, ap, List, [], ◌∷◌, String, Global}
use Rattle.utoipa_base.specs.Docs.{Doc, map_doc, entries_of_list}
use Rattle.utoipa_base.specs.Kinds.{Kind, named, path_item_object}
use Rattle.utoipa_base.specs.Refs.{ref_or_doc}
use Rattle.utoipa_base.specs.Tables.{callback}
use Rattle.utoipa_base.specs.Views.{pairs_of}
use Rattle.utoipa_base.specs.declared.refs.RefOr.{RefOr}
use Rattle.utoipa_base.specs.declared.refs.RefOr.TheVariants as made
use Rattle.utoipa_path.specs.Layers.{operation_natural, path_item_natural}
use Rattle.utoipa_path.specs.Docs.{CallbackOf, callback_of, as_is, operation_table, operation_layer, path_item_layer, operation_doc, path_item_doc}
use Rattle.utoipa_path.specs.declared.types.Operation.{Operation, Operation-F, fold_out-Operation, out-Operation}
use Rattle.utoipa_path.specs.declared.types.PathItem.{PathItem, fold-PathItem, fold_out-PathItem, out-PathItem}

-- the entries of a map whose values have the same documents by two words
same_pairs : {X : Type 0} (f g : X → Doc) → ((x : X) → f x ≡ g x) → (es : List (String Global × X)) → pairs_of f es ≡ pairs_of g es
same_pairs f g same [] = refl
same_pairs f g same (e ∷ es) = rw (same e.1, same_pairs f g same es)

-- references, or values with the same documents by two words
same_places : {X : Type 0} (k : Kind) (f g : X → Doc) → ((x : X) → f x ≡ g x) → (r : RefOr X) → ref_or_doc k f r ≡ ref_or_doc k g r
same_places k f g same (made.Ref r) = refl
same_places k f g same (made.T x) = rw (same x)

-- callbacks whose path items have the same documents by two words
same_callback : {X : Type 0} (f g : X → Doc) → ((x : X) → f x ≡ g x) → (c : CallbackOf X) → callback_of f c ≡ callback_of g c
same_callback f g same c = ap (λ es. map_doc (entries_of_list es)) (same_pairs _ _ (same_places (named path_item_object) f g same) c.entries)

abbrev path_item_fold : PathItem → Doc
path_item_fold = fold-PathItem Doc Doc (operation_layer as_is) (path_item_layer as_is)

path_item_is : (x : PathItem) → path_item_fold x ≡ path_item_doc x
path_item_is x = fold_out-PathItem Doc Doc (operation_layer as_is) (path_item_layer as_is) x ∙ path_item_natural as_is operation_doc path_item_fold (out-PathItem x)

operation_of_same : {O I : Type 0} (f g : I → Doc) → ((x : I) → f x ≡ g x) → (x : Operation-F O I) → operation_layer f x ≡ operation_layer g x
operation_of_same f g same x = ap (λ es. operation_table (map_doc (entries_of_list es)) x) (same_pairs _ _ (same_places callback _ _ (same_callback f g same)) x.callbacks.entries)

-- the document of an operation is a layer over those of the path items in its callbacks
pub operation_is : (x : Operation) → operation_doc x ≡ operation_layer path_item_doc (out-Operation x)
operation_is x =
    fold_out-Operation Doc Doc (operation_layer as_is) (path_item_layer as_is) x
    ∙ operation_natural as_is operation_doc path_item_fold (out-Operation x)
    ∙ operation_of_same path_item_fold path_item_doc path_item_is (out-Operation x)
