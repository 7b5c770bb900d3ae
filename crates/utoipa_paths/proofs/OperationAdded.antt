-- An operation that is added at some methods of a path.
use Rattle.std.proofs.Common.{◌≡◌, List, Option, Some, None, option_map, sym, ap, ◌∙◌, subst, length}
use Rattle.std.specs.Option.{option_or}
use Rattle.std.specs.List.Sorted.{IsStrictlySortedBy}
use Rattle.std.specs.Iterator.{Drains}
use Rattle.std.specs.declared.vec.IntoIter.{IntoIter}
use Rattle.std.specs.Vec.Iter.{into_iter_items, into_iter_len, into_iter_steps}
use Rattle.std.proofs.lemmas.Iterator.{items_from_drains}
use Rattle.std.proofs.lemmas.Iterator.Adapters.{YieldsList-from_vec}
use Rattle.std.proofs.lemmas.List.{map-id}
use Rattle.utoipa_base.specs.Docs.{Doc, map_doc, entries_of_list}
use Rattle.utoipa_base.specs.Views.{map_of_docs, pairs_of}
use Rattle.utoipa_leaf.specs.declared.path.HttpMethod.{HttpMethod}
use Rattle.utoipa_leaf.specs.declared.path.HttpMethod.TheVariants.{Get, Post, Put, Delete, Options, Head, Patch, Trace}
use Rattle.utoipa_merging.specs.Merged.{IsInOrder}
use Rattle.utoipa_path.specs.Builders.{PathItemFields}
use Rattle.utoipa_path.specs.Docs.{operation_doc}
use Rattle.utoipa_path.specs.Methods.{operation_at, without_methods, IsEmptyPathItem, HoldAtMethods}
use Rattle.utoipa_path.specs.declared.types.Operation.{Operation}
use Rattle.utoipa_path.specs.declared.types.PathItem.{PathItem, out-PathItem}
use Rattle.utoipa_paths.specs.Items.{IsItemInOrder}

-- what a vector's iterator gives
pub vector_drained : {A Z : Type 0} (it : IntoIter A Z) (items given : List A) → into_iter_items it ≡ items → into_iter_len it ≡ length items → Drains (into_iter_steps {X = A} {Z = Z}) it given → given ≡ items
vector_drained it items given are many d = sym (map-id given) ∙ items_from_drains given (d.1.0, d.1.1, λ w. (d.0, d.1.2)) (YieldsList-from_vec items are many)

-- an item of which nothing is said has no operation
none_at : (m : HttpMethod) (i : PathItemFields) → IsEmptyPathItem i → operation_at m i ≡ None
none_at Get i empty = empty.5
none_at Put i empty = empty.6
none_at Post i empty = empty.7
none_at Delete i empty = empty.8
none_at Options i empty = empty.9
none_at Head i empty = empty.10
none_at Patch i empty = empty.11
none_at Trace i empty = empty.12

some_or : (o p : Option Operation) (d : Doc) → option_map operation_doc o ≡ Some d → option_map operation_doc (option_or o p) ≡ Some d
some_or None p d h = cc
some_or (Some x) p d h = h

-- the operations at the listed methods were taken over from a new item that has no others
pub taken_over : (methods : List HttpMethod) (d : Doc) (empty made old new : PathItemFields) → IsEmptyPathItem empty → HoldAtMethods methods d empty made
    → ((m : HttpMethod) → operation_at m new ≡ option_or (operation_at m made) (operation_at m old)) → without_methods new ≡ without_methods old → HoldAtMethods methods d old new
taken_over methods d empty made old new nothing held taken rest =
    record {
      listed = λ m h. ap (option_map operation_doc) (taken m) ∙ some_or (operation_at m made) (operation_at m old) d (held.listed m h);
      others = λ m h. taken m ∙ ap (λ o. option_or o (operation_at m old)) (held.others m h ∙ none_at m empty nothing);
      rest = rest;
    }

-- ---- the order of names

abbrev AreAdditionalInOrder : PathItemFields → Type 0
AreAdditionalInOrder i = IsInOrder (map_of_docs operation_doc i.additional_operations)

-- an item whose operations at methods alone were changed
pub still_in_order : (old new : PathItem) → without_methods (out-PathItem new) ≡ without_methods (out-PathItem old) → IsItemInOrder old → IsItemInOrder new
still_in_order old new rest h = subst AreAdditionalInOrder {x = without_methods (out-PathItem old)} {y = without_methods (out-PathItem new)} (sym rest) h

-- an item that has operations at methods alone
pub new_in_order : (empty : PathItemFields) (made : PathItem) → IsEmptyPathItem empty → without_methods (out-PathItem made) ≡ without_methods empty → IsItemInOrder made
unfolding IsStrictlySortedBy
new_in_order empty made nothing rest =
    subst AreAdditionalInOrder {x = without_methods empty} {y = without_methods (out-PathItem made)} (sym rest) (subst (λ es. IsInOrder (map_doc (entries_of_list (pairs_of operation_doc es)))) (sym nothing.14) tt)
