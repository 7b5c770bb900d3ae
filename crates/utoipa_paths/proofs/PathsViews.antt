-- Paths whose items and extensions were merged.
use Rattle.std.proofs.Common.{◌≡◌, List, [], ◌∷◌, ◌++◌, Option, Some, None, IfSome, codes, option_map, map, refl, sym, ap, ◌∙◌, subst}
use Rattle.std.specs.Option.{is_some}
use Rattle.std.specs.BTreeMap.{get_by_text}
use Rattle.std.specs.List.{AllByRecursion}
use Rattle.std.specs.List.Sorted.{IsStrictlySortedBy}
use Rattle.std.proofs.lemmas.List.{map-append}
use Rattle.utoipa_base.specs.Docs.{Doc, entries_doc, entries_of_list}
use Rattle.utoipa_base.specs.Fill.{Pairs}
use Rattle.utoipa_base.specs.Extensions.{extensions_view}
use Rattle.utoipa_base.specs.Views.{pairs_of}
use Rattle.utoipa_base.specs.declared.extensions.Extensions.{Extensions}
use Rattle.utoipa_merging.specs.Merged.{ArePathsMerged, ArePathsInOrder, IsInOrder}
use Rattle.utoipa_merging.specs.Slots.{path_slot, has_extensions, field_at}
use Rattle.utoipa_merging.proofs.Options.{or_none, or_false}
use Rattle.utoipa_merging.proofs.Composition.{paths_compose}
use Rattle.utoipa_merging.proofs.ItemWalks.{items_none}
use Rattle.utoipa_merging.proofs.MapViews.{entry_at-map}
use Rattle.utoipa_path.specs.Docs.{path_item_doc}
use Rattle.utoipa_path.specs.declared.types.PathItem.{PathItem}
use Rattle.utoipa_paths.specs.Items.{AreItemsInOrder}
use Rattle.utoipa_paths.specs.Paths.{paths_doc, IsEmptyPaths, extension_of, AreExtensionsInOrder}
use Rattle.utoipa_paths.proofs.ItemSteps.{none_in_order}
use Rattle.utoipa_paths.specs.declared.paths.Paths.{Paths}

-- ---- merged

viewed : (e : Option Extensions) → is_some (option_map extensions_view e) ≡ is_some e
viewed None = refl
viewed (Some x) = refl

-- one alone is merged
paths_one : (d : Doc) → ArePathsMerged (d ∷ []) d
paths_one d =
    record {
      items = λ path s. sym (or_none (path_slot path s d));
      extended = sym (or_false (has_extensions d));
      extensions = λ name. refl;
    }

-- of none there are no paths
pub paths_none : (p : Paths) → IsEmptyPaths p → ArePathsMerged [] (paths_doc p)
paths_none p empty =
    record {
      items = items_none path_item_doc p.paths empty.0;
      extended = viewed p.extensions ∙ ap is_some empty.1;
      extensions = λ name. ap (extension_of name) empty.1;
    }

-- one more was merged
pub paths_more : (all : List Paths) (so_far next more : Paths) → ArePathsMerged (map paths_doc all) (paths_doc so_far) → ArePathsMerged (paths_doc so_far ∷ paths_doc next ∷ []) (paths_doc more)
    → ArePathsMerged (map paths_doc (all ++ next ∷ [])) (paths_doc more)
paths_more all so_far next more h g =
    rw (map-append paths_doc all (next ∷ [])) (paths_compose (map paths_doc all) (paths_doc next ∷ []) (paths_doc so_far) (paths_doc next) (paths_doc more) h (paths_one (paths_doc next)) g)

-- ---- in order

seen_if_any : (P : Doc → Type 0) (o : Option PathItem) → IfSome o (λ i. P (path_item_doc i)) → IfSome (option_map path_item_doc o) P
seen_if_any P None h = h
seen_if_any P (Some i) h = h

unseen_if_any : (P : Doc → Type 0) (o : Option PathItem) → IfSome (option_map path_item_doc o) P → IfSome o (λ i. P (path_item_doc i))
unseen_if_any P None h = h
unseen_if_any P (Some i) h = h

abbrev OperationsInOrder : Doc → Type 0
OperationsInOrder item = IsInOrder (field_at (codes "additionalOperations") item)

-- paths are in order where their items and their extensions are
pub paths_in_order : (p : Paths) → AreItemsInOrder p.paths → AreExtensionsInOrder p.extensions → ArePathsInOrder (paths_doc p)
paths_in_order p items e =
    record {
      entries = items.paths;
      extensions = e;
      operations = λ path. subst (λ o. IfSome o OperationsInOrder) (sym (entry_at-map path_item_doc p.paths path)) (seen_if_any OperationsInOrder (get_by_text p.paths path) (items.operations path));
    }

pub items_in_order : (p : Paths) → ArePathsInOrder (paths_doc p) → AreItemsInOrder p.paths
items_in_order p h =
    record {
      paths = h.entries;
      operations = λ path. unseen_if_any OperationsInOrder (get_by_text p.paths path) (subst (λ o. IfSome o OperationsInOrder) (entry_at-map path_item_doc p.paths path) (h.operations path));
    }

-- paths are in order where there are none
pub none_ordered : (p : Paths) → IsEmptyPaths p → ArePathsInOrder (paths_doc p)
unfolding IsStrictlySortedBy
none_ordered p empty = paths_in_order p (none_in_order p.paths empty.0) (subst AreExtensionsInOrder (sym empty.1) tt)

-- what holds of each of some and of one more
pub all_but_last : {X : Type 0} (P : X → Type 0) (xs : List X) (x : X) → AllByRecursion P (xs ++ x ∷ []) → AllByRecursion P xs × P x
all_but_last P [] x h = (tt, h.0)
all_but_last P (y ∷ xs) x h = let both = all_but_last P xs x h.1 in ((h.0, both.0), both.1)

-- the same entries and extensions make the same document
pub same_paths : (a b : Paths) → a.paths.entries ≡ b.paths.entries → a.extensions ≡ b.extensions → paths_doc a ≡ paths_doc b
same_paths a b items extensions = λ i. entries_beside_of (items i) (extensions i)
  where
    entries_beside_of : Pairs PathItem → Option Extensions → Doc
    entries_beside_of es e = entries_doc (entries_of_list (pairs_of path_item_doc es)) (option_map extensions_view e)
