-- Trees part by part: lists, members and maps.
use Rattle.std.proofs.Common.{◌≡◌, List, [], ◌∷◌, ◌++◌, map, refl, sym, ap, ◌∙◌, String, Global, string_bytes}
use Rattle.serde_json.specs.Data.{Data, array, object, no_members, member}
use Rattle.serde_json.specs.View.{view, members_view, items_of}
use Rattle.serde_json.proofs.Views.{Entry}
use Rattle.utoipa_base.specs.Docs.{Doc, list_doc, map_doc, docs_of, entries_of_list}
use Rattle.utoipa_base.specs.InOrder.{joined}
use Rattle.utoipa_base.specs.Views.{pairs_of}
use Rattle.utoipa_base.specs.Writing.{write}
use Rattle.utoipa_base.proofs.ByKind.{write-list, write_items-docs_of}
use Rattle.utoipa_base.proofs.Maps.{write-map, members_by, write_entries-entries_of_list}

-- ---- lists

-- a list of documents is written as that of their trees
pub list_of_trees : {X : Type 0} (f : X → Doc) (xs : List X) → array (items_of (map (λ x. write (f x)) xs)) ≡ write (list_doc (docs_of (map f xs)))
list_of_trees f xs = ap array (sym (write_items-docs_of f xs)) ∙ sym (write-list (docs_of (map f xs)))

-- ---- members and maps

pub members_by-last : {X : Type 0} (f : X → Data) (es : List (String Global × X)) (e : String Global × X) → joined (members_by f es) (member (string_bytes e.0) (f e.1) no_members) ≡ members_by f (es ++ e ∷ [])
members_by-last f [] e = refl
members_by-last f (x ∷ es) e = ap (member (string_bytes x.0) (f x.1)) (members_by-last f es e)

-- a map of documents is written as that of their trees
pub map_of_trees : {X : Type 0} (f : X → Doc) (es : List (String Global × X)) → object (members_by (λ x. write (f x)) es) ≡ write (map_doc (entries_of_list (pairs_of f es)))
map_of_trees f es = ap object (sym (write_entries-entries_of_list f es)) ∙ sym (write-map (entries_of_list (pairs_of f es)))

-- the members of a tree
pub view_by : (es : List Entry) → members_by view es ≡ members_view es
view_by [] = refl
view_by (e ∷ es) = ap (member (string_bytes e.0) (view e.1)) (view_by es)
