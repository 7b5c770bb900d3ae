-- The documents of texts, options, lists and maps.
use Rattle.std.specs.Prelude.{ℕ, List, [], ◌∷◌, Option, None, Some, option_map, map, String, string_bytes, Vec, Box}
use Rattle.std.specs.BTreeMap.{BTreeMap}
use Rattle.std.specs.declared.alloc.Global.{Global}
use Rattle.std.specs.Borrow.{Bor}
use Rattle.indexmap.specs.IndexMap.{IndexMap}
use Rattle.serde_json.specs.View.{view}
use Rattle.serde_json.specs.declared.value.Value.{Value}
use Rattle.serde_json.specs.Data.{Members, no_members, member}
use Rattle.utoipa_base.specs.Writing.{write}
use Rattle.utoipa_base.specs.Extensions.{extensions_view}
use Rattle.utoipa_base.specs.declared.extensions.Extensions.{Extensions}
use Rattle.utoipa_base.specs.Docs.{Doc, text_doc, tree_doc, list_doc, map_doc, ordered_map_doc, entries_doc, docs_of, entries_of_list, option_doc}

abbrev pub text_of : String Global → Doc
text_of s = text_doc (string_bytes s)

abbrev pub tree_of : Value → Doc
tree_of v = tree_doc (view v)

abbrev pub option_of : {X : Type 0} → (X → Doc) → Option X → Doc
option_of f o = option_doc (option_map f o)

-- what a box holds
abbrev pub boxed : {X : Type 0} → (X → Doc) → Box X Global → Doc
boxed f b = f b.value

abbrev pub list_of_docs : {X : Type 0} → (X → Doc) → Vec X Global → Doc
list_of_docs f v = list_doc (docs_of (map f v.items))

-- a map's entries, each with its document
abbrev pub pairs_of : {X : Type 0} → (X → Doc) → List (String Global × X) → List (List ℕ × Doc)
pairs_of f es = map (λ e. (string_bytes e.0, f e.1)) es

abbrev pub map_of_docs : {X : Type 0} → (X → Doc) → BTreeMap (String Global) X → Doc
map_of_docs f m = map_doc (entries_of_list (pairs_of f m.entries))

-- a map beside the extensions of its object
abbrev pub entries_beside : {X : Type 0} → (X → Doc) → BTreeMap (String Global) X → Option Extensions → Doc
entries_beside f m e = entries_doc (entries_of_list (pairs_of f m.entries)) (option_map extensions_view e)

-- a map that keeps its order
abbrev pub ordered_map_of_docs : {X S : Type 0} → (X → Doc) → IndexMap (String Global) X S → Doc
ordered_map_of_docs f m = ordered_map_doc (entries_of_list (pairs_of f m.entries))

-- the members that borrowed entries show, each with its document's tree
abbrev pub shown_members : {X : Type 0} → (X → Doc) → List (Bor (List ℕ) × Bor X) → Members
shown_members f [] = no_members
shown_members f (e ∷ es) = member e.0.now (write (f e.1.now)) (shown_members f es)

-- the entries of a map that may be absent
abbrev pub entries_or_none : {X : Type 0} → Option (BTreeMap (String Global) X) → List (String Global × X)
entries_or_none None = []
entries_or_none (Some m) = m.entries
