-- Trees and documents as examples state them.
use Prim.Native.String.{String}
use Rattle.std.specs.Prelude.{◌≡◌, ℕ, List, [], ◌∷◌, if◌then◌else◌, Option, None, Some, option_map, codes}
use Rattle.std.specs.Str.{bytes_eq}
use Rattle.serde_json.specs.Data.{unsigned, Data, number, string, array, object, Items, no_items, item, Members, no_members, member}
use Rattle.utoipa_base.specs.Kinds.{ObjectType, Kind, Mark, required, optional, or_null, defaulted, Row}
use Rattle.utoipa_base.specs.Docs.{Doc, none_doc, table_doc, Docs, no_docs, doc, Entries, no_entries, entry}
use Rattle.utoipa_base.specs.Tables.{table}
use Rattle.utoipa_base.specs.Reading.{read, empty_doc}
use Rattle.utoipa_base.specs.Writing.{write}
use Rattle.utoipa_base.specs.Values.{schema_count}

-- ---- trees

abbrev pub members_of : List (String × Data) → Members
members_of [] = no_members
members_of (m ∷ ms) = member (codes m.0) m.1 (members_of ms)

abbrev pub items_of : List Data → Items
items_of [] = no_items
items_of (d ∷ ds) = item d (items_of ds)

-- an object with these members, which stand in the order of their names
abbrev pub members : List (String × Data) → Data
members ms = object (members_of ms)

abbrev pub list : List Data → Data
list ds = array (items_of ds)

abbrev pub str : String → Data
str s = string (codes s)

abbrev pub num : ℕ → Data
num n = number (unsigned n)

-- ---- documents

abbrev pub entries : List (String × Doc) → Entries
entries [] = no_entries
entries (e ∷ es) = entry (codes e.0) e.1 (entries es)

-- a field that nothing was given for
abbrev pub absent : Mark → Kind → Doc
absent required k = empty_doc k
absent optional k = none_doc
absent or_null k = none_doc
absent defaulted k = empty_doc k

abbrev pub given : List ℕ → Doc → List (String × Doc) → Doc
given name d [] = d
given name d (f ∷ fs) = if bytes_eq name (codes f.0) then f.1 else given name d fs

abbrev pub filled : List Row → List (String × Doc) → Docs
filled [] fs = no_docs
filled (r ∷ rs) fs = doc (given r.name (absent r.mark r.kind) fs) (filled rs fs)

-- an object of a type with these fields, the others absent, and these extensions
abbrev pub built : ObjectType → List (String × Doc) → Option Members → Doc
built n fs e = table_doc n (filled (table n) fs) e

-- ---- statements

-- what is written for what a tree reads as
abbrev pub prints : Kind → Data → Option Data
prints k t = option_map write (read k t)

-- the tree is read, and what it reads as is written so
abbrev pub Prints : Kind → Data → Data → Type 0
Prints k t u = prints k t ≡ Some u

-- the tree is read, and what it reads as is written as it was
abbrev pub Keeps : Kind → Data → Type 0
Keeps k t = Prints k t t

-- nothing is read from the tree
abbrev pub IsRefused : Kind → Data → Type 0
IsRefused k t = read k t ≡ None

-- the tree reads as this document
abbrev pub IsReadAs : Kind → Data → Doc → Type 0
IsReadAs k t d = read k t ≡ Some d

-- how many schemas stand in what a tree reads as
abbrev pub schemas_of : Kind → Data → Option ℕ
schemas_of k t = option_map schema_count (read k t)
