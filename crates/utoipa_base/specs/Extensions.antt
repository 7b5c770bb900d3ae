-- Specification extensions: an object's members whose names begin `x-`.
use Rattle.std.specs.Prelude.{ℕ, List, [], ◌∷◌, ◌++◌, Bool, true, ◌&&◌, if◌then◌else◌, nat_eq, Option, None, Some, codes, String, string_bytes}
use Rattle.std.specs.List.{starts_with}
use Rattle.std.specs.declared.alloc.Global.{Global}
use Rattle.serde_json.specs.Data.{Data, null, boolean, number, string, array, object, Members, no_members, member, put}
use Rattle.serde_json.specs.View.{view, members_view}
use Rattle.serde_json.specs.declared.value.Value.{Value}
use Rattle.utoipa_base.specs.declared.extensions.Extensions.{Extensions}
use Rattle.utoipa_base.specs.declared.extensions.ExtensionsBuilder.{ExtensionsBuilder}

-- the members that extensions hold
abbrev pub extensions_view : Extensions → Members
extensions_view e = members_view e.entries.entries

-- the members that a builder of extensions holds
abbrev pub extensions_builder_view : ExtensionsBuilder → Members
extensions_builder_view b = extensions_view b.extensions

-- ---- names

-- whether a member of this name is an extension
abbrev pub is_extension : List ℕ → Bool
is_extension name = starts_with nat_eq name (codes "x-")

-- the name, with `x-` before it where it does not begin so
abbrev pub extension_name : List ℕ → List ℕ
extension_name name = if is_extension name then name else codes "x-" ++ name

-- ---- changes

-- names, each with a value
abbrev pub Pairs : Type 0
Pairs = List (String Global × Value)

-- the members, with each pair put in turn, so that the later of two equal names stays
abbrev pub put_pairs : Pairs → Members → Members
put_pairs [] ms = ms
put_pairs (p ∷ ps) ms = put_pairs ps (put (string_bytes p.0) (view p.1) ms)

-- the members of `later`, and those of `earlier` whose names `later` lacks
abbrev pub overlaid : Members → Members → Members
overlaid no_members earlier = earlier
overlaid (member name d later) earlier = overlaid later (put name d earlier)

-- ---- extensions among the members of an object

-- the members that are extensions
abbrev pub extension_members : Members → Members
extension_members no_members = no_members
extension_members (member name d ms) = if is_extension name then member name d (extension_members ms) else extension_members ms

-- whether each of the members is an extension
abbrev pub all_extensions : Members → Bool
all_extensions no_members = true
all_extensions (member name d ms) = is_extension name && all_extensions ms

-- the members, or none where there are none
abbrev pub some_if_any : Members → Option Members
some_if_any no_members = None
some_if_any (member name d ms) = Some (member name d ms)

-- the extensions among an object's members, if its type has any
abbrev pub extensions_of : Bool → Members → Option Members
extensions_of has ms = if has then some_if_any (extension_members ms) else None

-- the extensions of a tree, which only an object has, if its type has any
abbrev pub extensions_at : Bool → Data → Option Members
extensions_at has null = None
extensions_at has (boolean b) = None
extensions_at has (number n) = None
extensions_at has (string s) = None
extensions_at has (array ds) = None
extensions_at has (object ms) = extensions_of has ms

-- the members that extensions are written as
abbrev pub members_or_none : Option Members → Members
members_or_none None = no_members
members_or_none (Some ms) = ms
