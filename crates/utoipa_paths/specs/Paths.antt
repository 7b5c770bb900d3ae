-- The documents of paths, and what their calls come to.
use Rattle.std.specs.Prelude.{◌≡◌, ℕ, List, [], ◌||◌, Option, None, Some, if◌then◌else◌, option_map}
use Rattle.std.specs.Str.{bytes_eq}
use Rattle.std.specs.Option.{is_some, option_or}
use Rattle.std.specs.BTreeMap.{get_by_text}
use Rattle.serde_json.specs.Data.{Data}
use Rattle.serde_json.specs.Find.{get_member}
use Rattle.utoipa_base.specs.Docs.{Doc}
use Rattle.utoipa_base.specs.Extensions.{extensions_view, members_or_none}
use Rattle.utoipa_base.specs.Kinds.{named, path_item_object}
use Rattle.utoipa_base.specs.OfKind.{entries_beside_of_kind}
use Rattle.utoipa_base.specs.Shape.{IsOf, value_of}
use Rattle.utoipa_base.specs.Tables.{paths}
use Rattle.utoipa_base.specs.Views.{entries_beside}
use Rattle.utoipa_base.specs.declared.extensions.Extensions.{Extensions}
use Rattle.utoipa_leaf.specs.declared.path.HttpMethod.{HttpMethod}
use Rattle.utoipa_merging.specs.Merged.{Ascends, names_in}
use Rattle.utoipa_path.specs.Builders.{PathItemFields}
use Rattle.utoipa_path.specs.Docs.{path_item_doc}
use Rattle.utoipa_path.specs.Methods.{IsEmptyPathItem, HoldAtMethods}
use Rattle.utoipa_path.specs.OfKind.{path_item_of_kind}
use Rattle.utoipa_path.specs.declared.types.PathItem.{PathItem, out-PathItem}
use Rattle.utoipa_paths.specs.declared.builder.PathsBuilder.{PathsBuilder}
use Rattle.utoipa_paths.specs.declared.paths.Paths.{Paths}

-- the paths as a document
abbrev pub paths_doc : Paths → Doc
paths_doc p = entries_beside path_item_doc p.paths p.extensions

-- why the paths are of their kind
pub paths_of_kind : (p : Paths) → IsOf (paths_doc p) (value_of paths)
paths_of_kind p = entries_beside_of_kind path_item_doc (named path_item_object) path_item_of_kind p.paths p.extensions

-- the paths of a builder so far
abbrev pub built_paths : PathsBuilder → Paths
built_paths b = b.paths

-- there is no path, and there are no extensions
abbrev pub IsEmptyPaths : Paths → Type 0
IsEmptyPaths p = (p.paths.entries ≡ []) × (p.extensions ≡ None)

-- ---- an operation that is added

-- the fields of the item that stands, or else of one of which nothing is said
abbrev pub AreFieldsOf : Option PathItem → PathItemFields → Type 0
AreFieldsOf None fields = IsEmptyPathItem fields
AreFieldsOf (Some item) fields = out-PathItem item ≡ fields

-- at the path each of the methods has an operation of this document, and all else of the item stands as it did; so do all other paths
pub record IsOperationAdded (path : List ℕ) (methods : List HttpMethod) (d : Doc) (old new : Paths) : Type 0 where
  pub now : PathItem
  pub before : PathItemFields
  pub stood : AreFieldsOf (get_by_text old.paths path) before
  pub added : HoldAtMethods methods d before (out-PathItem now)
  pub items : (q : List ℕ) → get_by_text new.paths q ≡ if bytes_eq path q then Some now else get_by_text old.paths q
  pub extensions : new.extensions ≡ old.extensions

-- ---- extensions that are merged

-- the value of the extension of this name
abbrev pub extension_of : (name : List ℕ) → Option Extensions → Option Data
extension_of name e = get_member name (members_or_none (option_map extensions_view e))

-- there are some where either has some, and each is the later's, or else the earlier's
pub record AreExtensionsMerged (earlier later merged : Option Extensions) : Type 0 where
  pub there : is_some merged ≡ (is_some earlier || is_some later)
  pub values : (name : List ℕ) → extension_of name merged ≡ option_or (extension_of name later) (extension_of name earlier)

-- the names of the extensions ascend
abbrev pub AreExtensionsInOrder : Option Extensions → Type 0
AreExtensionsInOrder e = Ascends (names_in (members_or_none (option_map extensions_view e)))
