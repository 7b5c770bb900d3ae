-- What it means that a document is nested into another: each of its paths stands where a composer of paths puts it, and the rest is merged.
use Rattle.std.specs.Prelude.{◌≡◌, ℕ, List, [], ◌∷◌, Option, None, Some, map, length, if◌then◌else◌, codes}
use Rattle.std.specs.Option.{option_or}
use Rattle.std.specs.Str.{bytes_eq}
use Rattle.serde_json.specs.Data.{Members}
use Rattle.utoipa_base.specs.Kinds.{open_api_object, Row}
use Rattle.utoipa_base.specs.Docs.{Doc, Docs, doc, Entries, no_entries, entries_doc, table_doc}
use Rattle.utoipa_base.specs.Tables.{table}
use Rattle.utoipa_merging.specs.Rules.{last_of}
use Rattle.utoipa_merging.specs.Slots.{extensions_in, entries_in, entry_at, paths_of, first_doc, rest_docs}
use Rattle.utoipa_merging.specs.Merged.{IsMerged}

-- the fields of rows, with another at the first row of this name
abbrev pub with_field : List ℕ → Doc → List Row → Docs → Docs
with_field name d [] ds = ds
with_field name d (r ∷ rs) ds = if bytes_eq name r.name then doc d (rest_docs ds) else doc (first_doc ds) (with_field name d rs (rest_docs ds))

-- the document, with other entries and extensions as its paths
abbrev pub with_paths : Entries → Option Members → Doc → Doc
with_paths es e (table_doc open_api_object ds extensions) = table_doc open_api_object (with_field (codes "paths") (entries_doc es e) (table open_api_object) ds) extensions
with_paths es e d = d

-- the nested items, each under the composer's answer to its path
abbrev pub answered : (answers : List (List ℕ)) → List (List ℕ × Doc) → List (List ℕ × Doc)
answered [] nested = []
answered (answer ∷ answers) [] = []
answered (answer ∷ answers) (p ∷ nested) = (answer, p.1) ∷ answered answers nested

-- the item of an entry, where it stands at this path
abbrev pub item_if : List ℕ → List ℕ × Doc → Option Doc
item_if path p = if bytes_eq path p.0 then Some p.1 else None

-- the item at a path once the nested ones were put: that of the last nested path with this answer, or else the document's own
abbrev pub mounted_at : (answers : List (List ℕ)) (other self : Doc) (path : List ℕ) → Option Doc
mounted_at answers other self path =
    option_or (last_of (map (item_if path) (answered answers (entries_in (paths_of other))))) (entry_at path (paths_of self))

-- d is `self` with `other` nested into it, where these are the composer's answers to the paths of `other`, in their order. The nested items
-- are put into the paths of `self`, and what comes of that is merged with `other` without its paths and their extensions.
pub record IsNested (answers : List (List ℕ)) (self other d : Doc) : Type 0 where
  pub items : Entries
  pub each_answered : length answers ≡ length (entries_in (paths_of other))
  pub mounted : (path : List ℕ) → entry_at path (entries_doc items None) ≡ mounted_at answers other self path
  pub merged : IsMerged (with_paths items (extensions_in (paths_of self)) self ∷ with_paths no_entries None other ∷ []) d
