-- What may be asked of documents and is told by their parts, as that they are plain.
use Rattle.std.proofs.Common.{◌≡◌, ◌≤◌, ℕ, suc, List, [], ◌∷◌, false, Option, Some, None, IfSome, arith}
use Rattle.std.specs.List.{AllByRecursion}
use Rattle.serde_json.specs.Data.{Data, Members, member}
use Rattle.serde_json.specs.Find.{get_member}
use Rattle.utoipa_base.specs.Kinds.{ObjectType, Row}
use Rattle.utoipa_base.specs.Docs.{Doc, none_doc, some_doc, list_doc, map_doc, entries_doc, table_doc, Docs, no_docs, doc, Entries}
use Rattle.utoipa_base.specs.Extensions.{members_or_none}
use Rattle.utoipa_base.specs.Reading.{is_null}
use Rattle.utoipa_base.specs.Tables.{table as table_of}
use Rattle.utoipa_base.specs.Writing.{write}
use Rattle.utoipa_merging.specs.Slots.{first_doc, rest_docs, list_in, pairs_in}
use Rattle.utoipa_merging.proofs.InOrder.{member_pairs}

-- P holds of the field of each row
abbrev pub AllFields : (P : Doc → Type 0) → List Row → Docs → Type 0
AllFields P [] ds = Unit {0}
AllFields P (r ∷ rs) ds = P (first_doc ds) × AllFields P rs (rest_docs ds)

-- what holds of all documents holds of the rows' fields
pub fields_of_all : (P : Doc → Type 0) → P none_doc → (rs : List Row) (ds : Docs) → AllByRecursion P (list_in ds) → AllFields P rs ds
fields_of_all P none [] ds h = tt
fields_of_all P none (r ∷ rs) no_docs h = (none, fields_of_all P none rs no_docs h)
fields_of_all P none (r ∷ rs) (doc d ds) h = (h.0, fields_of_all P none rs ds h.1)

-- What merging takes apart stands at most this deep: a document stands at 0, its fields at 1, path items and maps of components at 2, and
-- the fields of items at 3.
abbrev pub IsLevel : ℕ → Type 0
IsLevel k = k ≤ 3

pub level_0 : IsLevel 0
level_0 = omega arith

pub level_1 : IsLevel 1
level_1 = omega arith

pub level_2 : IsLevel 2
level_2 = omega arith

pub level_3 : IsLevel 3
level_3 = omega arith

-- A property of documents, by what is asked of what stands in them, and how deep, of the names that it stands under, and of extensions. It
-- says nothing of the order of entries, and of members only where there are any.
pub record Property : Type 1 where
  -- what is asked of a document that stands this deep
  pub Has : ℕ → Doc → Type 0
  -- of a document in a map, under its name
  pub Stands : List ℕ → Doc → Type 0
  -- of the name of an entry beside extensions
  pub Names : List ℕ → Type 0
  -- of the extensions of an object that stands this deep
  pub Extends : ℕ → Option Members → Type 0
  -- of one of them, under its name
  pub Extension : ℕ → List ℕ → Data → Type 0
  -- fields that may be absent. What holds something that is written as null is not asked for
  pub none : (k : ℕ) → IsLevel k → Has (suc k) none_doc
  pub some : (k : ℕ) (d : Doc) → is_null (write d) ≡ false → Has k d → Has k (some_doc d)
  pub in_some : (k : ℕ) (d : Doc) → Has k (some_doc d) → Has k d
  -- lists
  pub list : (k : ℕ) (ds : Docs) → IsLevel k → AllByRecursion (Has (suc k)) (list_in ds) → Has k (list_doc ds)
  pub in_list : (k : ℕ) (ds : Docs) → IsLevel k → Has k (list_doc ds) → AllByRecursion (Has (suc k)) (list_in ds)
  -- maps
  pub map : (k : ℕ) (es : Entries) → IsLevel k → AllByRecursion (λ e. Has (suc k) e.1 × Stands e.0 e.1) (pairs_in es) → Has k (map_doc es)
  pub in_map : (k : ℕ) (es : Entries) → IsLevel k → Has k (map_doc es) → AllByRecursion (λ e. Has (suc k) e.1 × Stands e.0 e.1) (pairs_in es)
  -- objects whose members are entries
  pub object : (k : ℕ) (es : Entries) (e : Option Members) → IsLevel k → AllByRecursion (λ e. Has (suc k) e.1 × Stands e.0 e.1 × Names e.0) (pairs_in es) → Extends k e
      → Has k (entries_doc es e)
  pub in_object : (k : ℕ) (es : Entries) (e : Option Members) → IsLevel k → Has k (entries_doc es e) → AllByRecursion (λ e. Has (suc k) e.1 × Stands e.0 e.1 × Names e.0) (pairs_in es)
  pub beside_object : (k : ℕ) (es : Entries) (e : Option Members) → IsLevel k → Has k (entries_doc es e) → Extends k e
  -- objects of a table, which may stand under each name
  pub table : (k : ℕ) (n : ObjectType) (ds : Docs) (e : Option Members) → IsLevel k → AllByRecursion (Has (suc k)) (list_in ds) → Extends k e → Has k (table_doc n ds e)
  pub in_table : (k : ℕ) (n : ObjectType) (ds : Docs) (e : Option Members) → IsLevel k → Has k (table_doc n ds e) → AllFields (Has (suc k)) (table_of n) ds
  pub beside_table : (k : ℕ) (n : ObjectType) (ds : Docs) (e : Option Members) → IsLevel k → Has k (table_doc n ds e) → Extends k e
  pub stands : (name : List ℕ) (n : ObjectType) (ds : Docs) (e : Option Members) → Stands name (table_doc n ds e)
  -- extensions
  pub no_extensions : (k : ℕ) → IsLevel k → Extends k None
  pub extends : (k : ℕ) (name : List ℕ) (t : Data) (ms : Members) → AllByRecursion (λ e. Extension k e.0 e.1) (member_pairs (member name t ms)) → Extends k (Some (member name t ms))
  pub extension : (k : ℕ) (e : Option Members) → Extends k e → (name : List ℕ) → IfSome (get_member name (members_or_none e)) (Extension k name)
