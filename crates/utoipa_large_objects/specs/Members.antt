-- Objects of which some members are read one by one.
use Rattle.std.specs.Prelude.{◌≡◌, ℕ, ◌+◌, ◌<◌, ◌≤◌, List, [], ◌∷◌, Bool, true, false, Some, String}
use Rattle.std.specs.Global.{Global}
use Rattle.json.specs.Token.{Token}
use Rattle.serde_json.specs.Data.{Data, object, Members, put}
use Rattle.serde_json.specs.Find.{get_member}
use Rattle.serde_json.specs.View.{members_view}
use Rattle.serde_json.specs.declared.value.Value.{Value}
use Rattle.utoipa_base.specs.Docs.{Doc, table_doc, Docs, no_docs, doc}
use Rattle.utoipa_base.specs.Extensions.{is_extension, extension_members}
use Rattle.utoipa_base.specs.Fields.{fields}
use Rattle.utoipa_base.specs.FromTokens.{Comes}
use Rattle.utoipa_base.specs.Kinds.{Row}
use Rattle.utoipa_base.specs.OpenRows.{is_row}
use Rattle.utoipa_base.specs.Rows.{rows_values}
use Rattle.utoipa_base.specs.Values.{members_values, docs_schema_count}

-- An object that comes first in the tokens `old`, where `new` are the tokens after it, was read in two parts: the members of the rows `rs` as the
-- fields of `v`, and all others as they are. The counter of schema readings stood at `start` and stands at `now`.
pub record MembersFromTokens {A : Type 0} (rs : List Row) (docs : A → Docs) (v : A) (others : List (String Global × Value)) (depth : ℕ) (old new : List Token) (start now : ℕ) : Type 0 where
  pub found : Members
  pub comes : Comes (object found) depth old new
  pub fields : fields rs (object found) ≡ Some (docs v)
  -- under other names stand the members of the object
  pub same : (name : List ℕ) → is_row name rs ≡ false → get_member name (members_view others) ≡ get_member name found
  -- its extensions are among them, and are all there are where a member that is no extension is put
  pub extensions : extension_members (members_view others) ≡ extension_members found
  pub put_beside : (name : List ℕ) (d : Data) → is_extension name ≡ false → extension_members (put name d (members_view others)) ≡ extension_members found
  -- both parts have no more values than the object
  pub fewer : rows_values rs (object found) + members_values (members_view others) ≤ members_values found
  pub grows : start ≤ now
  pub at_most : now ≤ start + rows_values rs (object found)
  pub at_least : now < 18446744073709551615 → start + docs_schema_count (docs v) ≤ now

-- the fields of a table, at each true the next of some others in place of its own
abbrev pub replaced : List Bool → Docs → Docs → Docs
replaced [] es ds = ds
replaced (b ∷ order) es no_docs = no_docs
replaced (true ∷ order) no_docs (doc d ds) = doc d ds
replaced (true ∷ order) (doc e es) (doc d ds) = doc e (replaced order es ds)
replaced (false ∷ order) es (doc d ds) = doc d (replaced order es ds)

-- a document with such fields
abbrev pub with_fields : List Bool → Docs → Doc → Doc
with_fields order es (table_doc n ds extensions) = table_doc n (replaced order es ds) extensions
with_fields order es d = d
