-- A field of an object by the row of its member, as it is read and as it is written.
use Rattle.std.specs.Prelude.{ℕ, List, [], ◌∷◌, Option, None, Some, option_map}
use Rattle.serde_json.specs.Data.{Data, Members}
use Rattle.serde_json.specs.Find.{get}
use Rattle.utoipa_base.specs.Kinds.{Kind, Mark, Row}
use Rattle.utoipa_base.specs.Docs.{Doc, none_doc, some_doc, Docs, no_docs}
use Rattle.utoipa_base.specs.Reading.{read, part_of, fits, both}
use Rattle.utoipa_base.specs.Writing.{write, put_row}

-- the field of a row, by the tree that stands at its name
abbrev pub field_of : Mark → Kind → Option Data → Option Doc
field_of m k o = fits m k (option_map part_of o)

-- the field of a row in an object
unfoldable pub field : Row → Data → Option Doc
field r d = field_of r.mark r.kind (get r.name d)

-- a member that may be absent, where null is a value like any other
unfoldable pub present : List ℕ → Kind → Data → Option Doc
present name k d = elim (get name d) [ None ↦ Some none_doc | Some e ↦ option_map some_doc (read k e) ]

-- the fields of a table's rows
unfoldable pub fields : List Row → Data → Option Docs
fields [] d = Some no_docs
fields (r ∷ rs) d = both (field r d) (fields rs d)

-- the members, with a row's field written
unfoldable pub put_field : Row → Doc → Members → Members
put_field r d ms = put_row r d (write d) ms
