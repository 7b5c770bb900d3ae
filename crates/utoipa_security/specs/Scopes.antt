-- The scopes of OAuth flows, and their documents.
use Rattle.std.specs.Prelude.{List, [], ◌∷◌, None, String, string_cmp}
use Rattle.std.specs.BTreeMap.{insert_entry}
use Rattle.std.specs.declared.alloc.Global.{Global}
use Rattle.utoipa_base.specs.Kinds.{named, scopes_object, text, map_of}
use Rattle.utoipa_base.specs.Docs.{Doc, table_doc, no_docs, doc}
use Rattle.utoipa_base.specs.Shape.{IsOf, value_of}
use Rattle.utoipa_base.specs.Views.{text_of, map_of_docs}
use Rattle.utoipa_base.specs.OfKind.{text_of_kind, map_of_kind, table_of_kind, next_row, no_rows}
use Rattle.utoipa_security.specs.declared.security.scopes.Scopes.{Scopes}

-- names of scopes, each with a description
abbrev pub Descriptions : Type 0
Descriptions = List (String Global × String Global)

-- the scopes by their names
abbrev pub scopes_entries : Scopes → Descriptions
scopes_entries s = s.scopes.entries

-- the scopes, with each of some put in turn, so that the later of two equal names stays
abbrev pub put_descriptions : Descriptions → Descriptions → Descriptions
put_descriptions [] es = es
put_descriptions (p ∷ ps) es = put_descriptions ps (insert_entry string_cmp es p.0 p.1)

-- scopes as the member `scopes` of a flow
abbrev pub scopes_member : Scopes → Doc
scopes_member s = map_of_docs text_of s.scopes

-- scopes by themselves
abbrev pub scopes_doc : Scopes → Doc
scopes_doc s = table_doc scopes_object (doc (scopes_member s) no_docs) None

-- the member `scopes` is a map of texts
pub scopes_member_of_kind : (s : Scopes) → IsOf (scopes_member s) (value_of (map_of text))
scopes_member_of_kind s = map_of_kind text_of text text_of_kind s.scopes

-- scopes by themselves are an object of their type
pub scopes_of_kind : (s : Scopes) → IsOf (scopes_doc s) (value_of (named scopes_object))
scopes_of_kind s =
    table_of_kind _ _
    (next_row (scopes_member_of_kind s) no_rows)
    tt
