-- The tree that a document is written as.
use Rattle.std.specs.Prelude.{ℕ, List, [], ◌∷◌, Bool, true, false}
use Rattle.std.specs.Ordering.{nat_cmp, match_ordering}
use Rattle.std.specs.Cmp.Lexicographic.{slice_cmp}
use Rattle.serde_json.specs.Data.{unsigned, Data, null, boolean, number, string, array, object, Items, no_items, item, Members, no_members, member, put}
use Rattle.serde_json.specs.Find.{of_integer}
use Rattle.utoipa_base.specs.Kinds.{Mark, required, optional, or_null, defaulted, Row}
use Rattle.utoipa_base.specs.Docs.{Doc, text_doc, flag_doc, whole_doc, int_doc, uint_doc, tree_doc, word_doc, custom_doc, types_doc, any_value_doc, none_doc, some_doc, ref_doc, own_doc, schema_doc, tagged_doc, flow_doc, list_doc, map_doc, ordered_map_doc, entries_doc, table_doc, Docs, no_docs, doc, Entries, no_entries, entry}
use Rattle.utoipa_base.specs.Version.{is_empty_text}
use Rattle.utoipa_base.specs.Tables.{table}
use Rattle.utoipa_base.specs.Extensions.{members_or_none}

-- ---- which members are left out

abbrev pub is_empty_docs : Docs → Bool
is_empty_docs no_docs = true
is_empty_docs (doc d ds) = false

abbrev pub is_empty_entries : Entries → Bool
is_empty_entries no_entries = true
is_empty_entries (entry k d es) = false

-- the empty text, list and map, false, and the type of any value
abbrev pub is_empty : Doc → Bool
is_empty (text_doc s) = is_empty_text s
is_empty (flag_doc true) = false
is_empty (flag_doc false) = true
is_empty any_value_doc = true
is_empty (list_doc ds) = is_empty_docs ds
is_empty (map_doc es) = is_empty_entries es
is_empty (ordered_map_doc es) = is_empty_entries es
is_empty d = false

abbrev pub is_none : Doc → Bool
is_none none_doc = true
is_none d = false

abbrev pub left_out : Mark → Doc → Bool
left_out required d = false
left_out optional d = is_none d
left_out or_null d = false
left_out defaulted d = is_empty d

-- ---- members among members

abbrev pub put_unless : Bool → List ℕ → Data → Members → Members
put_unless true name written ms = ms
put_unless false name written ms = put name written ms

-- the members, with what a row's field is written as
abbrev pub put_row : Row → Doc → Data → Members → Members
put_row r d written ms = put_unless (left_out r.mark d) r.name written ms

-- a member before the rest of its list and among the members of another
abbrev pub merge_member : List ℕ → Data → (Members → Members) → Members → Members
merge_member k d rest no_members = member k d (rest no_members)
merge_member k d rest (member l e ms) =
    match_ordering (slice_cmp nat_cmp k l) (member k d (rest (member l e ms))) (member k d (rest ms)) (member l e (merge_member k d rest ms))

-- the members of both, in the order of their names, where the first has precedence
abbrev pub merge_members : Members → Members → Members
merge_members no_members ms = ms
merge_members (member k d es) ms = merge_member k d (merge_members es) ms

-- an object with one more member; another tree stays
abbrev pub with_member : List ℕ → Data → Data → Data
with_member name d null = null
with_member name d (boolean b) = boolean b
with_member name d (number n) = number n
with_member name d (string s) = string s
with_member name d (array ds) = array ds
with_member name d (object ms) = object (put name d ms)

-- ---- the written tree

unfoldable mutual
  pub write : Doc → Data
  write (text_doc s) = string s
  write (flag_doc b) = boolean b
  write (whole_doc n) = number (unsigned n)
  write (int_doc z) = number (of_integer z)
  write (uint_doc n) = number (unsigned n)
  write (tree_doc d) = d
  write (word_doc s) = string s
  write (custom_doc s) = string s
  write (types_doc d) = write d
  write any_value_doc = null
  write none_doc = null
  write (some_doc d) = write d
  write (ref_doc k d) = write d
  write (own_doc d) = write d
  write (schema_doc d) = write d
  write (tagged_doc name word d) = with_member name (string word) (write d)
  write (flow_doc d) = write d
  write (list_doc ds) = array (write_items ds)
  write (map_doc es) = object (write_entries es)
  write (ordered_map_doc es) = object (put_written es no_members)
  write (entries_doc es e) = object (merge_members (write_entries es) (members_or_none e))
  write (table_doc n ds e) = object (write_rows ds (table n) (members_or_none e))

  pub write_items : Docs → Items
  write_items no_docs = no_items
  write_items (doc d ds) = item (write d) (write_items ds)

  pub write_entries : Entries → Members
  write_entries no_entries = no_members
  write_entries (entry name d es) = member name (write d) (write_entries es)

  -- the members, with the entries put among them, one after the other
  pub put_written : Entries → Members → Members
  put_written no_entries ms = ms
  put_written (entry name d es) ms = put_written es (put name (write d) ms)

  -- the members, with the fields of the rows
  pub write_rows : Docs → List Row → Members → Members
  write_rows no_docs rs ms = ms
  write_rows (doc d ds) [] ms = ms
  write_rows (doc d ds) (r ∷ rs) ms = write_rows ds rs (put_row r d (write d) ms)
