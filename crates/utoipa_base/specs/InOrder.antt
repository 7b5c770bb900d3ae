-- The members of an object in the order of their names: the fields of its table's rows, and its extensions among them.
use Rattle.std.specs.Prelude.{◌≡◌, ℕ, List, [], ◌∷◌, Bool, true, false, ◌&&◌, Option, Some, None, option_map}
use Rattle.std.specs.Option.{option_and_then}
use Rattle.std.specs.Ordering.{nat_cmp, match_ordering, is_eq}
use Rattle.std.specs.declared.cmp.Ordering.{Ordering}
use Rattle.std.specs.declared.cmp.Ordering.TheVariants.{Less, Equal, Greater}
use Rattle.std.specs.Cmp.Lexicographic.{slice_cmp}
use Rattle.serde_json.specs.Data.{Data, Members, no_members, member}
use Rattle.utoipa_base.specs.Docs.{Doc, text_doc, flow_doc, tagged_doc, table_doc, Docs, no_docs, doc}
use Rattle.utoipa_base.specs.Kinds.{Row, required, text}
use Rattle.utoipa_base.specs.Tables.{table, row}
use Rattle.utoipa_base.specs.Writing.{write, left_out}

-- ---- fields

-- a row and its field
abbrev pub Field : Type 0
Field = Row × Doc

-- the fields of some rows
abbrev pub fields_by : Docs → List Row → List Field
fields_by no_docs rs = []
fields_by (doc d ds) [] = []
fields_by (doc d ds) (r ∷ rs) = (r, d) ∷ fields_by ds rs

abbrev pub is_less : Ordering → Bool
is_less Less = true
is_less Equal = false
is_less Greater = false

abbrev pub is_greater : Ordering → Bool
is_greater Less = false
is_greater Equal = false
is_greater Greater = true

-- whether a name comes before those of all fields
abbrev pub is_below : List ℕ → List Field → Bool
is_below k [] = true
is_below k (q ∷ qs) = is_less (slice_cmp nat_cmp k q.0.name) && is_below k qs

-- before a field, or later than it
abbrev pub placed : Bool → Bool → Field → Field → List Field → Option (List Field) → Option (List Field)
placed true later p q qs more = Some (p ∷ q ∷ qs)
placed false true p q qs more = option_map (λ r. q ∷ r) more
placed false false p q qs more = None

-- a field in its place among fields in order; none where one has its name
abbrev pub insert : Field → List Field → Option (List Field)
insert p [] = Some (p ∷ [])
insert p (q ∷ qs) = placed (is_below p.0.name (q ∷ qs)) (is_greater (slice_cmp nat_cmp p.0.name q.0.name)) p q qs (insert p qs)

-- ---- the fields of an object

-- the field of a tag
abbrev pub tag : List ℕ → List ℕ → Field
tag name word = (row name required text, text_doc word)

-- the fields of an object, with the one of a tag
abbrev pub tagged : List ℕ → List ℕ → List Field × Option Members → Option (List Field × Option Members)
tagged name word p = option_map (λ ps. (ps, p.1)) (insert (tag name word) p.0)

-- the fields of an object in the order of their names, and its extensions, where the document is one of a table, with any tags
abbrev pub object_parts : Doc → Option (List Field × Option Members)
object_parts (table_doc n ds e) = Some (fields_by ds (table n), e)
object_parts (tagged_doc name word d) = option_and_then (tagged name word) (object_parts d)
object_parts (flow_doc d) = object_parts d
object_parts d = None

-- the document is an object, whose fields in the order of their names are those of the rows, and it has these extensions
abbrev pub IsObjectBy : Doc → Docs → List Row → Option Members → Type 0
IsObjectBy d ds rs e = object_parts d ≡ Some (fields_by ds rs, e)

-- ---- the members that are there

abbrev pub member_unless : Bool → List ℕ → Data → Members → Members
member_unless true k d ms = ms
member_unless false k d ms = member k d ms

-- the members of the rows that are not left out
unfoldable pub row_members : Docs → List Row → Members
row_members no_docs rs = no_members
row_members (doc d ds) [] = no_members
row_members (doc d ds) (r ∷ rs) = member_unless (left_out r.mark d) r.name (write d) (row_members ds rs)

-- ---- members among others

-- the members of both, one after the other
abbrev pub joined : Members → Members → Members
joined no_members ms = ms
joined (member k d es) ms = member k d (joined es ms)

-- the members whose names come before one
abbrev pub names_before : List ℕ → Members → Members
names_before k no_members = no_members
names_before k (member l e ms) = match_ordering (slice_cmp nat_cmp k l) no_members no_members (member l e (names_before k ms))

-- the members whose names come after one
abbrev pub names_after : List ℕ → Members → Members
names_after k no_members = no_members
names_after k (member l e ms) = match_ordering (slice_cmp nat_cmp k l) (member l e ms) ms (names_after k ms)

-- whether the first of members comes before a name
abbrev pub starts_before : List ℕ → Members → Bool
starts_before k no_members = false
starts_before k (member l e ms) = is_greater (slice_cmp nat_cmp k l)

-- whether the first of members has a name
abbrev pub starts_with_name : List ℕ → Members → Bool
starts_with_name k no_members = false
starts_with_name k (member l e ms) = is_eq (slice_cmp nat_cmp k l)

-- the first of members, alone
abbrev pub first_member : Members → Members
first_member no_members = no_members
first_member (member k d ms) = member k d no_members

-- the members after the first
abbrev pub later_members : Members → Members
later_members no_members = no_members
later_members (member k d ms) = ms

-- members, each after those of the others whose names come before its own
abbrev pub among : Members → Members → Members
among no_members es = no_members
among (member k d ms) es = joined (names_before k es) (member k d (among ms (names_after k es)))

-- those of the others that come after all of the members
abbrev pub rest_after : Members → Members → Members
rest_after no_members es = es
rest_after (member k d ms) es = rest_after ms (names_after k es)
