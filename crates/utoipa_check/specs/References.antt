-- The places where a document refers, by the kind and the tree that it is.
use Rattle.std.specs.Prelude.{ℕ, suc, List, [], ◌∷◌, ◌++◌, map, Bool, true, false, if◌then◌else◌, Option, None, Some, codes}
use Rattle.std.specs.Ordering.{nat_cmp, match_ordering}
use Rattle.std.specs.Cmp.Lexicographic.{slice_cmp}
use Rattle.serde_json.specs.Data.{Data, null, boolean, number, string, array, object, Items, no_items, item, Members, no_members, member}
use Rattle.serde_json.specs.Find.{get_member}
use Rattle.utoipa_base.specs.Extensions.{is_extension}
use Rattle.utoipa_base.specs.Kinds.{ObjectType, path_item_object, reference_object, discriminator_object, Kind, text, list_of, map_of, ordered_map_of, entries_of, ref_or, named, schema, array_items, additional_properties, Row}
use Rattle.utoipa_base.specs.Tables.{table}
use Rattle.utoipa_check.specs.Misfits.{Step, at_name, at_index, Checks, checks, fits_table}
use Rattle.utoipa_check.specs.Referring.{Way, by_reference, by_mapping, by_requirement, State, state}
use Rattle.utoipa_check.specs.Taken.{taken_schema}

-- ---- mentions

-- a place, as the steps that lead to it, and how the text that stands there refers
abbrev pub Mention : Type 0
Mention = List Step × (Way × List ℕ)

abbrev pub Mentions : Type 0
Mentions = List Mention

-- mentions of a tree, by the places of the tree that it stands in
abbrev pub under : Step → Mentions → Mentions
under s [] = []
under s (m ∷ ms) = (s ∷ m.0, m.1) ∷ under s ms

-- a text behind a step
abbrev pub mention : Step → Way → List ℕ → Mentions
mention s w t = (s ∷ [], (w, t)) ∷ []

-- a member that refers if it is a text
abbrev pub text_mention_of : List ℕ → Way → Data → Mentions
text_mention_of name w null = []
text_mention_of name w (boolean b) = []
text_mention_of name w (number n) = []
text_mention_of name w (string t) = mention (at_name name) w t
text_mention_of name w (array ds) = []
text_mention_of name w (object ms) = []

abbrev pub text_mention : List ℕ → Way → Option Data → Mentions
text_mention name w None = []
text_mention name w (Some d) = text_mention_of name w d

-- ---- the members of an object, each with what it mentions

abbrev pub Mentioner : Type 0
Mentioner = Kind → Mentions

abbrev pub Mentioners : Type 0
Mentioners = List (List ℕ × Mentioner)

-- what the member of a name mentions
abbrev pub mentioner_at : List ℕ → Mentioners → Option Mentioner
mentioner_at k [] = None
mentioner_at k (f ∷ fs) = match_ordering (slice_cmp nat_cmp k f.0) (mentioner_at k fs) (Some f.1) (mentioner_at k fs)

-- the members that are no extensions
abbrev pub entry_mentioners : Mentioners → Mentioners
entry_mentioners [] = []
entry_mentioners (f ∷ fs) = if is_extension f.0 then entry_mentioners fs else f ∷ entry_mentioners fs

-- ---- rows, lists and maps

abbrev pub row_mentions : List ℕ → Kind → Option Mentioner → Mentions
row_mentions name k None = []
row_mentions name k (Some f) = under (at_name name) (f k)

abbrev pub rows_mentions : List Row → Mentioners → Mentions
rows_mentions [] fs = []
rows_mentions (r ∷ rs) fs = row_mentions r.name r.kind (mentioner_at r.name fs) ++ rows_mentions rs fs

abbrev pub items_mentions : ℕ → Kind → List Mentioner → Mentions
items_mentions i k [] = []
items_mentions i k (f ∷ fs) = under (at_index i) (f k) ++ items_mentions (suc i) k fs

abbrev pub entries_mentions : Kind → Mentioners → Mentions
entries_mentions k [] = []
entries_mentions k (f ∷ fs) = under (at_name f.0) (f.1 k) ++ entries_mentions k fs

-- ---- what refers

-- the names of a security requirement (Security Requirement Object: section 4.8.30)
abbrev pub requirement_mentions : Members → Mentions
requirement_mentions no_members = []
requirement_mentions (member name d ms) = mention (at_name name) by_requirement name ++ requirement_mentions ms

-- the kind of the entries of a security requirement, and of no other map of the standard
abbrev pub is_scope_list : Kind → Bool
is_scope_list (list_of text) = true
is_scope_list k = false

-- the texts of a mapping
abbrev pub mapping_texts : Members → Mentions
mapping_texts no_members = []
mapping_texts (member name d ms) = text_mention_of name by_mapping d ++ mapping_texts ms

-- a discriminator's mapping (Discriminator Object: section 4.8.25)
abbrev pub mapping_mentions : Option Data → Mentions
mapping_mentions None = []
mapping_mentions (Some null) = []
mapping_mentions (Some (boolean b)) = []
mapping_mentions (Some (number n)) = []
mapping_mentions (Some (string t)) = []
mapping_mentions (Some (array ds)) = []
mapping_mentions (Some (object ms)) = under (at_name (codes "mapping")) (mapping_texts ms)

-- a member `$ref` (Reference Object: section 4.8.23; Path Item Object: section 4.8.9)
abbrev pub own_mention : Members → Mentions
own_mention ms = text_mention (codes "$ref") by_reference (get_member (codes "$ref") ms)

abbrev pub named_mentions : ObjectType → Members → Mentioners → Mentions
named_mentions reference_object ms fs = own_mention ms
named_mentions discriminator_object ms fs = mapping_mentions (get_member (codes "mapping") ms)
named_mentions path_item_object ms fs = own_mention ms ++ rows_mentions (table path_item_object) fs
named_mentions n ms fs = rows_mentions (table n) fs

-- ---- choices

abbrev pub schema_mentions : Members → Checks → Mentioners → Mentions
schema_mentions ms cs fs = rows_mentions (table (taken_schema ms cs)) fs

-- whether an object reads as a reference
abbrev pub is_reference_object : Checks → Bool
is_reference_object cs = fits_table reference_object cs

-- a reference where the object reads as one, else what it is otherwise
abbrev pub reference_or : Members → Checks → Mentions → Mentions
reference_or ms cs own = if is_reference_object cs then own_mention ms else own

-- ---- trees of each sort

abbrev pub array_mentions : List Mentioner → Kind → Mentions
array_mentions fs (list_of k) = items_mentions 0 k fs
array_mentions fs (ref_or k) = array_mentions fs k
array_mentions fs k = []

abbrev pub object_mentions : Members → Checks → Mentioners → Kind → Mentions
object_mentions ms cs fs (map_of k) = if is_scope_list k then requirement_mentions ms else entries_mentions k fs
object_mentions ms cs fs (ordered_map_of k) = entries_mentions k fs
object_mentions ms cs fs (entries_of k) = entries_mentions k (entry_mentioners fs)
object_mentions ms cs fs (ref_or k) = reference_or ms cs (object_mentions ms cs fs k)
object_mentions ms cs fs (named n) = named_mentions n ms fs
object_mentions ms cs fs schema = schema_mentions ms cs fs
object_mentions ms cs fs array_items = reference_or ms cs (schema_mentions ms cs fs)
object_mentions ms cs fs additional_properties = reference_or ms cs (schema_mentions ms cs fs)
-- any tree, and what holds no references: security schemes and OAuth flows
object_mentions ms cs fs k = []

abbrev pub no_mentions : Kind → Mentions
no_mentions k = []

unfoldable mutual
  pub mentioner : Data → (Kind → Mentions)
  mentioner null = no_mentions
  mentioner (boolean b) = no_mentions
  mentioner (number n) = no_mentions
  mentioner (string s) = no_mentions
  mentioner (array ds) = array_mentions (item_mentioners ds)
  mentioner (object ms) = object_mentions ms (checks ms) (mentioners ms)

  pub item_mentioners : Items → List (Kind → Mentions)
  item_mentioners no_items = []
  item_mentioners (item d ds) = mentioner d ∷ item_mentioners ds

  pub mentioners : Members → Mentioners
  mentioners no_members = []
  mentioners (member k d ms) = (k, mentioner d) ∷ mentioners ms

-- the places where a document of a kind refers, in the order of the member tables
abbrev pub mentions : Kind → Data → Mentions
mentions k d = mentioner d k

-- ---- references

-- a place where a document refers, and what has become of the reference
abbrev pub Reference : Type 0
Reference = Mention × State

abbrev pub referring : Data → Mention → Reference
referring d m = (m, state m.1.0 m.1.1 d)

-- the references of a document, by the tree that it is
abbrev pub references : Kind → Data → List Reference
references k d = map (referring d) (mentions k d)
