-- What a tree reads as: every row of a table fits at once, and of a choice the first alternative that gives a document is taken.
use Rattle.std.specs.Prelude.{ℕ, ◌^◌, ℤ, pos, negsuc, nat_lt, List, [], ◌∷◌, Bool, true, false, not, if◌then◌else◌, Option, None, Some, option_map, option_and_then, is_some, codes}
use Rattle.std.specs.List.{list_any}
use Rattle.std.specs.Ordering.{nat_cmp, match_ordering}
use Rattle.std.specs.Cmp.Lexicographic.{slice_cmp}
use Rattle.serde_json.specs.Data.{Num, Data, null, boolean, number, string, array, object, Items, no_items, item, Members, no_members, member}
use Rattle.serde_json.specs.Find.{as_u64, as_integer, as_str, get_member}
use Rattle.utoipa_base.specs.Kinds.{ObjectType, reference_object, one_of_schema, all_of_schema, any_of_schema, array_schema, object_schema, type_word, known_format, Kind, text, flag, whole, numeral, any, word_of, version, list_of, map_of, ordered_map_of, entries_of, ref_or, named, schema, schema_type, schema_format, array_items, additional_properties, security_scheme, api_key, flows, Mark, required, optional, or_null, defaulted, Row}
use Rattle.utoipa_base.specs.Words.{is_word}
use Rattle.utoipa_base.specs.Version.{read_version}
use Rattle.utoipa_base.specs.Choices.{chosen, scheme_types, api_key_places, flow_keys, schema_keywords}
use Rattle.utoipa_base.specs.Docs.{Doc, text_doc, flag_doc, whole_doc, int_doc, uint_doc, tree_doc, word_doc, custom_doc, types_doc, any_value_doc, none_doc, some_doc, ref_doc, own_doc, schema_doc, tagged_doc, flow_doc, list_doc, map_doc, ordered_map_doc, entries_doc, table_doc, Docs, no_docs, doc, Entries, no_entries, entry}
use Rattle.utoipa_base.specs.ByName.{by_name}
use Rattle.utoipa_base.specs.Tables.{table, has_extensions}
use Rattle.utoipa_base.specs.Extensions.{is_extension, extensions_of}

-- ---- results of parts

abbrev pub both : Option Doc → Option Docs → Option Docs
both None o = None
both (Some d) None = None
both (Some d) (Some ds) = Some (doc d ds)

abbrev pub both_entries : List ℕ → Option Doc → Option Entries → Option Entries
both_entries k None o = None
both_entries k (Some d) None = None
both_entries k (Some d) (Some es) = Some (entry k d es)

-- the first that there is
abbrev pub or_else : Option Doc → Option Doc → Option Doc
or_else None o = o
or_else (Some d) o = Some d

abbrev pub only_if : Bool → Option Doc → Option Doc
only_if true o = o
only_if false o = None

-- ---- the members of an object, each with whether it is null and what it reads as

-- what reading an object needs of a member's tree: whether it is null, and what it reads as. A part holds the tree's reader in place of
-- the tree, since `reader` below is structural recursion: it may call itself on the trees in a tree, and may not hand them on to be read
-- elsewhere.
abbrev pub Part : Type 0
Part = Bool × (Kind → Option Doc)

-- whether the tree is null
abbrev pub part_is_null : Part → Bool
part_is_null m = m.0

-- what the tree reads as
abbrev pub part_reads : Part → (Kind → Option Doc)
part_reads m = m.1

-- the parts of an object, each under its member's name
abbrev pub Parts : Type 0
Parts = List (List ℕ × Part)

-- the name that a part stands under
abbrev pub part_name : List ℕ × Part → List ℕ
part_name p = p.0

-- the part that stands under a name
abbrev pub named_part : List ℕ × Part → Part
named_part p = p.1

-- the part at a name
abbrev pub part : List ℕ → Parts → Option Part
part k [] = None
part k (p ∷ ps) = match_ordering (slice_cmp nat_cmp k (part_name p)) (part k ps) (Some (named_part p)) (part k ps)

-- the parts that are no extensions
abbrev pub entry_parts : Parts → Parts
entry_parts [] = []
entry_parts (p ∷ ps) = if is_extension (part_name p) then entry_parts ps else p ∷ entry_parts ps

-- ---- rows

abbrev pub is_null : Data → Bool
is_null null = true
is_null (boolean b) = false
is_null (number n) = false
is_null (string s) = false
is_null (array ds) = false
is_null (object ms) = false

-- what a defaulted member is where it is absent
abbrev pub empty_doc : Kind → Doc
empty_doc text = text_doc []
empty_doc flag = flag_doc false
empty_doc (list_of k) = list_doc no_docs
empty_doc (map_of k) = map_doc no_entries
empty_doc (ordered_map_of k) = ordered_map_doc no_entries
empty_doc schema_type = any_value_doc
empty_doc k = none_doc

-- the field of a row, by the part at its name
abbrev pub fits : Mark → Kind → Option Part → Option Doc
fits required k None = None
fits required k (Some m) = part_reads m k
fits optional k None = Some none_doc
fits optional k (Some m) = if part_is_null m then Some none_doc else option_map some_doc (part_reads m k)
fits or_null k None = Some none_doc
fits or_null k (Some m) = if part_is_null m then Some none_doc else option_map some_doc (part_reads m k)
fits defaulted k None = Some (empty_doc k)
fits defaulted k (Some m) = part_reads m k

abbrev pub read_rows : List Row → Parts → Option Docs
read_rows [] ps = Some no_docs
read_rows (r ∷ rs) ps = both (fits r.mark r.kind (part r.name ps)) (read_rows rs ps)

abbrev pub read_table : ObjectType → Members → Parts → Option Doc
read_table n ms ps = option_map (λ ds. table_doc n ds (extensions_of (has_extensions n) ms)) (read_rows (table n) ps)

-- ---- lists and maps

abbrev pub read_items : Kind → List (Kind → Option Doc) → Option Docs
read_items k [] = Some no_docs
read_items k (r ∷ rs) = both (r k) (read_items k rs)

abbrev pub read_entries : Kind → Parts → Option Entries
read_entries k [] = Some no_entries
read_entries k (p ∷ ps) = both_entries (part_name p) (part_reads (named_part p) k) (read_entries k ps)

-- ---- choices

abbrev pub is_named : List ℕ → Members → Bool
is_named name ms = is_some (get_member name ms)

abbrev pub read_schema : Members → Parts → Option Doc
read_schema ms ps =
    option_map schema_doc
    (or_else (read_table one_of_schema ms ps)
    (or_else (read_table all_of_schema ms ps)
    (or_else (read_table any_of_schema ms ps)
    (or_else (read_table array_schema ms ps)
    (or_else (only_if (is_named (codes "type") ms) (read_table object_schema ms ps))
    (only_if (not (list_any (λ name. is_named name ms) schema_keywords)) (read_table object_schema ms ps)))))))

-- a reference, or else what the place holds
abbrev pub read_ref_or : Kind → Option Doc → Members → Parts → Option Doc
read_ref_or k own ms ps = or_else (option_map (ref_doc k) (read_table reference_object ms ps)) (option_map own_doc own)

-- the text of a member
abbrev pub text_at : List ℕ → Members → Option (List ℕ)
text_at name ms = option_and_then as_str (get_member name ms)

-- an alternative that the word of a member has chosen, where no alternative of it is left to choose
abbrev pub read_alternative : Members → Parts → Kind → Option Doc
read_alternative ms ps (named n) = read_table n ms ps
read_alternative ms ps k = None

-- the alternative that the text of a member chooses
abbrev pub read_tagged : List ℕ → List (List ℕ × Kind) → (Kind → Option Doc) → Members → Option Doc
read_tagged name choices f ms = option_and_then (λ word. option_and_then (λ k. option_map (tagged_doc name word) (f k)) (chosen word choices)) (text_at name ms)

abbrev pub read_api_key : Members → Parts → Option Doc
read_api_key ms ps = read_tagged (codes "in") api_key_places (read_alternative ms ps) ms

abbrev pub read_scheme : Members → Parts → Kind → Option Doc
read_scheme ms ps api_key = read_api_key ms ps
read_scheme ms ps k = read_alternative ms ps k

abbrev pub read_security_scheme : Members → Parts → Option Doc
read_security_scheme ms ps = read_tagged (codes "type") scheme_types (read_scheme ms ps) ms

-- the first of the types beside some keys that fits
abbrev pub first_that_fits : List (List ℕ × ObjectType) → (Kind → Option Doc) → Option Doc
first_that_fits [] r = None
first_that_fits (c ∷ cs) r = or_else (r (named c.1)) (first_that_fits cs r)

-- a flow of the type that its key has chosen, or under another key of the first type that fits
abbrev pub read_flow : Option ObjectType → (Kind → Option Doc) → Option Doc
read_flow (Some n) r = option_map flow_doc (r (named n))
read_flow None r = option_map flow_doc (first_that_fits flow_keys r)

abbrev pub read_flows : Parts → Option Entries
read_flows [] = Some no_entries
read_flows (p ∷ ps) = both_entries (part_name p) (read_flow (chosen (part_name p) flow_keys) (part_reads (named_part p))) (read_flows ps)

-- ---- trees of each sort

abbrev pub read_null : Kind → Option Doc
read_null any = Some (tree_doc null)
read_null schema_type = Some any_value_doc
read_null (ref_or k) = option_map own_doc (read_null k)
read_null k = None

abbrev pub read_boolean : Bool → Kind → Option Doc
read_boolean b flag = Some (flag_doc b)
read_boolean b any = Some (tree_doc (boolean b))
read_boolean b additional_properties = Some (flag_doc b)
read_boolean true array_items = None
read_boolean false array_items = Some (flag_doc false)
read_boolean b (ref_or k) = option_map own_doc (read_boolean b k)
read_boolean b k = None

-- a whole number: an Int where it is an i64, else a UInt. No tree of the program holds a number below -2^63.
abbrev pub numeral_doc : ℤ → Doc
numeral_doc (pos n) = if nat_lt n (2 ^ 63) then int_doc (pos n) else uint_doc n
numeral_doc (negsuc n) = int_doc (negsuc n)

abbrev pub read_number : Num → Kind → Option Doc
read_number n whole = option_map whole_doc (as_u64 n)
read_number n numeral = option_map numeral_doc (as_integer n)
read_number n any = Some (tree_doc (number n))
read_number n (ref_or k) = option_map own_doc (read_number n k)
read_number n k = None

abbrev pub read_word : Bool → List ℕ → Option Doc
read_word true s = Some (word_doc s)
read_word false s = None

abbrev pub read_format : Bool → List ℕ → Doc
read_format true s = word_doc s
read_format false s = custom_doc s

abbrev pub read_string : List ℕ → Kind → Option Doc
read_string s text = Some (text_doc s)
read_string s any = Some (tree_doc (string s))
read_string s (word_of v) = read_word (is_word v s) s
read_string s version = option_map word_doc (read_version s)
read_string s schema_type = read_word (is_word type_word s) s
read_string s schema_format = Some (read_format (is_word known_format s) s)
read_string s (ref_or k) = option_map own_doc (read_string s k)
read_string s k = None

abbrev pub read_array : Items → List (Kind → Option Doc) → Kind → Option Doc
read_array ds rs any = Some (tree_doc (array ds))
read_array ds rs (list_of k) = option_map list_doc (read_items k rs)
read_array ds rs schema_type = option_map (λ ws. types_doc (list_doc ws)) (read_items (word_of type_word) rs)
read_array ds rs (ref_or k) = option_map own_doc (read_array ds rs k)
read_array ds rs k = None

abbrev pub read_object : Members → Parts → Kind → Option Doc
read_object ms ps any = Some (tree_doc (object ms))
read_object ms ps (map_of k) = option_map map_doc (read_entries k ps)
read_object ms ps (ordered_map_of k) = option_map (λ es. ordered_map_doc (by_name es)) (read_entries k ps)
read_object ms ps (entries_of k) = option_map (λ es. entries_doc es (extensions_of true ms)) (read_entries k (entry_parts ps))
read_object ms ps (ref_or k) = read_ref_or k (read_object ms ps k) ms ps
read_object ms ps (named n) = read_table n ms ps
read_object ms ps schema = read_schema ms ps
read_object ms ps array_items = read_ref_or schema (read_schema ms ps) ms ps
read_object ms ps additional_properties = read_ref_or schema (read_schema ms ps) ms ps
read_object ms ps security_scheme = read_security_scheme ms ps
read_object ms ps api_key = read_api_key ms ps
read_object ms ps flows = option_map map_doc (read_flows ps)
read_object ms ps k = None

unfoldable mutual
  pub reader : Data → (Kind → Option Doc)
  reader null = read_null
  reader (boolean b) = read_boolean b
  reader (number n) = read_number n
  reader (string s) = read_string s
  reader (array ds) = read_array ds (item_readers ds)
  reader (object ms) = read_object ms (parts ms)

  pub item_readers : Items → List (Kind → Option Doc)
  item_readers no_items = []
  item_readers (item d ds) = reader d ∷ item_readers ds

  pub parts : Members → Parts
  parts no_members = []
  parts (member k d ms) = (k, (is_null d, reader d)) ∷ parts ms

-- the part of a tree
abbrev pub part_of : Data → Part
part_of d = (is_null d, reader d)

-- the document that the tree is, as the kind says
abbrev pub read : Kind → Data → Option Doc
read k d = reader d k
