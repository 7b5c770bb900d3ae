-- Which documents are of a kind. Every value of a type is of the type's kind.
use Rattle.std.specs.Prelude.{◌≡◌, ℕ, List, [], ◌∷◌, Bool, true, false, not, Option, None, Some, codes}
use Rattle.serde_json.specs.Data.{Members}
use Rattle.utoipa_base.specs.Kinds.{ObjectType, reference_object, type_word, known_format, Kind, text, flag, whole, numeral, any, word_of, version, list_of, map_of, ordered_map_of, entries_of, ref_or, named, schema, schema_type, schema_format, array_items, additional_properties, security_scheme, api_key, flows, Mark, required, optional, or_null, defaulted, Row}
use Rattle.utoipa_base.specs.Words.{is_word}
use Rattle.utoipa_base.specs.Version.{is_version}
use Rattle.utoipa_base.specs.Choices.{chosen, scheme_types, api_key_places, IsFlow, is_schema_type}
use Rattle.utoipa_base.specs.Docs.{Doc, text_doc, flag_doc, whole_doc, int_doc, uint_doc, tree_doc, word_doc, custom_doc, types_doc, any_value_doc, none_doc, some_doc, ref_doc, own_doc, schema_doc, tagged_doc, flow_doc, list_doc, map_doc, ordered_map_doc, entries_doc, table_doc, Docs, no_docs, doc, Entries, no_entries, entry}
use Rattle.utoipa_base.specs.Tables.{table, has_extensions}

-- what may stand somewhere: a value of a kind, such a value or none, or an OAuth flow
pub data Place : Type 0 where
  value_of : Kind → Place
  option_of : Kind → Place
  flow_place : Place

-- the place of a row's field
abbrev pub field_place : Mark → Kind → Place
field_place required k = value_of k
field_place optional k = option_of k
field_place or_null k = option_of k
field_place defaulted k = value_of k

abbrev pub flag_fits : Bool → Place → Bool
flag_fits b (value_of flag) = true
flag_fits b (value_of additional_properties) = true
flag_fits b (value_of array_items) = not b
flag_fits b p = false

abbrev pub word_fits : List ℕ → Place → Bool
word_fits s (value_of (word_of v)) = is_word v s
word_fits s (value_of version) = is_version s
word_fits s (value_of schema_type) = is_word type_word s
word_fits s (value_of schema_format) = is_word known_format s
word_fits s p = false

-- the kind that stands where a reference could
abbrev pub own_kind : Place → Option Kind
own_kind (value_of (ref_or k)) = Some k
own_kind (value_of array_items) = Some schema
own_kind (value_of additional_properties) = Some schema
own_kind p = None

-- the member that decides a choice, and what its words choose
abbrev pub choices_of : Place → Option (List ℕ × List (List ℕ × Kind))
choices_of (value_of security_scheme) = Some (codes "type", scheme_types)
choices_of (value_of api_key) = Some (codes "in", api_key_places)
choices_of p = None

-- the place of a map's entries
abbrev pub entry_place : Place → Option Place
entry_place (value_of (map_of k)) = Some (value_of k)
entry_place (value_of flows) = Some flow_place
entry_place p = None

-- only a type that keeps extensions has them
abbrev pub Extends : Bool → Option Members → Type 0
Extends kept None = Unit {0}
Extends kept (Some ms) = kept ≡ true

unfoldable mutual
  pub IsOf : Doc → Place → Type 0
  IsOf (text_doc s) p = p ≡ value_of text
  IsOf (flag_doc b) p = flag_fits b p ≡ true
  IsOf (whole_doc n) p = p ≡ value_of whole
  IsOf (int_doc z) p = p ≡ value_of numeral
  IsOf (uint_doc n) p = p ≡ value_of numeral
  IsOf (tree_doc d) p = p ≡ value_of any
  IsOf (word_doc s) p = word_fits s p ≡ true
  IsOf (custom_doc s) p = p ≡ value_of schema_format
  IsOf (types_doc d) p = (p ≡ value_of schema_type) × IsOf d (value_of (list_of (word_of type_word)))
  IsOf any_value_doc p = p ≡ value_of schema_type
  IsOf none_doc p = (k : Kind) × (p ≡ option_of k)
  IsOf (some_doc d) p = (k : Kind) × (p ≡ option_of k) × IsOf d (value_of k)
  IsOf (ref_doc k d) p = (own_kind p ≡ Some k) × IsOf d (value_of (named reference_object))
  IsOf (own_doc d) p = (k : Kind) × (own_kind p ≡ Some k) × IsOf d (value_of k)
  IsOf (schema_doc d) p = (n : ObjectType) × (p ≡ value_of schema) × (is_schema_type n ≡ true) × IsOf d (value_of (named n))
  IsOf (tagged_doc name word d) p = (choices : List (List ℕ × Kind)) × (k : Kind) × (choices_of p ≡ Some (name, choices)) × (chosen word choices ≡ Some k) × IsOf d (value_of k)
  IsOf (flow_doc d) p = (n : ObjectType) × (p ≡ flow_place) × IsFlow n × IsOf d (value_of (named n))
  IsOf (list_doc ds) p = (k : Kind) × (p ≡ value_of (list_of k)) × ItemsOf ds k
  IsOf (map_doc es) p = (q : Place) × (entry_place p ≡ Some q) × EntriesOf es q
  IsOf (ordered_map_doc es) p = (k : Kind) × (p ≡ value_of (ordered_map_of k)) × EntriesOf es (value_of k)
  IsOf (entries_doc es e) p = (k : Kind) × (p ≡ value_of (entries_of k)) × EntriesOf es (value_of k)
  IsOf (table_doc n ds e) p = (p ≡ value_of (named n)) × RowsOf ds (table n) × Extends (has_extensions n) e

  pub ItemsOf : Docs → Kind → Type 0
  ItemsOf no_docs k = Unit {0}
  ItemsOf (doc d ds) k = IsOf d (value_of k) × ItemsOf ds k

  pub EntriesOf : Entries → Place → Type 0
  EntriesOf no_entries p = Unit {0}
  EntriesOf (entry name d es) p = IsOf d p × EntriesOf es p

  pub RowsOf : Docs → List Row → Type 0
  RowsOf no_docs [] = Unit {0}
  RowsOf no_docs (r ∷ rs) = ⊥
  RowsOf (doc d ds) [] = ⊥
  RowsOf (doc d ds) (r ∷ rs) = IsOf d (field_place r.mark r.kind) × RowsOf ds rs
