-- Which documents are plain, which are unambiguous, and which are both: well-formed. A well-formed document reads back from its own tree.
use Rattle.std.specs.Prelude.{◌≡◌, ◌||◌, ◌&&◌, ℕ, List, Bool, true, false, not, Option, None, Some, option_and_then, codes}
use Rattle.serde_json.specs.Data.{Data, Members}
use Rattle.serde_json.specs.Find.{get, as_str}
use Rattle.serde_json.specs.Written.{has_float, members_have_float}
use Rattle.utoipa_base.specs.Kinds.{Kind}
use Rattle.utoipa_base.specs.Choices.{chosen, flow_keys}
use Rattle.utoipa_base.specs.Docs.{Doc, text_doc, flag_doc, whole_doc, int_doc, uint_doc, tree_doc, word_doc, custom_doc, types_doc, any_value_doc, none_doc, some_doc, ref_doc, own_doc, schema_doc, tagged_doc, flow_doc, list_doc, map_doc, ordered_map_doc, entries_doc, table_doc, Docs, no_docs, doc, Entries, no_entries, entry}
use Rattle.utoipa_base.specs.Extensions.{is_extension, all_extensions, members_or_none}
use Rattle.utoipa_base.specs.Reading.{read}
use Rattle.utoipa_base.specs.Writing.{write}

-- ---- plain

-- whether a tree in the document holds a fraction: a number that is neither an i64 nor a u64, such as 1.5, 1.0 and 2^64. Of one tree
-- that is serde_json's word `has_float`.
unfoldable mutual
  pub has_fraction : Doc → Bool
  has_fraction (text_doc s) = false
  has_fraction (flag_doc b) = false
  has_fraction (whole_doc n) = false
  has_fraction (int_doc z) = false
  has_fraction (uint_doc n) = false
  has_fraction (tree_doc d) = has_float d
  has_fraction (word_doc s) = false
  has_fraction (custom_doc s) = false
  has_fraction (types_doc d) = has_fraction d
  has_fraction any_value_doc = false
  has_fraction none_doc = false
  has_fraction (some_doc d) = has_fraction d
  has_fraction (ref_doc k d) = has_fraction d
  has_fraction (own_doc d) = has_fraction d
  has_fraction (schema_doc d) = has_fraction d
  has_fraction (tagged_doc name word d) = has_fraction d
  has_fraction (flow_doc d) = has_fraction d
  has_fraction (list_doc ds) = docs_have_fraction ds
  has_fraction (map_doc es) = entries_have_fraction es
  has_fraction (ordered_map_doc es) = entries_have_fraction es
  has_fraction (entries_doc es e) = entries_have_fraction es || members_have_float (members_or_none e)
  has_fraction (table_doc n ds e) = docs_have_fraction ds || members_have_float (members_or_none e)

  pub docs_have_fraction : Docs → Bool
  docs_have_fraction no_docs = false
  docs_have_fraction (doc d ds) = has_fraction d || docs_have_fraction ds

  pub entries_have_fraction : Entries → Bool
  entries_have_fraction no_entries = false
  entries_have_fraction (entry k d es) = has_fraction d || entries_have_fraction es

abbrev pub IsPlain : Doc → Type 0
IsPlain d = has_fraction d ≡ false

-- ---- unambiguous

-- each extension's name begins `x-`, so that none reads as a member that the object's type names
abbrev pub AllExtensions : Option Members → Type 0
AllExtensions e = all_extensions (members_or_none e) ≡ true

-- no entry's name begins `x-`, so that none reads as an extension
abbrev pub names_no_extension : Entries → Bool
names_no_extension no_entries = true
names_no_extension (entry k d es) = not (is_extension k) && names_no_extension es

-- a flow stands under its own key, so that it reads as a flow of its type
abbrev pub KeyOf : List ℕ → Doc → Type 0
KeyOf key (flow_doc (table_doc n ds e)) = chosen key flow_keys ≡ Some n
KeyOf key d = Unit {0}

-- the tree has no text at `$ref`, so that it reads as no reference
abbrev pub IsNoReference : Data → Type 0
IsNoReference t = option_and_then as_str (get (codes "$ref") t) ≡ None

-- each place of the written tree reads as what it was written from: extensions' names begin `x-`, entries' names beside extensions do
-- not, a flow stands under its own key, and what stands in place of a reference has no text at `$ref`
unfoldable mutual
  pub IsUnambiguous : Doc → Type 0
  IsUnambiguous (text_doc s) = Unit {0}
  IsUnambiguous (flag_doc b) = Unit {0}
  IsUnambiguous (whole_doc n) = Unit {0}
  IsUnambiguous (int_doc z) = Unit {0}
  IsUnambiguous (uint_doc n) = Unit {0}
  IsUnambiguous (tree_doc d) = Unit {0}
  IsUnambiguous (word_doc s) = Unit {0}
  IsUnambiguous (custom_doc s) = Unit {0}
  IsUnambiguous (types_doc d) = IsUnambiguous d
  IsUnambiguous any_value_doc = Unit {0}
  IsUnambiguous none_doc = Unit {0}
  IsUnambiguous (some_doc d) = IsUnambiguous d
  IsUnambiguous (ref_doc k d) = IsUnambiguous d
  IsUnambiguous (own_doc d) = IsUnambiguous d × IsNoReference (write d)
  IsUnambiguous (schema_doc d) = IsUnambiguous d
  IsUnambiguous (tagged_doc name word d) = IsUnambiguous d
  IsUnambiguous (flow_doc d) = IsUnambiguous d
  IsUnambiguous (list_doc ds) = AreUnambiguous ds
  IsUnambiguous (map_doc es) = AreUnambiguousEntries es
  IsUnambiguous (ordered_map_doc es) = AreUnambiguousEntries es
  IsUnambiguous (entries_doc es e) = AreUnambiguousEntries es × (names_no_extension es ≡ true) × AllExtensions e
  IsUnambiguous (table_doc n ds e) = AreUnambiguous ds × AllExtensions e

  -- each document of a list or of an object's fields
  pub AreUnambiguous : Docs → Type 0
  AreUnambiguous no_docs = Unit {0}
  AreUnambiguous (doc d ds) = IsUnambiguous d × AreUnambiguous ds

  -- each entry of a map
  pub AreUnambiguousEntries : Entries → Type 0
  AreUnambiguousEntries no_entries = Unit {0}
  AreUnambiguousEntries (entry key d es) = IsUnambiguous d × KeyOf key d × AreUnambiguousEntries es

-- ---- well-formed

-- plain, and unambiguous at every place
abbrev pub IsWellFormed : Doc → Type 0
IsWellFormed d = IsPlain d × IsUnambiguous d

-- what a plain tree reads as
abbrev pub ReadsAs : Kind → Data → Doc → Type 0
ReadsAs k t d = (has_float t ≡ false) × (read k t ≡ Some d)
