-- The normal form of a document: of a well-formed one, what it is after it was written and read. Others have a normal form too, but
-- their trees may read otherwise, or not at all.
use Rattle.std.specs.Prelude.{pos, Bool, true, false, Option, None, Some}
use Rattle.serde_json.specs.Data.{Members, no_members, member}
use Rattle.utoipa_base.specs.Kinds.{known_format}
use Rattle.utoipa_base.specs.Words.{is_word}
use Rattle.utoipa_base.specs.Docs.{Doc, text_doc, flag_doc, whole_doc, int_doc, uint_doc, tree_doc, word_doc, custom_doc, types_doc, any_value_doc, none_doc, some_doc, ref_doc, own_doc, schema_doc, tagged_doc, flow_doc, list_doc, map_doc, ordered_map_doc, entries_doc, table_doc, Docs, no_docs, doc, Entries, no_entries, entry}
use Rattle.utoipa_base.specs.Reading.{is_null, numeral_doc, read_format}
use Rattle.utoipa_base.specs.ByName.{by_name}
use Rattle.utoipa_base.specs.Writing.{write}

-- no extensions are none
abbrev pub normal_extensions : Option Members → Option Members
normal_extensions None = None
normal_extensions (Some no_members) = None
normal_extensions (Some (member k d ms)) = Some (member k d ms)

-- a field that is written as null is none
abbrev pub normal_some : Bool → Doc → Doc
normal_some true d = none_doc
normal_some false d = some_doc d

unfoldable mutual
  pub normal_form : Doc → Doc
  normal_form (text_doc s) = text_doc s
  normal_form (flag_doc b) = flag_doc b
  normal_form (whole_doc n) = whole_doc n
  normal_form (int_doc z) = numeral_doc z
  normal_form (uint_doc n) = numeral_doc (pos n)
  normal_form (tree_doc d) = tree_doc d
  normal_form (word_doc s) = word_doc s
  normal_form (custom_doc s) = read_format (is_word known_format s) s
  normal_form (types_doc d) = types_doc (normal_form d)
  normal_form any_value_doc = any_value_doc
  normal_form none_doc = none_doc
  normal_form (some_doc d) = normal_some (is_null (write d)) (normal_form d)
  normal_form (ref_doc k d) = ref_doc k (normal_form d)
  normal_form (own_doc d) = own_doc (normal_form d)
  normal_form (schema_doc d) = schema_doc (normal_form d)
  normal_form (tagged_doc name word d) = tagged_doc name word (normal_form d)
  normal_form (flow_doc d) = flow_doc (normal_form d)
  normal_form (list_doc ds) = list_doc (normal_docs ds)
  normal_form (map_doc es) = map_doc (normal_entries es)
  normal_form (ordered_map_doc es) = ordered_map_doc (by_name (normal_entries es))
  normal_form (entries_doc es e) = entries_doc (normal_entries es) (normal_extensions e)
  normal_form (table_doc n ds e) = table_doc n (normal_docs ds) (normal_extensions e)

  pub normal_docs : Docs → Docs
  normal_docs no_docs = no_docs
  normal_docs (doc d ds) = doc (normal_form d) (normal_docs ds)

  pub normal_entries : Entries → Entries
  normal_entries no_entries = no_entries
  normal_entries (entry k d es) = entry k (normal_form d) (normal_entries es)
