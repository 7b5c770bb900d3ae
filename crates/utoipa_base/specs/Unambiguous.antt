-- Whether a document is unambiguous, as a test: for who gives a type of their own the trait `Unambiguous`.
--
-- Of the documents of any kind the test holds exactly of those of which `IsUnambiguous` holds, which says what each line tests.
use Rattle.std.specs.Prelude.{ℕ, List, [], Bool, true, not, ◌&&◌, Option, is_some, option_and_then, codes}
use Rattle.std.specs.Str.{bytes_eq}
use Rattle.serde_json.specs.Data.{Data, Members}
use Rattle.serde_json.specs.Find.{get, as_str}
use Rattle.utoipa_base.specs.Docs.{Doc, text_doc, flag_doc, whole_doc, int_doc, uint_doc, tree_doc, word_doc, custom_doc, types_doc, any_value_doc, none_doc, some_doc, ref_doc, own_doc, schema_doc, tagged_doc, flow_doc, list_doc, map_doc, ordered_map_doc, entries_doc, table_doc, Docs, no_docs, doc, Entries, no_entries, entry}
use Rattle.utoipa_base.specs.Extensions.{all_extensions, members_or_none}
use Rattle.utoipa_base.specs.Kinds.{ObjectType, implicit_flow, password_flow, client_credentials_flow, authorization_code_flow, device_authorization_flow}
use Rattle.utoipa_base.specs.WellFormed.{names_no_extension}
use Rattle.utoipa_base.specs.Writing.{write}

-- the key under which a flow of this type stands
abbrev pub own_key : ObjectType → List ℕ
own_key implicit_flow = codes "implicit"
own_key password_flow = codes "password"
own_key client_credentials_flow = codes "clientCredentials"
own_key authorization_code_flow = codes "authorizationCode"
own_key device_authorization_flow = codes "deviceAuthorization"
own_key n = []

-- a flow stands under its own key; what is no flow may stand under any
abbrev pub is_key_of : List ℕ → Doc → Bool
is_key_of key (flow_doc (table_doc n ds e)) = bytes_eq key (own_key n)
is_key_of key d = true

-- the tree has no text at `$ref`
abbrev pub is_no_reference : Data → Bool
is_no_reference t = not (is_some (option_and_then as_str (get (codes "$ref") t)))

-- each extension's name begins `x-`
abbrev pub are_extensions : Option Members → Bool
are_extensions e = all_extensions (members_or_none e)

unfoldable mutual
  pub is_unambiguous : Doc → Bool
  is_unambiguous (text_doc s) = true
  is_unambiguous (flag_doc b) = true
  is_unambiguous (whole_doc n) = true
  is_unambiguous (int_doc z) = true
  is_unambiguous (uint_doc n) = true
  is_unambiguous (tree_doc d) = true
  is_unambiguous (word_doc s) = true
  is_unambiguous (custom_doc s) = true
  is_unambiguous (types_doc d) = is_unambiguous d
  is_unambiguous any_value_doc = true
  is_unambiguous none_doc = true
  is_unambiguous (some_doc d) = is_unambiguous d
  is_unambiguous (ref_doc k d) = is_unambiguous d
  is_unambiguous (own_doc d) = is_unambiguous d && is_no_reference (write d)
  is_unambiguous (schema_doc d) = is_unambiguous d
  is_unambiguous (tagged_doc name word d) = is_unambiguous d
  is_unambiguous (flow_doc d) = is_unambiguous d
  is_unambiguous (list_doc ds) = are_unambiguous ds
  is_unambiguous (map_doc es) = entries_are_unambiguous es
  is_unambiguous (ordered_map_doc es) = entries_are_unambiguous es
  is_unambiguous (entries_doc es e) = entries_are_unambiguous es && (names_no_extension es && are_extensions e)
  is_unambiguous (table_doc n ds e) = are_unambiguous ds && are_extensions e

  pub are_unambiguous : Docs → Bool
  are_unambiguous no_docs = true
  are_unambiguous (doc d ds) = is_unambiguous d && are_unambiguous ds

  pub entries_are_unambiguous : Entries → Bool
  entries_are_unambiguous no_entries = true
  entries_are_unambiguous (entry key d es) = is_unambiguous d && (is_key_of key d && entries_are_unambiguous es)
