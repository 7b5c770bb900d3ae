-- Two documents are equal or they are not. Their parts decide it.
use Rattle.std.proofs.Common.{◌≡◌, ℕ, List, [], ◌∷◌, get_or, Option, None, Some, refl, sym, ap, ◌∙◌}
use Rattle.std.proofs.Math.Decide.{ℕ_discrete, map_dec}
use Rattle.std.proofs.Math.IntN.{ℤ_discrete}
use Rattle.std.proofs.Math.Bool.{Bool-discrete}
use lib.Ieee.{Float, nan, inf, fin}
use Rattle.serde_json.specs.Data.{Num, unsigned, negative, float, Data, null, boolean, number, string, array, object, Items, no_items, item, Members, no_members, member}
use Rattle.utoipa_base.specs.Kinds.{ObjectType, open_api_object, info_object, contact_object, license_object, server_object, server_variable_object, components_object, path_item_object, operation_object, external_docs_object, parameter_object, request_body_object, media_type_object, encoding_object, response_object, example_object, link_object, header_object, tag_object, reference_object, discriminator_object, xml_object, one_of_schema, all_of_schema, any_of_schema, array_schema, object_schema, api_key_scheme, http_scheme, open_id_connect_scheme, mutual_tls_scheme, oauth2_scheme, implicit_flow, password_flow, client_credentials_flow, authorization_code_flow, device_authorization_flow, scopes_object, Vocabulary, type_word, known_format, http_method, parameter_in, parameter_style, http_auth_scheme, Kind, text, flag, whole, numeral, any, version, schema, schema_type, schema_format, array_items, additional_properties, security_scheme, api_key, flows, word_of, list_of, map_of, ordered_map_of, entries_of, ref_or, named}
use Rattle.utoipa_base.specs.Docs.{Doc, text_doc, flag_doc, whole_doc, int_doc, uint_doc, tree_doc, word_doc, custom_doc, types_doc, any_value_doc, none_doc, some_doc, ref_doc, own_doc, schema_doc, tagged_doc, flow_doc, list_doc, map_doc, ordered_map_doc, entries_doc, table_doc, Docs, no_docs, doc, Entries, no_entries, entry}

-- ---- parts

both : {A B : Type 0} → Dec A → Dec B → Dec (A × B)
both (yes a) (yes b) = yes (a, b)
both (yes a) (no g) = no (λ p. g p.1)
both (no f) b = no (λ p. f p.0)

same_text : (s t : List ℕ) → Dec (s ≡ t)
same_text [] [] = yes refl
same_text [] (y ∷ ys) = no (λ e. cc)
same_text (x ∷ xs) [] = no (λ e. cc)
same_text (x ∷ xs) (y ∷ ys) = map_dec (λ (p : (x ≡ y) × (xs ≡ ys)). cc) (λ e. (cc, cc)) (both (ℕ_discrete x y) (same_text xs ys))

same_float : (x y : Float) → Dec (x ≡ y)
same_float nan nan = yes refl
same_float nan e = no (λ p. cc)
same_float (inf a) (inf b) = map_dec (ap inf) (λ e. cc) (Bool-discrete a b)
same_float (inf a) e = no (λ p. cc)
same_float (fin a m z) (fin b n y) = map_dec (λ (p : (a ≡ b) × ((m ≡ n) × (z ≡ y))). cc (p.1.0, p.1.1)) (λ e. (cc, (cc, cc))) (both (Bool-discrete a b) (both (ℕ_discrete m n) (ℤ_discrete z y)))
same_float (fin a m z) e = no (λ p. cc)

same_number : (x y : Num) → Dec (x ≡ y)
same_number (unsigned n) (unsigned m) = map_dec (ap unsigned) (λ e. cc) (ℕ_discrete n m)
same_number (unsigned n) e = no (λ p. cc)
same_number (negative z) (negative y) = map_dec (ap negative) (λ e. cc) (ℤ_discrete z y)
same_number (negative z) e = no (λ p. cc)
same_number (float x) (float y) = map_dec (ap float) (λ e. cc) (same_float x y)
same_number (float x) e = no (λ p. cc)

-- ---- trees

mutual
  same_tree : (t u : Data) → Dec (t ≡ u)
  same_tree null null = yes refl
  same_tree null e = no (λ p. cc)
  same_tree (boolean a) (boolean b) = map_dec (ap boolean) (λ e. cc) (Bool-discrete a b)
  same_tree (boolean a) e = no (λ p. cc)
  same_tree (number n) (number m) = map_dec (ap number) (λ e. cc) (same_number n m)
  same_tree (number n) e = no (λ p. cc)
  same_tree (string s) (string t) = map_dec (ap string) (λ e. cc) (same_text s t)
  same_tree (string s) e = no (λ p. cc)
  same_tree (array ds) (array es) = map_dec (ap array) (λ e. cc) (same_trees ds es)
  same_tree (array ds) e = no (λ p. cc)
  same_tree (object ms) (object ns) = map_dec (ap object) (λ e. cc) (same_members ms ns)
  same_tree (object ms) e = no (λ p. cc)

  same_trees : (ds es : Items) → Dec (ds ≡ es)
  same_trees no_items no_items = yes refl
  same_trees no_items e = no (λ p. cc)
  same_trees (item d ds) (item c es) = map_dec (λ (p : (d ≡ c) × (ds ≡ es)). cc) (λ e. (cc, cc)) (both (same_tree d c) (same_trees ds es))
  same_trees (item d ds) e = no (λ p. cc)

  same_members : (ms ns : Members) → Dec (ms ≡ ns)
  same_members no_members no_members = yes refl
  same_members no_members e = no (λ p. cc)
  same_members (member k d ms) (member l c ns) = map_dec (λ (p : (k ≡ l) × ((d ≡ c) × (ms ≡ ns))). cc (p.1.0, p.1.1)) (λ e. (cc, (cc, cc))) (both (same_text k l) (both (same_tree d c) (same_members ms ns)))
  same_members (member k d ms) e = no (λ p. cc)

same_extensions : (e f : Option Members) → Dec (e ≡ f)
same_extensions None None = yes refl
same_extensions None e = no (λ p. cc)
same_extensions (Some ms) (Some ns) = map_dec (ap Some) (λ e. cc) (same_members ms ns)
same_extensions (Some ms) e = no (λ p. cc)

-- ---- kinds

-- the object types, each at its place. There are too many to compare each with each
object_types : List ObjectType
object_types = open_api_object ∷ info_object ∷ contact_object ∷ license_object ∷ server_object ∷ server_variable_object ∷ components_object ∷ path_item_object ∷ operation_object ∷ external_docs_object ∷ parameter_object ∷ request_body_object ∷ media_type_object ∷ encoding_object ∷ response_object ∷ example_object ∷ link_object ∷ header_object ∷ tag_object ∷ reference_object ∷ discriminator_object ∷ xml_object ∷ one_of_schema ∷ all_of_schema ∷ any_of_schema ∷ array_schema ∷ object_schema ∷ api_key_scheme ∷ http_scheme ∷ open_id_connect_scheme ∷ mutual_tls_scheme ∷ oauth2_scheme ∷ implicit_flow ∷ password_flow ∷ client_credentials_flow ∷ authorization_code_flow ∷ device_authorization_flow ∷ scopes_object ∷ []

place_of : ObjectType → ℕ
place_of open_api_object = 0
place_of info_object = 1
place_of contact_object = 2
place_of license_object = 3
place_of server_object = 4
place_of server_variable_object = 5
place_of components_object = 6
place_of path_item_object = 7
place_of operation_object = 8
place_of external_docs_object = 9
place_of parameter_object = 10
place_of request_body_object = 11
place_of media_type_object = 12
place_of encoding_object = 13
place_of response_object = 14
place_of example_object = 15
place_of link_object = 16
place_of header_object = 17
place_of tag_object = 18
place_of reference_object = 19
place_of discriminator_object = 20
place_of xml_object = 21
place_of one_of_schema = 22
place_of all_of_schema = 23
place_of any_of_schema = 24
place_of array_schema = 25
place_of object_schema = 26
place_of api_key_scheme = 27
place_of http_scheme = 28
place_of open_id_connect_scheme = 29
place_of mutual_tls_scheme = 30
place_of oauth2_scheme = 31
place_of implicit_flow = 32
place_of password_flow = 33
place_of client_credentials_flow = 34
place_of authorization_code_flow = 35
place_of device_authorization_flow = 36
place_of scopes_object = 37

at_its_place : (n : ObjectType) → get_or object_types (place_of n) open_api_object ≡ n
unfolding object_types place_of
at_its_place open_api_object = refl
at_its_place n = refl

same_type : (n m : ObjectType) → Dec (n ≡ m)
same_type n m = map_dec (λ (e : place_of n ≡ place_of m). sym (at_its_place n) ∙ ap (λ k. get_or object_types k open_api_object) e ∙ at_its_place m) (ap place_of) (ℕ_discrete (place_of n) (place_of m))

same_vocabulary : (v w : Vocabulary) → Dec (v ≡ w)
same_vocabulary type_word type_word = yes refl
same_vocabulary type_word e = no (λ p. cc)
same_vocabulary known_format known_format = yes refl
same_vocabulary known_format e = no (λ p. cc)
same_vocabulary http_method http_method = yes refl
same_vocabulary http_method e = no (λ p. cc)
same_vocabulary parameter_in parameter_in = yes refl
same_vocabulary parameter_in e = no (λ p. cc)
same_vocabulary parameter_style parameter_style = yes refl
same_vocabulary parameter_style e = no (λ p. cc)
same_vocabulary http_auth_scheme http_auth_scheme = yes refl
same_vocabulary http_auth_scheme e = no (λ p. cc)

same_kind : (k j : Kind) → Dec (k ≡ j)
same_kind text text = yes refl
same_kind text e = no (λ p. cc)
same_kind flag flag = yes refl
same_kind flag e = no (λ p. cc)
same_kind whole whole = yes refl
same_kind whole e = no (λ p. cc)
same_kind numeral numeral = yes refl
same_kind numeral e = no (λ p. cc)
same_kind any any = yes refl
same_kind any e = no (λ p. cc)
same_kind version version = yes refl
same_kind version e = no (λ p. cc)
same_kind schema schema = yes refl
same_kind schema e = no (λ p. cc)
same_kind schema_type schema_type = yes refl
same_kind schema_type e = no (λ p. cc)
same_kind schema_format schema_format = yes refl
same_kind schema_format e = no (λ p. cc)
same_kind array_items array_items = yes refl
same_kind array_items e = no (λ p. cc)
same_kind additional_properties additional_properties = yes refl
same_kind additional_properties e = no (λ p. cc)
same_kind security_scheme security_scheme = yes refl
same_kind security_scheme e = no (λ p. cc)
same_kind api_key api_key = yes refl
same_kind api_key e = no (λ p. cc)
same_kind flows flows = yes refl
same_kind flows e = no (λ p. cc)
same_kind (word_of v) (word_of w) = map_dec (ap word_of) (λ e. cc) (same_vocabulary v w)
same_kind (word_of v) e = no (λ p. cc)
same_kind (named n) (named m) = map_dec (ap named) (λ e. cc) (same_type n m)
same_kind (named n) e = no (λ p. cc)
same_kind (list_of k) (list_of j) = map_dec (ap list_of) (λ e. cc) (same_kind k j)
same_kind (list_of k) e = no (λ p. cc)
same_kind (map_of k) (map_of j) = map_dec (ap map_of) (λ e. cc) (same_kind k j)
same_kind (map_of k) e = no (λ p. cc)
same_kind (ordered_map_of k) (ordered_map_of j) = map_dec (ap ordered_map_of) (λ e. cc) (same_kind k j)
same_kind (ordered_map_of k) e = no (λ p. cc)
same_kind (entries_of k) (entries_of j) = map_dec (ap entries_of) (λ e. cc) (same_kind k j)
same_kind (entries_of k) e = no (λ p. cc)
same_kind (ref_or k) (ref_or j) = map_dec (ap ref_or) (λ e. cc) (same_kind k j)
same_kind (ref_or k) e = no (λ p. cc)

-- ---- documents

mutual
  -- two documents are equal or they are not
  pub same_doc : (d e : Doc) → Dec (d ≡ e)
  same_doc any_value_doc any_value_doc = yes refl
  same_doc any_value_doc e = no (λ p. cc)
  same_doc none_doc none_doc = yes refl
  same_doc none_doc e = no (λ p. cc)
  same_doc (text_doc s) (text_doc t) = map_dec (ap text_doc) (λ e. cc) (same_text s t)
  same_doc (text_doc s) e = no (λ p. cc)
  same_doc (word_doc s) (word_doc t) = map_dec (ap word_doc) (λ e. cc) (same_text s t)
  same_doc (word_doc s) e = no (λ p. cc)
  same_doc (custom_doc s) (custom_doc t) = map_dec (ap custom_doc) (λ e. cc) (same_text s t)
  same_doc (custom_doc s) e = no (λ p. cc)
  same_doc (flag_doc a) (flag_doc b) = map_dec (ap flag_doc) (λ e. cc) (Bool-discrete a b)
  same_doc (flag_doc a) e = no (λ p. cc)
  same_doc (whole_doc n) (whole_doc m) = map_dec (ap whole_doc) (λ e. cc) (ℕ_discrete n m)
  same_doc (whole_doc n) e = no (λ p. cc)
  same_doc (uint_doc n) (uint_doc m) = map_dec (ap uint_doc) (λ e. cc) (ℕ_discrete n m)
  same_doc (uint_doc n) e = no (λ p. cc)
  same_doc (int_doc z) (int_doc y) = map_dec (ap int_doc) (λ e. cc) (ℤ_discrete z y)
  same_doc (int_doc z) e = no (λ p. cc)
  same_doc (tree_doc t) (tree_doc u) = map_dec (ap tree_doc) (λ e. cc) (same_tree t u)
  same_doc (tree_doc t) e = no (λ p. cc)
  same_doc (types_doc d) (types_doc c) = map_dec (ap types_doc) (λ e. cc) (same_doc d c)
  same_doc (types_doc d) e = no (λ p. cc)
  same_doc (some_doc d) (some_doc c) = map_dec (ap some_doc) (λ e. cc) (same_doc d c)
  same_doc (some_doc d) e = no (λ p. cc)
  same_doc (own_doc d) (own_doc c) = map_dec (ap own_doc) (λ e. cc) (same_doc d c)
  same_doc (own_doc d) e = no (λ p. cc)
  same_doc (schema_doc d) (schema_doc c) = map_dec (ap schema_doc) (λ e. cc) (same_doc d c)
  same_doc (schema_doc d) e = no (λ p. cc)
  same_doc (flow_doc d) (flow_doc c) = map_dec (ap flow_doc) (λ e. cc) (same_doc d c)
  same_doc (flow_doc d) e = no (λ p. cc)
  same_doc (ref_doc k d) (ref_doc j c) = map_dec (λ (p : (k ≡ j) × (d ≡ c)). cc) (λ e. (cc, cc)) (both (same_kind k j) (same_doc d c))
  same_doc (ref_doc k d) e = no (λ p. cc)
  same_doc (tagged_doc s v d) (tagged_doc t w c) = map_dec (λ (p : (s ≡ t) × ((v ≡ w) × (d ≡ c))). cc (p.1.0, p.1.1)) (λ e. (cc, (cc, cc))) (both (same_text s t) (both (same_text v w) (same_doc d c)))
  same_doc (tagged_doc s v d) e = no (λ p. cc)
  same_doc (list_doc ds) (list_doc cs) = map_dec (ap list_doc) (λ e. cc) (same_docs ds cs)
  same_doc (list_doc ds) e = no (λ p. cc)
  same_doc (map_doc es) (map_doc fs) = map_dec (ap map_doc) (λ e. cc) (same_entries es fs)
  same_doc (map_doc es) e = no (λ p. cc)
  same_doc (ordered_map_doc es) (ordered_map_doc fs) = map_dec (ap ordered_map_doc) (λ e. cc) (same_entries es fs)
  same_doc (ordered_map_doc es) e = no (λ p. cc)
  same_doc (entries_doc es x) (entries_doc fs y) = map_dec (λ (p : (es ≡ fs) × (x ≡ y)). cc) (λ e. (cc, cc)) (both (same_entries es fs) (same_extensions x y))
  same_doc (entries_doc es x) e = no (λ p. cc)
  same_doc (table_doc n ds x) (table_doc m cs y) = map_dec (λ (p : (n ≡ m) × ((ds ≡ cs) × (x ≡ y))). cc (p.1.0, p.1.1)) (λ e. (cc, (cc, cc))) (both (same_type n m) (both (same_docs ds cs) (same_extensions x y)))
  same_doc (table_doc n ds x) e = no (λ p. cc)

  same_docs : (ds es : Docs) → Dec (ds ≡ es)
  same_docs no_docs no_docs = yes refl
  same_docs no_docs e = no (λ p. cc)
  same_docs (doc d ds) (doc c cs) = map_dec (λ (p : (d ≡ c) × (ds ≡ cs)). cc) (λ e. (cc, cc)) (both (same_doc d c) (same_docs ds cs))
  same_docs (doc d ds) e = no (λ p. cc)

  same_entries : (es fs : Entries) → Dec (es ≡ fs)
  same_entries no_entries no_entries = yes refl
  same_entries no_entries e = no (λ p. cc)
  same_entries (entry k d es) (entry l c fs) = map_dec (λ (p : (k ≡ l) × ((d ≡ c) × (es ≡ fs))). cc (p.1.0, p.1.1)) (λ e. (cc, (cc, cc))) (both (same_text k l) (both (same_doc d c) (same_entries es fs)))
  same_entries (entry k d es) e = no (λ p. cc)
