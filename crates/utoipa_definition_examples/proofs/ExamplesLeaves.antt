-- Examples of the objects that hold no schema: servers, references, documentation, versions, numbers, texts.
use Rattle.std.specs.Prelude.{◌≡◌, Float, pos, negsuc, [], ◌∷◌, true, false, codes, None, Some, refl}
use Rattle.serde_json.specs.Data.{negative, float, null, boolean, number, no_members}
use Rattle.serde_json.specs.Written.{has_float}
use Rattle.utoipa_base.specs.Kinds.{contact_object, server_object, external_docs_object, example_object, link_object, reference_object, discriminator_object, xml_object, parameter_in, http_auth_scheme, text, flag, whole, numeral, word_of, version, list_of, ordered_map_of, ref_or, named}
use Rattle.utoipa_base.specs.Docs.{Doc, text_doc, flag_doc, int_doc, uint_doc, tree_doc, word_doc, some_doc, ref_doc, ordered_map_doc}
use Rattle.utoipa_base.specs.Version.{read_version}
use Rattle.utoipa_base.specs.Reading.{reader}
use Rattle.utoipa_base.specs.Writing.{write}
use Rattle.utoipa_base.specs.NormalForm.{normal_form}
use Rattle.utoipa_base.specs.WellFormed.{has_fraction}
use Rattle.utoipa_definition_examples.proofs.ExampleTrees.{members, members_of, list, str, num, Prints, Keeps, IsRefused, IsReadAs, built, entries}

-- ---- Server Object

-- a server with variables is written as it was read, its members in the order of their names
server_variables : Keeps (named server_object) (members (("url", str "/api/{version}/{username}") ∷ ("variables", members (("username", members (("default", str "the_user") ∷ [])) ∷ ("version", members (("default", str "v1") ∷ ("description", str "api version") ∷ ("enum", list (str "v1" ∷ str "v2" ∷ [])) ∷ [])) ∷ [])) ∷ []))
unfolding reader write
server_variables = refl

-- an extension is kept, an unknown member is dropped, and a null description is none
server_extension : Prints (named server_object) (members (("description", null) ∷ ("url", str "u") ∷ ("x-a", num 1) ∷ ("y", num 2) ∷ [])) (members (("url", str "u") ∷ ("x-a", num 1) ∷ []))
unfolding reader write
server_extension = refl

-- an empty map of variables stays
server_empty_variables : Keeps (named server_object) (members (("url", str "u") ∷ ("variables", members []) ∷ []))
unfolding reader write
server_empty_variables = refl

-- a server has a URL
server_without_url : IsRefused (named server_object) (members [])
unfolding reader
server_without_url = refl

-- a URL is a text
server_number_url : IsRefused (named server_object) (members (("url", num 5) ∷ []))
unfolding reader
server_number_url = refl

-- a server is an object
server_list : IsRefused (named server_object) (list [])
unfolding reader
server_list = refl

-- null is no URL
server_null_url : IsRefused (named server_object) (members (("url", null) ∷ []))
unfolding reader
server_null_url = refl

-- a server variable has a default
server_variable_without_default : IsRefused (named server_object) (members (("url", str "u") ∷ ("variables", members (("v", members (("enum", list (str "a" ∷ [])) ∷ [])) ∷ [])) ∷ []))
unfolding reader
server_variable_without_default = refl

-- a member named `x` is no extension, and one named `x-` is
short_name_no_extension : Prints (named server_object) (members (("url", str "u") ∷ ("x", num 1) ∷ ("x-", null) ∷ [])) (members (("url", str "u") ∷ ("x-", null) ∷ []))
unfolding reader write
short_name_no_extension = refl

-- ---- extensions named like a member

-- a server writes its own URL, whatever its extensions say
own_url_wins : write (built server_object (("url", text_doc (codes "u")) ∷ []) (Some (members_of (("url", str "v") ∷ ("y", num 1) ∷ [])))) ≡ members (("url", str "u") ∷ ("y", num 1) ∷ [])
unfolding write
own_url_wins = refl

-- and it reads back with its URL and no extensions
own_url_reads_back : IsReadAs (named server_object) (write (built server_object (("url", text_doc (codes "u")) ∷ []) (Some (members_of (("url", str "v") ∷ ("y", num 1) ∷ []))))) (built server_object (("url", text_doc (codes "u")) ∷ []) (None))
unfolding reader write
own_url_reads_back = refl

-- a member that the server leaves out is not its own, so the extension of that name is written
absent_description : write (built server_object (("url", text_doc (codes "u")) ∷ []) (Some (members_of (("description", num 5) ∷ [])))) ≡ members (("description", num 5) ∷ ("url", str "u") ∷ [])
unfolding write
absent_description = refl

-- and that tree is no server
absent_description_refused : IsRefused (named server_object) (write (built server_object (("url", text_doc (codes "u")) ∷ []) (Some (members_of (("description", num 5) ∷ [])))))
unfolding reader write
absent_description_refused = refl

-- empty extensions are none in the normal form
empty_extensions : normal_form (built server_object (("url", text_doc (codes "u")) ∷ []) (Some no_members)) ≡ built server_object (("url", text_doc (codes "u")) ∷ []) (None)
unfolding normal_form write
empty_extensions = refl

-- ---- External Documentation Object

-- the absent description is written as null
external_docs_null : write (built external_docs_object (("url", text_doc (codes "u")) ∷ []) None) ≡ members (("description", null) ∷ ("url", str "u") ∷ [])
unfolding write
external_docs_null = refl

-- and reads back as absent
external_docs_back : IsReadAs (named external_docs_object) (write (built external_docs_object (("url", text_doc (codes "u")) ∷ []) None)) (built external_docs_object (("url", text_doc (codes "u")) ∷ []) None)
unfolding reader write
external_docs_back = refl

-- ---- Reference Object

-- a reference whose `readOnly` is no flag is an example
reference_flag : Prints (ref_or (named example_object)) (members (("$ref", str "#/a") ∷ ("readOnly", num 1) ∷ ("value", num 2) ∷ [])) (members (("value", num 2) ∷ []))
unfolding reader write
reference_flag = refl

-- null is no description of a reference, and none of an example
reference_null_description : IsRefused (ref_or (named example_object)) (members (("$ref", str "#/a") ∷ ("description", null) ∷ []))
unfolding reader
reference_null_description = refl

-- a reference keeps its annotations
reference_annotations : Keeps (ref_or (named example_object)) (members (("$ref", str "#/a") ∷ ("default", list (num 1 ∷ [])) ∷ ("description", str "d") ∷ ("readOnly", boolean true) ∷ ("summary", str "s") ∷ ("title", str "t") ∷ ("writeOnly", boolean false) ∷ []))
unfolding reader write
reference_annotations = refl

-- a reference keeps no extensions and no empty text
reference_no_extensions : Prints (ref_or (named example_object)) (members (("$ref", str "#/a") ∷ ("description", str "") ∷ ("x-a", num 1) ∷ [])) (members (("$ref", str "#/a") ∷ []))
unfolding reader write
reference_no_extensions = refl

-- an object with a text at `$ref` is a reference, though an example fits too
reference_is_one : IsReadAs (ref_or (named example_object)) (members (("$ref", str "#/a") ∷ ("value", num 2) ∷ [])) (ref_doc (named example_object) (built reference_object (("$ref", text_doc (codes "#/a")) ∷ []) None))
unfolding reader
reference_is_one = refl

-- ---- Example Object

-- an example has no required member
empty_example : Keeps (named example_object) (members [])
unfolding reader write
empty_example = refl

-- the value null is none, and empty texts are left out
example_null_value : Prints (named example_object) (members (("externalValue", str "") ∷ ("summary", str "") ∷ ("value", null) ∷ [])) (members [])
unfolding reader write
example_null_value = refl

-- the values of OpenAPI 3.2 are dropped
example_data_value : Prints (named example_object) (members (("dataValue", num 1) ∷ ("serializedValue", str "1") ∷ ("value", list (null ∷ [])) ∷ [])) (members (("value", list (null ∷ [])) ∷ []))
unfolding reader write
example_data_value = refl

-- ---- Contact Object, XML Object, Discriminator Object

-- a contact without members is an empty object
new_contact : write (built contact_object [] None) ≡ members []
unfolding write
new_contact = refl

-- an XML object without members is an empty object
new_xml : write (built xml_object [] None) ≡ members []
unfolding write
new_xml = refl

-- an XML object keeps no extensions
xml_no_extensions : Prints (named xml_object) (members (("attribute", boolean false) ∷ ("x-a", num 1) ∷ [])) (members (("attribute", boolean false) ∷ []))
unfolding reader write
xml_no_extensions = refl

-- an empty mapping is left out
empty_mapping : Prints (named discriminator_object) (members (("mapping", members []) ∷ ("propertyName", str "p") ∷ ("x-a", num 1) ∷ [])) (members (("propertyName", str "p") ∷ ("x-a", num 1) ∷ []))
unfolding reader write
empty_mapping = refl

-- null is no mapping
null_mapping : IsRefused (named discriminator_object) (members (("mapping", null) ∷ ("propertyName", str "p") ∷ []))
unfolding reader
null_mapping = refl

-- ---- the version of the standard

-- a patch of 3.1 is 3.1
version_patch : IsReadAs version (str "3.1.1") (word_doc (codes "3.1.0"))
unfolding reader read_version
version_patch = refl

-- a piece that is no number is dropped
version_letters : IsReadAs version (str "3.1.x.0") (word_doc (codes "3.1.0"))
unfolding reader read_version
version_letters = refl

-- 3.1.0 is itself
version_plain : IsReadAs version (str "3.1.0") (word_doc (codes "3.1.0"))
unfolding reader read_version
version_plain = refl

-- a sign may stand before the digits
version_sign : IsReadAs version (str "+3.1.0") (word_doc (codes "3.1.0"))
unfolding reader read_version
version_sign = refl

-- every patch of 3.2 is 3.2
version_two : IsReadAs version (str "3.2.7") (word_doc (codes "3.2.0"))
unfolding reader read_version
version_two = refl

-- two numbers are no version
version_short : IsRefused version (str "3.1")
unfolding reader read_version
version_short = refl

-- a piece beyond 127 is dropped, which leaves two numbers
version_large_patch : IsRefused version (str "3.1.200")
unfolding reader read_version
version_large_patch = refl

-- 3.0 is no version of this model
version_three_zero : IsRefused version (str "3.0.3")
unfolding reader read_version
version_three_zero = refl

-- four numbers are no version
version_four : IsRefused version (str "3.1.0.0")
unfolding reader read_version
version_four = refl

-- an empty piece is dropped
version_empty_piece : IsRefused version (str "3..1")
unfolding reader read_version
version_empty_piece = refl

-- the least number of a piece is -128
version_least_patch : IsReadAs version (str "3.1.-128") (word_doc (codes "3.1.0"))
unfolding reader read_version
version_least_patch = refl

-- a piece below -128 is dropped
version_below_least : IsRefused version (str "3.1.-129")
unfolding reader read_version
version_below_least = refl

-- a version is a text
version_number : IsRefused version (num 3)
unfolding reader
version_number = refl

-- ---- numbers

-- the least number is an integer
least_number : IsReadAs numeral (number (negative (negsuc 9223372036854775807))) (int_doc (negsuc 9223372036854775807))
unfolding reader
least_number = refl

-- the greatest i64 is an integer
greatest_integer : IsReadAs numeral (num 9223372036854775807) (int_doc (pos 9223372036854775807))
unfolding reader
greatest_integer = refl

-- the next number is unsigned
first_unsigned : IsReadAs numeral (num 9223372036854775808) (uint_doc 9223372036854775808)
unfolding reader
first_unsigned = refl

-- the greatest number is unsigned
greatest_number : IsReadAs numeral (num 18446744073709551615) (uint_doc 18446744073709551615)
unfolding reader
greatest_number = refl

-- an unsigned 0 has the normal form the integer 0
zero_in_normal_form : normal_form (uint_doc 0) ≡ int_doc (pos 0)
unfolding normal_form
zero_in_normal_form = refl

-- an unsigned number beyond i64 is in normal form
large_in_normal_form : normal_form (uint_doc 9223372036854775808) ≡ uint_doc 9223372036854775808
unfolding normal_form
large_in_normal_form = refl

-- an unsigned 0 is not the integer 0
zero_differs : uint_doc 0 ≡ int_doc (pos 0) → ⊥
zero_differs e = cc

-- a count is not negative
negative_count : IsRefused whole (number (negative (negsuc 0)))
unfolding reader
negative_count = refl

-- a text is no number
text_number : IsRefused numeral (str "1")
unfolding reader
text_number = refl

-- a text is no flag
text_flag : IsRefused flag (str "true")
unfolding reader
text_flag = refl

-- ---- words

-- a parameter may stand in the query string
querystring : IsReadAs (word_of parameter_in) (str "querystring") (word_doc (codes "querystring"))
unfolding reader
querystring = refl

-- no parameter stands in the body
body_is_no_place : IsRefused (word_of parameter_in) (str "body")
unfolding reader
body_is_no_place = refl

-- an HTTP authentication scheme
scram : IsReadAs (word_of http_auth_scheme) (str "scram-sha-256") (word_doc (codes "scram-sha-256"))
unfolding reader
scram = refl

-- a word is read from exactly its text
capital_word : IsRefused (word_of http_auth_scheme) (str "Basic")
unfolding reader
capital_word = refl

-- ---- lists and maps

-- a list fits only where each element fits
list_with_another : IsRefused (list_of text) (list (str "a" ∷ num 1 ∷ []))
unfolding reader
list_with_another = refl

-- nulls in a map of any trees stay
map_of_trees : Keeps (named link_object) (members (("parameters", members (("a", null) ∷ ("b", list (null ∷ [])) ∷ [])) ∷ ("x-a", null) ∷ []))
unfolding reader write
map_of_trees = refl

-- a null request body of a link is none
link_null_body : Prints (named link_object) (members (("operationId", str "") ∷ ("requestBody", null) ∷ [])) (members [])
unfolding reader write
link_null_body = refl

-- ---- maps that keep their order

-- such a map of two flags
abbrev b_before_a : Doc
b_before_a = ordered_map_doc (entries (("b", flag_doc true) ∷ ("a", flag_doc false) ∷ []))

abbrev a_before_b : Doc
a_before_b = ordered_map_doc (entries (("a", flag_doc false) ∷ ("b", flag_doc true) ∷ []))

-- the order is of the document
order_differs : b_before_a ≡ a_before_b → ⊥
order_differs e = cc

-- whatever the order of a tree's members, it is read in the order of the names
order_read : IsReadAs (ordered_map_of flag) (members (("b", boolean true) ∷ ("a", boolean false) ∷ [])) a_before_b
unfolding reader
order_read = refl

-- a map that stands in another order is written in that of the names
order_written : write b_before_a ≡ members (("a", boolean false) ∷ ("b", boolean true) ∷ [])
unfolding write
order_written = refl

-- and the normal form stands in it
order_of_normal_form : normal_form b_before_a ≡ a_before_b
unfolding normal_form
order_of_normal_form = refl

-- entries in that order are in normal form
order_in_normal_form : normal_form a_before_b ≡ a_before_b
unfolding normal_form
order_in_normal_form = refl

-- a list is no such map
order_of_list : IsRefused (ordered_map_of flag) (list (boolean true ∷ []))
unfolding reader
order_of_list = refl

-- such a map fits only where each entry fits
order_with_another : IsRefused (ordered_map_of flag) (members (("a", boolean false) ∷ ("b", num 1) ∷ []))
unfolding reader
order_with_another = refl

-- ---- fractions

-- a tree whose bound is a fraction holds one
fraction_bound : (x : Float) → has_float (members (("minimum", number (float x)) ∷ ("type", str "integer") ∷ [])) ≡ true
fraction_bound x = refl

-- and no number is read from it
fraction_bound_refused : (x : Float) → IsRefused numeral (number (float x))
unfolding reader
fraction_bound_refused x = refl

-- a fraction deep in an example is one too
fraction_example : (x : Float) → has_float (members (("example", list (members (("a", number (float x)) ∷ []) ∷ [])) ∷ [])) ≡ true
fraction_example x = refl

-- a document that holds that example is not plain
fraction_document : (x : Float) → has_fraction (some_doc (tree_doc (list (members (("a", number (float x)) ∷ []) ∷ [])))) ≡ true
unfolding has_fraction
fraction_document x = refl

-- nor is one with a fraction among its extensions
fraction_extension : (x : Float) → has_fraction (built contact_object [] (Some (members_of (("x-a", number (float x)) ∷ [])))) ≡ true
unfolding has_fraction
fraction_extension x = refl
