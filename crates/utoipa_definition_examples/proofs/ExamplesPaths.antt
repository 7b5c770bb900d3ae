-- Examples of documents, paths, operations, responses and contents.
use Rattle.std.specs.Prelude.{◌≡◌, [], ◌∷◌, true, false, codes, None, Some, refl}
use Rattle.serde_json.specs.Data.{null, boolean}
use Rattle.utoipa_base.specs.Kinds.{open_api_object, components_object, path_item_object, operation_object, parameter_object, request_body_object, media_type_object, encoding_object, response_object, link_object, header_object, reference_object, ref_or, named}
use Rattle.utoipa_base.specs.Docs.{Doc, text_doc, some_doc, ref_doc, own_doc, map_doc, ordered_map_doc, entries_doc, no_entries}
use Rattle.utoipa_base.specs.Tables.{paths, responses, callback}
use Rattle.utoipa_base.specs.Version.{read_version}
use Rattle.utoipa_base.specs.Reading.{reader}
use Rattle.utoipa_base.specs.Writing.{write}
use Rattle.utoipa_base.specs.NormalForm.{normal_form}
use Rattle.utoipa_base.specs.WellFormed.{IsUnambiguous}
use Rattle.utoipa_definition_examples.proofs.ExampleTrees.{members, members_of, list, str, num, Prints, Keeps, IsRefused, IsReadAs, built, entries}

-- ---- OpenAPI Object

-- a document of version 3.1.x.0, with a path and an extension of its paths
document_letters : Prints (named open_api_object) (members (("info", members (("title", str "t") ∷ ("version", str "1") ∷ [])) ∷ ("openapi", str "3.1.x.0") ∷ ("paths", members (("/a", members []) ∷ ("x-team", str "a") ∷ [])) ∷ [])) (members (("info", members (("title", str "t") ∷ ("version", str "1") ∷ [])) ∷ ("openapi", str "3.1.0") ∷ ("paths", members (("/a", members []) ∷ ("x-team", str "a") ∷ [])) ∷ []))
unfolding reader write read_version
document_letters = refl

-- a document of version 3.1.0, with a path and an extension of its paths
document_plain : Prints (named open_api_object) (members (("info", members (("title", str "t") ∷ ("version", str "1") ∷ [])) ∷ ("openapi", str "3.1.0") ∷ ("paths", members (("/a", members []) ∷ ("x-team", str "a") ∷ [])) ∷ [])) (members (("info", members (("title", str "t") ∷ ("version", str "1") ∷ [])) ∷ ("openapi", str "3.1.0") ∷ ("paths", members (("/a", members []) ∷ ("x-team", str "a") ∷ [])) ∷ []))
unfolding reader write read_version
document_plain = refl

-- a document of version +3.1.0, with a path and an extension of its paths
document_sign : Prints (named open_api_object) (members (("info", members (("title", str "t") ∷ ("version", str "1") ∷ [])) ∷ ("openapi", str "+3.1.0") ∷ ("paths", members (("/a", members []) ∷ ("x-team", str "a") ∷ [])) ∷ [])) (members (("info", members (("title", str "t") ∷ ("version", str "1") ∷ [])) ∷ ("openapi", str "3.1.0") ∷ ("paths", members (("/a", members []) ∷ ("x-team", str "a") ∷ [])) ∷ []))
unfolding reader write read_version
document_sign = refl

-- a document of version 3.2.7, with a path and an extension of its paths
document_two : Prints (named open_api_object) (members (("info", members (("title", str "t") ∷ ("version", str "1") ∷ [])) ∷ ("openapi", str "3.2.7") ∷ ("paths", members (("/a", members []) ∷ ("x-team", str "a") ∷ [])) ∷ [])) (members (("info", members (("title", str "t") ∷ ("version", str "1") ∷ [])) ∷ ("openapi", str "3.2.0") ∷ ("paths", members (("/a", members []) ∷ ("x-team", str "a") ∷ [])) ∷ []))
unfolding reader write read_version
document_two = refl

-- a document of version 3.1 is refused
document_short : IsRefused (named open_api_object) (members (("info", members (("title", str "t") ∷ ("version", str "1") ∷ [])) ∷ ("openapi", str "3.1") ∷ ("paths", members (("/a", members []) ∷ ("x-team", str "a") ∷ [])) ∷ []))
unfolding reader read_version
document_short = refl

-- a document of version 3.1.200 is refused
document_large_patch : IsRefused (named open_api_object) (members (("info", members (("title", str "t") ∷ ("version", str "1") ∷ [])) ∷ ("openapi", str "3.1.200") ∷ ("paths", members (("/a", members []) ∷ ("x-team", str "a") ∷ [])) ∷ []))
unfolding reader read_version
document_large_patch = refl

-- a document of version 3.0.3 is refused
document_three_zero : IsRefused (named open_api_object) (members (("info", members (("title", str "t") ∷ ("version", str "1") ∷ [])) ∷ ("openapi", str "3.0.3") ∷ ("paths", members (("/a", members []) ∷ ("x-team", str "a") ∷ [])) ∷ []))
unfolding reader read_version
document_three_zero = refl

-- an empty `$schema` is left out, and empty components stay
document_self : Prints (named open_api_object) (members (("$schema", str "") ∷ ("$self", str "u") ∷ ("components", members []) ∷ ("info", members (("title", str "t") ∷ ("version", str "1") ∷ [])) ∷ ("openapi", str "3.2.0") ∷ ("paths", members []) ∷ [])) (members (("$self", str "u") ∷ ("components", members []) ∷ ("info", members (("title", str "t") ∷ ("version", str "1") ∷ [])) ∷ ("openapi", str "3.2.0") ∷ ("paths", members []) ∷ []))
unfolding reader write read_version
document_self = refl

-- a document has paths
document_without_paths : IsRefused (named open_api_object) (members (("$schema", str "") ∷ ("$self", str "u") ∷ ("components", members []) ∷ ("info", members (("title", str "t") ∷ ("version", str "1") ∷ [])) ∷ ("openapi", str "3.2.0") ∷ []))
unfolding reader read_version
document_without_paths = refl

-- a server without a URL refuses the document
document_server : IsRefused (named open_api_object) (members (("$schema", str "") ∷ ("$self", str "u") ∷ ("info", members (("title", str "t") ∷ ("version", str "1") ∷ [])) ∷ ("openapi", str "3.2.0") ∷ ("paths", members []) ∷ ("servers", list (members [] ∷ [])) ∷ []))
unfolding reader read_version
document_server = refl

-- a document with webhooks
document_webhooks : Keeps (named open_api_object) (members (("$self", str "https://example.com/openapi.json") ∷ ("info", members (("title", str "Events API") ∷ ("version", str "1.0.0") ∷ [])) ∷ ("jsonSchemaDialect", str "d") ∷ ("openapi", str "3.2.0") ∷ ("paths", members []) ∷ ("webhooks", members (("newPet", members (("post", members (("responses", members (("200", members (("description", str "Webhook received") ∷ [])) ∷ [])) ∷ [])) ∷ [])) ∷ [])) ∷ []))
unfolding reader write read_version
document_webhooks = refl

-- components of several kinds
components : Keeps (named components_object) (members (("mediaTypes", members (("E", members (("itemEncoding", members (("contentType", str "application/json") ∷ [])) ∷ ("itemSchema", members (("$ref", str "#/s") ∷ [])) ∷ ("prefixEncoding", list (members (("contentType", str "text/plain") ∷ []) ∷ [])) ∷ [])) ∷ [])) ∷ ("parameters", members (("Limit", members (("in", str "query") ∷ ("name", str "limit") ∷ ("required", boolean false) ∷ ("schema", members (("type", str "integer") ∷ [])) ∷ [])) ∷ [])) ∷ ("responses", members (("200", members (("description", str "Okay") ∷ [])) ∷ [])) ∷ ("schemas", members (("Comp", members (("properties", members (("name", members (("type", str "string") ∷ [])) ∷ [])) ∷ ("required", list (str "name" ∷ [])) ∷ ("type", str "object") ∷ [])) ∷ ("Person", members (("$ref", str "#/components/PersonModel") ∷ [])) ∷ [])) ∷ ("securitySchemes", members (("TLS", members (("type", str "mutualTLS") ∷ [])) ∷ [])) ∷ []))
unfolding reader write
components = refl

-- ---- Paths Object

-- a member whose name begins `x-` is an extension, and the others are paths
paths_extension : IsReadAs paths (members (("/a", members []) ∷ ("x-team", str "a") ∷ [])) (entries_doc (entries (("/a", built path_item_object [] None) ∷ [])) (Some (members_of (("x-team", str "a") ∷ []))))
unfolding reader
paths_extension = refl

-- a path named like an extension is written
path_named_x : write (entries_doc (entries (("x-p", built path_item_object [] None) ∷ [])) None) ≡ members (("x-p", members []) ∷ [])
unfolding write
path_named_x = refl

-- and reads back as an extension
path_named_x_back : IsReadAs paths (write (entries_doc (entries (("x-p", built path_item_object [] None) ∷ [])) None)) (entries_doc no_entries (Some (members_of (("x-p", members []) ∷ []))))
unfolding reader write
path_named_x_back = refl

-- a path is written over an extension of its name
path_over_extension : write (entries_doc (entries (("/a", built path_item_object [] None) ∷ [])) (Some (members_of (("/a", num 1) ∷ ("x-b", num 2) ∷ [])))) ≡ members (("/a", members []) ∷ ("x-b", num 2) ∷ [])
unfolding write
path_over_extension = refl

-- paths and extensions are written in the order of their names
path_between_extensions : write (entries_doc (entries (("/b", built path_item_object [] None) ∷ ("z", built path_item_object [] None) ∷ [])) (Some (members_of (("/a", num 1) ∷ ("x-b", num 2) ∷ [])))) ≡ members (("/a", num 1) ∷ ("/b", members []) ∷ ("x-b", num 2) ∷ ("z", members []) ∷ [])
unfolding write
path_between_extensions = refl

-- a path item with a number at `$ref` is refused
path_reference : IsRefused paths (members (("/a", members (("$ref", num 5) ∷ [])) ∷ []))
unfolding reader
path_reference = refl

-- ---- Callback Object

-- a callback with an object at `$ref` is no reference, but a callback with that expression
callback_empty_reference : IsReadAs (ref_or callback) (members (("$ref", members []) ∷ [])) (own_doc (map_doc (entries (("$ref", own_doc (built path_item_object [] None)) ∷ []))))
unfolding reader
callback_empty_reference = refl

-- a path item with `$ref` inside a callback is written
callback_with_reference : write (map_doc (entries (("e", own_doc (built path_item_object (("$ref", some_doc (text_doc (codes "#/p"))) ∷ ("summary", some_doc (text_doc (codes "s"))) ∷ []) None)) ∷ []))) ≡ members (("e", members (("$ref", str "#/p") ∷ ("summary", str "s") ∷ [])) ∷ [])
unfolding write
callback_with_reference = refl

-- and reads back as a reference
callback_with_reference_back : IsReadAs callback (write (map_doc (entries (("e", own_doc (built path_item_object (("$ref", some_doc (text_doc (codes "#/p"))) ∷ ("summary", some_doc (text_doc (codes "s"))) ∷ []) None)) ∷ [])))) (map_doc (entries (("e", ref_doc (named path_item_object) (built reference_object (("$ref", text_doc (codes "#/p")) ∷ ("summary", text_doc (codes "s")) ∷ []) None)) ∷ [])))
unfolding reader write
callback_with_reference_back = refl

-- it is not well-formed
callback_with_reference_ill-formed : IsUnambiguous (map_doc (entries (("e", own_doc (built path_item_object (("$ref", some_doc (text_doc (codes "#/p"))) ∷ ("summary", some_doc (text_doc (codes "s"))) ∷ []) None)) ∷ []))) → ⊥
unfolding IsUnambiguous write
callback_with_reference_ill-formed t = let e = t.0.1 in cc

-- the same item in paths reads back as itself
path_with_reference_back : IsReadAs paths (write (entries_doc (entries (("e", built path_item_object (("$ref", some_doc (text_doc (codes "#/p"))) ∷ ("summary", some_doc (text_doc (codes "s"))) ∷ []) None) ∷ [])) None)) (entries_doc (entries (("e", built path_item_object (("$ref", some_doc (text_doc (codes "#/p"))) ∷ ("summary", some_doc (text_doc (codes "s"))) ∷ []) None) ∷ [])) None)
unfolding reader write
path_with_reference_back = refl

-- and there it is well-formed
path_with_reference_well-formed : IsUnambiguous (entries_doc (entries (("e", built path_item_object (("$ref", some_doc (text_doc (codes "#/p"))) ∷ ("summary", some_doc (text_doc (codes "s"))) ∷ []) None) ∷ [])) None)
unfolding IsUnambiguous write
path_with_reference_well-formed = ((((tt, (tt, (tt, (tt, (tt, (tt, (tt, (tt, (tt, (tt, (tt, (tt, (tt, (tt, (tt, tt))))))))))))))), refl), tt, tt), refl, refl)

-- a member of a callback whose name begins `x-` is an expression like any other
callback_extension_name : Keeps callback (members (("x-e", members []) ∷ []))
unfolding reader write
callback_extension_name = refl

-- ---- Operation Object

-- an operation with a callback and an operation by `query`
operation_callbacks : Keeps (named operation_object) (members (("callbacks", members (("onEvent", members (("{$request.body#/callbackUrl}", members (("query", members (("responses", members (("200", members []) ∷ [])) ∷ [])) ∷ [])) ∷ [])) ∷ [])) ∷ ("responses", members (("202", members (("summary", str "Accepted") ∷ [])) ∷ [])) ∷ []))
unfolding reader write
operation_callbacks = refl

-- an operation of empty responses
operation_new : Keeps (named operation_object) (members (("responses", members []) ∷ []))
unfolding reader write
operation_new = refl

-- an operation has responses
operation_without_responses : IsRefused (named operation_object) (members (("operationId", str "o") ∷ []))
unfolding reader
operation_without_responses = refl

-- operations by method, and by names of their own
path_item_operations : Keeps (named path_item_object) (members (("additionalOperations", members (("COPY", members (("responses", members []) ∷ [])) ∷ [])) ∷ ("get", members (("operationId", str "g1") ∷ ("responses", members []) ∷ [])) ∷ ("post", members (("operationId", str "p2") ∷ ("responses", members []) ∷ [])) ∷ []))
unfolding reader write
path_item_operations = refl

-- null at a method is no operation, and an empty map of operations is left out
path_item_no_operations : Prints (named path_item_object) (members (("additionalOperations", members []) ∷ ("get", null) ∷ ("servers", list []) ∷ [])) (members (("servers", list []) ∷ []))
unfolding reader write
path_item_no_operations = refl

-- ---- Responses Object, Response Object

-- one response and one extension
responses_extension : IsReadAs responses (members (("200", members []) ∷ ("x-a", num 1) ∷ [])) (entries_doc (entries (("200", own_doc (built response_object [] None)) ∷ [])) (Some (members_of (("x-a", num 1) ∷ []))))
unfolding reader
responses_extension = refl

-- empty responses
responses_empty : Keeps responses (members [])
unfolding reader write
responses_empty = refl

-- a response with a content
response_content : Keeps (named response_object) (members (("content", members (("application/json", members (("schema", members (("$ref", str "#/components/schemas/MySchemaPayload") ∷ [])) ∷ [])) ∷ [])) ∷ ("description", str "A sample response") ∷ []))
unfolding reader write
response_content = refl

-- empty texts and maps of a response are left out
response_defaults : Prints (named response_object) (members (("content", members []) ∷ ("description", str "") ∷ ("headers", members []) ∷ ("links", members []) ∷ ("summary", str "") ∷ [])) (members (("summary", str "") ∷ []))
unfolding reader write
response_defaults = refl

-- a response whose content in plain text stands before the one in JSON
abbrev response_text_first : Doc
response_text_first = built response_object (("content", ordered_map_doc (entries (("text/plain", own_doc (built media_type_object [] None)) ∷ ("application/json", own_doc (built media_type_object [] None)) ∷ []))) ∷ []) None

abbrev response_json_first : Doc
response_json_first = built response_object (("content", ordered_map_doc (entries (("application/json", own_doc (built media_type_object [] None)) ∷ ("text/plain", own_doc (built media_type_object [] None)) ∷ []))) ∷ []) None

-- its contents are written in the order of their names
response_contents : write response_text_first ≡ members (("content", members (("application/json", members []) ∷ ("text/plain", members []) ∷ [])) ∷ [])
unfolding write
response_contents = refl

-- and read back in that order
response_contents_back : IsReadAs (named response_object) (write response_text_first) response_json_first
unfolding reader write
response_contents_back = refl

-- which is its normal form
response_contents_normal : normal_form response_text_first ≡ response_json_first
unfolding normal_form write
response_contents_normal = refl

-- contents in a list are refused
response_content_list : IsRefused (named response_object) (members (("content", list []) ∷ []))
unfolding reader
response_content_list = refl

-- ---- Parameter Object, Header Object, Request Body Object

-- a parameter says whether it is required
parameter_required : IsRefused (named parameter_object) (members (("in", str "query") ∷ ("name", str "limit") ∷ []))
unfolding reader
parameter_required = refl

-- the examples of a parameter are dropped
parameter_examples : Prints (named parameter_object) (members (("example", num 1) ∷ ("examples", members []) ∷ ("in", str "path") ∷ ("name", str "id") ∷ ("required", boolean true) ∷ ("style", str "simple") ∷ [])) (members (("example", num 1) ∷ ("in", str "path") ∷ ("name", str "id") ∷ ("required", boolean true) ∷ ("style", str "simple") ∷ []))
unfolding reader write
parameter_examples = refl

-- a header with every member of a schema, a style and an example
header : Keeps (named header_object) (members (("deprecated", boolean true) ∷ ("description", str "custom header") ∷ ("example", str "example-value") ∷ ("explode", boolean true) ∷ ("schema", members (("type", str "string") ∷ [])) ∷ ("style", str "simple") ∷ []))
unfolding reader write
header = refl

-- a header by its content
header_content : Keeps (named header_object) (members (("content", members (("application/json", members (("schema", members (("type", str "integer") ∷ [])) ∷ [])) ∷ [])) ∷ ("examples", members (("test_example", members (("value", str "test") ∷ [])) ∷ [])) ∷ []))
unfolding reader write
header_content = refl

-- a request body by reference to a schema
request_body : Keeps (named request_body_object) (members (("content", members (("application/json", members (("schema", members (("$ref", str "#/components/schemas/EmailPayload") ∷ [])) ∷ [])) ∷ [])) ∷ ("description", str "A sample requestBody") ∷ ("required", boolean true) ∷ []))
unfolding reader write
request_body = refl

-- the content of a request body is written, also where it is empty
request_body_new : Keeps (named request_body_object) (members (("content", members []) ∷ []))
unfolding reader write
request_body_new = refl

-- a request body has a content
request_body_empty : IsRefused (named request_body_object) (members [])
unfolding reader
request_body_empty = refl

-- an encoding has no required member
empty_encoding : Keeps (named encoding_object) (members [])
unfolding reader write
empty_encoding = refl

-- a link has no required member
empty_link : Keeps (named link_object) (members [])
unfolding reader write
empty_link = refl

-- encodings in encodings
media_type_encodings : Keeps (named media_type_object) (members (("encoding", members (("a", members (("itemEncoding", members (("prefixEncoding", list (members (("contentType", str "c") ∷ []) ∷ [])) ∷ [])) ∷ [])) ∷ [])) ∷ ("itemSchema", members []) ∷ []))
unfolding reader write
media_type_encodings = refl
