-- The rules, for whoever reads an adapted or an upgraded tree or adds a rule: which trees each rule changes, and into what. Each rule names the
-- section of the standard that gives both forms one meaning.
use Rattle.std.specs.Prelude.{ℕ, List, [], ◌∷◌, ◌++◌, Bool, true, false, not, ◌&&◌, ◌||◌, if◌then◌else◌, nat_eq, Option, None, Some, option_map, codes}
use Rattle.std.specs.List.{list_any, starts_with}
use Rattle.std.specs.Str.{bytes_eq, str_eq_ignore_ascii_case, str_to_ascii_lowercase}
use Rattle.serde_json.specs.Data.{Data, null, boolean, string, object, no_members, member}
use Rattle.serde_json.specs.Find.{get}
use Rattle.utoipa_adapt.specs.Trees.{has, lacks, has_any, is_true, is_false, is_number, is_text, lacks_null, is_one_reference, has_two, passes, says, only_one, edited, with_member, only_member, with_text, with_item, list_of_one, list_of_two}
use Rattle.utoipa_base.specs.Kinds.{open_api_object, operation_object, parameter_object, reference_object, http_auth_scheme, Kind, version, word_of, named, schema, array_items, additional_properties}
use Rattle.utoipa_base.specs.Words.{words}

-- ---- the rules

-- the rules that a tree is changed by
pub data RuleSet : Type 0 where
  -- to the form that the model reads
  of_model : RuleSet
  -- from OpenAPI 3.0 to 3.1
  of_upgrade : RuleSet

pub data Rule : Type 0 where
  -- ---- to the form that the model reads: sections of OpenAPI 3.1

  -- OpenAPI Object (OpenAPI 3.1, section 4.8.1): without `paths` a document has no paths. A Paths Object may be empty (section 4.8.8).
  paths_absent : Rule
  -- Operation Object (section 4.8.10): without `responses` an operation tells no response
  responses_absent : Rule
  -- Parameter Object (section 4.8.12): `required` is false where it is absent. A parameter in the path without it is not valid; it is false there
  -- too, so that what checks the document still tells it.
  required_absent : Rule
  -- Versions (section 4.1): the first two numbers of `openapi` name the features, and tools do not look at the third
  version_of_two : Rule
  -- Security Scheme Object (section 4.8.27): `scheme` is a name of HTTP authentication, which any case may write (RFC 9110, section 11.1)
  scheme_in_other_case : Rule
  -- Boolean schemas (JSON Schema 2020-12, Core, section 4.3.2): `true` is the empty schema
  schema_true : Rule
  -- JSON Schema 2020-12, Validation, section 6.1.3: `const` is an `enum` of one value. Beside an `enum` it stays, since both
  -- hold then.
  const_alone : Rule
  -- JSON Schema 2020-12, Core, section 10.3.1.2: an absent `items` asserts what the empty schema does. As an annotation the two differ, which
  -- `unevaluatedItems` looks at, and the model keeps none.
  items_absent : Rule
  -- ---- from OpenAPI 3.0 to 3.1: sections of OpenAPI 3.0.3

  -- Versions (section 4.1): 3.0 with any third number. What is upgraded is of 3.1.
  version_of_3_0 : Rule
  -- Reference Object (section 4.7.23): what stands beside `$ref` is ignored. In 3.1 it is not, beside the `$ref` of a schema.
  beside_reference : Rule
  -- Data Types (section 4.4): `binary` is any sequence of octets. In 3.1 formats say nothing of encodings, and the standard's notes on migrating from 3.0
  -- write a media type.
  binary_format : Rule
  -- Data Types (section 4.4): `byte` is a text in base64, which 3.1 says by `contentEncoding` (JSON Schema 2020-12, Validation, section 8.3)
  byte_format : Rule
  -- Schema Object (section 4.7.24) takes `exclusiveMinimum` from JSON Schema (Wright draft 00, Validation, section 5.5): true excludes the bound itself. In
  -- 3.1 it is a bound of its own (JSON Schema 2020-12, Validation, section 6.2.5).
  exclusive_minimum : Rule
  -- false is its default there, and without a bound it excludes nothing
  idle_exclusive_minimum : Rule
  -- the same of `exclusiveMaximum` (Wright draft 00, section 5.3; 2020-12, section 6.2.3)
  exclusive_maximum : Rule
  idle_exclusive_maximum : Rule
  -- Schema Object (section 4.7.24): `example`, which 3.1 deprecates in favour of `examples` (OpenAPI 3.1, section 4.8.24)
  schema_example : Rule
  -- `nullable` (section 4.7.24.1) adds null to the type alone, and read by the letter an `enum` without null still refuses null. Whoever writes both
  -- means that null may stand there, and tools take it so. This rule goes by what is meant: null is put at the end.
  null_in_enum : Rule
  -- `nullable` (section 4.7.24.1) adds null to the type that stands beside it. 3.1 lists types.
  nullable_type : Rule
  -- `nullable` has no effect without a type. But 3.0 ignores what stands beside `$ref`, so people write a reference that may be null as a combination
  -- of that reference alone, beside `nullable`, and tools take it so. This rule goes by what is meant: the reference or null. `oneOf` would refuse
  -- null where the reference lets it in too, so it becomes `anyOf`.
  nullable_reference : Rule
  -- `nullable` has no effect where it is false, which is its default, and none without a type (section 4.7.24.1)
  idle_nullable : Rule

-- ---- what the rules look at

-- the versions that lack a third number
abbrev pub versions_of_two : List (List ℕ)
versions_of_two = codes "3.1" ∷ codes "3.2" ∷ []

-- whether a text is a word in another case
abbrev pub is_case_of : List ℕ → List ℕ → Bool
is_case_of s w = not (bytes_eq s w) && str_eq_ignore_ascii_case s w

-- whether a text is one of some words in another case
abbrev pub is_other_case : List (List ℕ) → List ℕ → Bool
is_other_case ws s = list_any (is_case_of s) ws

-- the keywords beside which the model keeps no `enum`: it reads a combination there, or an array
abbrev pub beside_enum : List (List ℕ)
beside_enum = codes "oneOf" ∷ codes "allOf" ∷ codes "anyOf" ∷ codes "items" ∷ []

-- the keywords beside which an array gets no `items`: the combinations, of which the schema is read as one; the keywords that the model keeps of other
-- schemas alone, and that hold of arrays too; and `unevaluatedItems` (JSON Schema 2020-12, Core, section 11.2), which depends on `items`
abbrev pub beside_items : List (List ℕ)
beside_items =
    codes "oneOf"
    ∷ codes "allOf"
    ∷ codes "anyOf"
    ∷ codes "const"
    ∷ codes "enum"
    ∷ codes "format"
    ∷ codes "readOnly"
    ∷ codes "writeOnly"
    ∷ codes "unevaluatedItems" ∷ []

-- whether a text is a version 3.0
abbrev pub is_3_0 : List ℕ → Bool
is_3_0 s = bytes_eq s (codes "3.0") || starts_with nat_eq s (codes "3.0.")

-- the combinations, of which the model reads a schema as one
abbrev pub combinations : List (List ℕ)
combinations = codes "oneOf" ∷ codes "allOf" ∷ codes "anyOf" ∷ []

-- whether a schema of texts has a format, and the member of a name is absent. Beside a combination the model keeps neither.
abbrev pub is_format_of_texts : (word name : List ℕ) → Data → Bool
is_format_of_texts word name d = says (codes "format") word d && (says (codes "type") (codes "string") d && not (has_any (name ∷ combinations) d))

-- whether a keyword is true, and so excludes the bound of another, which is a number
abbrev pub excludes : (keyword bound : List ℕ) → Data → Bool
excludes keyword bound d = passes is_true (get keyword d) && passes is_number (get bound d)

-- whether a keyword is false, or true without a bound to exclude
abbrev pub excludes_nothing : (keyword bound : List ℕ) → Data → Bool
excludes_nothing keyword bound d = passes is_false (get keyword d) || (passes is_true (get keyword d) && not (has bound d))

abbrev pub is_nullable : Data → Bool
is_nullable d = passes is_true (get (codes "nullable") d)

-- whether `nullable` adds null to a type, which is another one
abbrev pub is_nullable_type : Data → Bool
is_nullable_type d = is_nullable d && passes (is_text (λ s. not (bytes_eq s (codes "null")))) (get (codes "type") d)

-- the only combination that a schema has
abbrev pub combination : Data → Option Data
combination d = only_one (get (codes "allOf") d) (get (codes "oneOf") d) (get (codes "anyOf") d)

-- whether it has no type, and is a combination of one reference
abbrev pub is_combined_reference : Data → Bool
is_combined_reference d = not (has (codes "type") d) && passes is_one_reference (combination d)

-- whether `nullable` is true where it adds null to nothing
abbrev pub adds_nothing : Data → Bool
adds_nothing d = says (codes "type") (codes "null") d || (not (has (codes "type") d) && not (is_combined_reference d))

-- whether a rule changes a tree
abbrev pub applies : Rule → Data → Bool
applies paths_absent d = lacks (codes "paths") d
applies responses_absent d = lacks (codes "responses") d
applies required_absent d = lacks (codes "required") d
applies version_of_two d = is_text (λ s. list_any (bytes_eq s) versions_of_two) d
applies scheme_in_other_case d = is_text (is_other_case (words http_auth_scheme)) d
applies schema_true d = is_true d
applies const_alone d = lacks (codes "enum") d && (has (codes "const") d && not (has_any beside_enum d))
applies items_absent d = lacks (codes "items") d && (says (codes "type") (codes "array") d && not (has_any beside_items d))
applies version_of_3_0 d = is_text is_3_0 d
applies beside_reference d = passes (is_text (λ s. true)) (get (codes "$ref") d) && has_two d
applies binary_format d = is_format_of_texts (codes "binary") (codes "contentMediaType") d
applies byte_format d = is_format_of_texts (codes "byte") (codes "contentEncoding") d
applies exclusive_minimum d = excludes (codes "exclusiveMinimum") (codes "minimum") d
applies idle_exclusive_minimum d = excludes_nothing (codes "exclusiveMinimum") (codes "minimum") d
applies exclusive_maximum d = excludes (codes "exclusiveMaximum") (codes "maximum") d
applies idle_exclusive_maximum d = excludes_nothing (codes "exclusiveMaximum") (codes "maximum") d
applies schema_example d = has (codes "example") d && not (has (codes "examples") d)
applies null_in_enum d = is_nullable_type d && passes lacks_null (get (codes "enum") d)
applies nullable_type d = is_nullable_type d
applies nullable_reference d = is_nullable d && is_combined_reference d
applies idle_nullable d = passes is_false (get (codes "nullable") d) || (is_nullable d && adds_nothing d)

-- ---- what the rules make

-- an object with a list of the value of a member, under another name in its place
abbrev pub listed : (from to : List ℕ) → Data → Data
listed from to d = edited (from ∷ []) to (option_map list_of_one (get from d)) d

-- an object with the value of a member under another name in its place
abbrev pub moved : (from to : List ℕ) → Data → Data
moved from to d = edited (from ∷ []) to (get from d) d

-- an object with a text under another name, in place of a member
abbrev pub replaced : (from to text : List ℕ) → Data → Data
replaced from to text d = edited (from ∷ []) to (Some (string text)) d

-- an object without the member of a name
abbrev pub taken_away : List ℕ → Data → Data
taken_away name d = edited (name ∷ []) name None d

-- the type that null alone is of
abbrev pub null_type : Data
null_type = string (codes "null")

-- the schema of null
abbrev pub null_schema : Data
null_schema = object (member (codes "type") null_type no_members)

-- what a tree becomes by a rule that changes it
abbrev pub changed : Rule → Data → Data
changed paths_absent d = with_member (codes "paths") (object no_members) d
changed responses_absent d = with_member (codes "responses") (object no_members) d
changed required_absent d = with_member (codes "required") (boolean false) d
changed version_of_two d = with_text (λ s. s ++ codes ".0") d
changed scheme_in_other_case d = with_text str_to_ascii_lowercase d
changed schema_true d = object no_members
changed const_alone d = listed (codes "const") (codes "enum") d
changed items_absent d = with_member (codes "items") (object no_members) d
changed version_of_3_0 d = with_text (λ s. codes "3.1.0") d
changed beside_reference d = only_member (codes "$ref") d
changed binary_format d = replaced (codes "format") (codes "contentMediaType") (codes "application/octet-stream") d
changed byte_format d = replaced (codes "format") (codes "contentEncoding") (codes "base64") d
changed exclusive_minimum d = moved (codes "minimum") (codes "exclusiveMinimum") d
changed idle_exclusive_minimum d = taken_away (codes "exclusiveMinimum") d
changed exclusive_maximum d = moved (codes "maximum") (codes "exclusiveMaximum") d
changed idle_exclusive_maximum d = taken_away (codes "exclusiveMaximum") d
changed schema_example d = listed (codes "example") (codes "examples") d
changed null_in_enum d = edited (codes "enum" ∷ []) (codes "enum") (option_map (with_item null) (get (codes "enum") d)) d
changed nullable_type d = edited (codes "type" ∷ codes "nullable" ∷ []) (codes "type") (option_map (λ t. list_of_two t null_type) (get (codes "type") d)) d
changed nullable_reference d =
    edited (codes "allOf" ∷ codes "oneOf" ∷ codes "anyOf" ∷ codes "nullable" ∷ []) (codes "anyOf") (option_map (with_item null_schema) (combination d)) d
changed idle_nullable d = taken_away (codes "nullable") d

-- what a tree becomes by a rule
abbrev pub by_rule : Rule → Data → Data
by_rule r d = if applies r d then changed r d else d

-- what a tree becomes by rules, one after the other
abbrev pub by_rules : List Rule → Data → Data
by_rules [] d = d
by_rules (r ∷ rs) d = by_rules rs (by_rule r d)

-- ---- where the rules apply

-- the rules by which a tree that is looked at as of a kind is adapted to the model
abbrev pub rules_of : Kind → List Rule
rules_of (named open_api_object) = paths_absent ∷ []
rules_of (named operation_object) = responses_absent ∷ []
rules_of (named parameter_object) = required_absent ∷ []
rules_of version = version_of_two ∷ []
rules_of (word_of http_auth_scheme) = scheme_in_other_case ∷ []
rules_of schema = schema_true ∷ const_alone ∷ items_absent ∷ []
rules_of array_items = schema_true ∷ const_alone ∷ items_absent ∷ []
-- the model reads `true` there
rules_of additional_properties = const_alone ∷ items_absent ∷ []
rules_of k = []

-- the rules of each schema of 3.0. Those that look at a text at `type` stand before the one that makes it a list.
abbrev pub upgrades_of_schemas : List Rule
upgrades_of_schemas =
    binary_format
    ∷ byte_format
    ∷ exclusive_minimum
    ∷ idle_exclusive_minimum
    ∷ exclusive_maximum
    ∷ idle_exclusive_maximum
    ∷ schema_example
    ∷ null_in_enum
    ∷ nullable_type
    ∷ nullable_reference
    ∷ idle_nullable ∷ []

-- the rules by which it is upgraded
abbrev pub upgrades_of : Kind → List Rule
upgrades_of version = version_of_3_0 ∷ []
upgrades_of (named reference_object) = beside_reference ∷ []
upgrades_of schema = upgrades_of_schemas
upgrades_of array_items = upgrades_of_schemas
upgrades_of additional_properties = upgrades_of_schemas
upgrades_of k = []

-- the rules of a set
abbrev pub rules_in : RuleSet → Kind → List Rule
rules_in of_model k = rules_of k
rules_in of_upgrade k = upgrades_of k
