-- What was adapted or upgraded, in words.
use Rattle.std.specs.Prelude.{ℕ, List, ◌++◌, codes}
use Rattle.utoipa_adapt.specs.Adapted.{Told}
use Rattle.utoipa_adapt.specs.Rules.{Rule, paths_absent, responses_absent, required_absent, version_of_two, scheme_in_other_case, schema_true, const_alone, items_absent, version_of_3_0, beside_reference, binary_format, byte_format, exclusive_minimum, idle_exclusive_minimum, exclusive_maximum, idle_exclusive_maximum, schema_example, null_in_enum, nullable_type, nullable_reference, idle_nullable}
use Rattle.utoipa_check.specs.Pointers.{pointer_text}

abbrev pub rule_text : Rule → List ℕ
rule_text paths_absent = codes "the member `paths` is absent, and is read as `{}`"
rule_text responses_absent = codes "the member `responses` is absent, and is read as `{}`"
rule_text required_absent = codes "the member `required` is absent, and is read as `false`"
rule_text version_of_two = codes "the version has no third number, and is read with `.0`"
rule_text scheme_in_other_case = codes "the scheme is read in lower case"
rule_text schema_true = codes "the schema `true` is read as `{}`"
rule_text const_alone = codes "the member `const` is read as an `enum` of its value"
rule_text items_absent = codes "the member `items` is absent, and is read as `{}`"
rule_text version_of_3_0 = codes "the version becomes `3.1.0`"
rule_text beside_reference = codes "the members beside `$ref` have no effect, and go"
rule_text binary_format = codes "the format `binary` becomes the `contentMediaType` `application/octet-stream`"
rule_text byte_format = codes "the format `byte` becomes the `contentEncoding` `base64`"
rule_text exclusive_minimum = codes "the bound of `minimum` becomes that of `exclusiveMinimum`"
rule_text idle_exclusive_minimum = codes "the member `exclusiveMinimum` has no effect, and goes"
rule_text exclusive_maximum = codes "the bound of `maximum` becomes that of `exclusiveMaximum`"
rule_text idle_exclusive_maximum = codes "the member `exclusiveMaximum` has no effect, and goes"
rule_text schema_example = codes "the member `example` becomes a list, `examples`"
rule_text null_in_enum = codes "the `enum` gets null, which `nullable` allows"
rule_text nullable_type = codes "the member `nullable` becomes a second type, `null`"
rule_text nullable_reference = codes "the member `nullable` becomes an alternative, null"
rule_text idle_nullable = codes "the member `nullable` has no effect, and goes"

-- the JSON Pointer of the place, and what was changed there
abbrev pub told_text : Told → List ℕ
told_text t = pointer_text t.0 ++ codes ": " ++ rule_text t.1
