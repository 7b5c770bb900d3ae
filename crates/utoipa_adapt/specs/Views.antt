-- What the values of the program stand for.
use Rattle.std.specs.Prelude.{List, [], map}
use Rattle.utoipa_adapt.specs.Adapted.{Told}
use Rattle.utoipa_adapt.specs.Rules as specs
use Rattle.utoipa_adapt.specs.declared.rules.Rule.{Rule}
use Rattle.utoipa_adapt.specs.declared.rules.Rule.TheVariants as rules
use Rattle.utoipa_adapt.specs.declared.rules.RuleSet.{RuleSet}
use Rattle.utoipa_adapt.specs.declared.rules.RuleSet.TheVariants as sets
use Rattle.utoipa_adapt.specs.declared.telling.AdaptedPlace.{AdaptedPlace}
use Rattle.utoipa_check.specs.Views.{outwards}

abbrev pub set_of : RuleSet → specs.RuleSet
set_of sets.Model = specs.of_model
set_of sets.Upgrade = specs.of_upgrade

abbrev pub rule_of : Rule → specs.Rule
rule_of rules.PathsAbsent = specs.paths_absent
rule_of rules.ResponsesAbsent = specs.responses_absent
rule_of rules.RequiredAbsent = specs.required_absent
rule_of rules.VersionOfTwo = specs.version_of_two
rule_of rules.SchemeInOtherCase = specs.scheme_in_other_case
rule_of rules.SchemaTrue = specs.schema_true
rule_of rules.ConstAlone = specs.const_alone
rule_of rules.ItemsAbsent = specs.items_absent
rule_of rules.VersionOf30 = specs.version_of_3_0
rule_of rules.BesideReference = specs.beside_reference
rule_of rules.BinaryFormat = specs.binary_format
rule_of rules.ByteFormat = specs.byte_format
rule_of rules.ExclusiveMinimum = specs.exclusive_minimum
rule_of rules.IdleExclusiveMinimum = specs.idle_exclusive_minimum
rule_of rules.ExclusiveMaximum = specs.exclusive_maximum
rule_of rules.IdleExclusiveMaximum = specs.idle_exclusive_maximum
rule_of rules.SchemaExample = specs.schema_example
rule_of rules.NullInEnum = specs.null_in_enum
rule_of rules.NullableType = specs.nullable_type
rule_of rules.NullableReference = specs.nullable_reference
rule_of rules.IdleNullable = specs.idle_nullable

abbrev pub all_rules : List Rule → List specs.Rule
all_rules rs = map rule_of rs

abbrev pub told_of : AdaptedPlace → Told
told_of a = (outwards a.pointer.steps.items [], rule_of a.rule)

abbrev pub all_told : List AdaptedPlace → List Told
all_told ps = map told_of ps
