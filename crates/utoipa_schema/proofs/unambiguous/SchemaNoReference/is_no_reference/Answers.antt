use Rattle.std.proofs.Common.{ap, refl, ◌∙◌}
use Rattle.utoipa_base.specs.Kinds.{one_of_schema, all_of_schema, any_of_schema, array_schema, object_schema}
use Rattle.utoipa_schema.specs.Docs.{schema_doc}
use Rattle.utoipa_schema.specs.Folds.{schema-Array, schema-Object, schema-OneOf, schema-AllOf, schema-AnyOf}
use Rattle.utoipa_base.proofs.WithoutReference.{alternative_reads_alone}
use Rattle.utoipa_schema.proofs.unambiguous.SchemaNoReference.is_no_reference.Goals as goal

pub returns-in-Array : goal.returns-in-Array
returns-in-Array c = alternative_reads_alone array_schema _ _ _ refl (ap schema_doc c.in-Array.is ∙ schema-Array c.in-Array.field-0) c.requires

pub returns-in-Object : goal.returns-in-Object
returns-in-Object c = alternative_reads_alone object_schema _ _ _ refl (ap schema_doc c.in-Object.is ∙ schema-Object c.in-Object.field-0) c.requires

pub returns-in-OneOf : goal.returns-in-OneOf
returns-in-OneOf c = alternative_reads_alone one_of_schema _ _ _ refl (ap schema_doc c.in-OneOf.is ∙ schema-OneOf c.in-OneOf.field-0) c.requires

pub returns-in-AllOf : goal.returns-in-AllOf
returns-in-AllOf c = alternative_reads_alone all_of_schema _ _ _ refl (ap schema_doc c.in-AllOf.is ∙ schema-AllOf c.in-AllOf.field-0) c.requires

pub returns-in-AnyOf : goal.returns-in-AnyOf
returns-in-AnyOf c = alternative_reads_alone any_of_schema _ _ _ refl (ap schema_doc c.in-AnyOf.is ∙ schema-AnyOf c.in-AnyOf.field-0) c.requires
