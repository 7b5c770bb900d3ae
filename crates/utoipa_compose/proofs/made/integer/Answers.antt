use Rattle.std.proofs.Common.{◌∙◌}
use Rattle.utoipa_base.specs.Docs.{none_doc}
use Rattle.utoipa_base.specs.Numbers.{number_doc}
use Rattle.utoipa_base.specs.Views.{option_of}
use Rattle.utoipa_schema_parts.specs.Types.{type_word_doc}
use Rattle.utoipa_schema_parts.specs.declared.types.SchemaType.TheVariants as types
use Rattle.utoipa_schema_parts.specs.declared.types.TypeWord.TheVariants as words
use Rattle.utoipa_compose.specs.Made.{object_of}
use Rattle.utoipa_compose.proofs.MadeDocuments.{integer_made}
use Rattle.utoipa_compose.proofs.made.integer.Goals as goal

pub returns : goal.returns
returns c =
    integer_made (types.Single words.Integer) c.with_type-object.result c.with_type-object.ensures c.known.result c.args.minimum ∙
    (λ i. object_of (type_word_doc words.Integer) (c.known.ensures i) none_doc none_doc none_doc (option_of number_doc c.args.minimum))
