-- Whether parameters are unambiguous, by the members that are asked: the others always are.
use Rattle.std.proofs.Common.{◌≡◌, Bool, true, ◌&&◌, ap, ◌∙◌, option_map, string_bytes}
use Rattle.utoipa_base.specs.Extensions.{extensions_view}
use Rattle.utoipa_base.specs.Kinds.{schema, named, parameter_object, media_type_object}
use Rattle.utoipa_base.specs.Refs.{ref_or_doc}
use Rattle.utoipa_base.specs.Unambiguous.{is_unambiguous, are_extensions}
use Rattle.utoipa_base.specs.Views.{option_of, map_of_docs}
use Rattle.utoipa_base.proofs.UnambiguousParts.{unambiguous-table, unambiguous-text, unambiguous-required, docs-none, option-flag, option-text, option-tree, option-deprecated}
use Rattle.utoipa_leaf.proofs.UnambiguousFields.{option-style, parameter_in-always}
use Rattle.utoipa_media.specs.Docs.{content_doc}
use Rattle.utoipa_schema.specs.Docs.{schema_doc}
use Rattle.utoipa_schema.proofs.FieldsAsked.{passes_by, is_asked}
use Rattle.utoipa_operation_parts.specs.Parameter.{parameter_doc}
use Rattle.utoipa_operation_parts.specs.declared.parameter.Parameter.{Parameter}

pub parameter_parts : (p : Parameter) → is_unambiguous (parameter_doc p)
    ≡ ((is_unambiguous (map_of_docs (ref_or_doc (named media_type_object) content_doc) p.content) && (is_unambiguous (option_of (ref_or_doc schema schema_doc) p.schema) && true))
    && are_extensions (option_map extensions_view p.extensions))
parameter_parts p =
    unambiguous-table parameter_object _ _ ∙ ap (λ b. b && are_extensions (option_map extensions_view p.extensions))
    (passes_by _ _ (option-flag p.allow_reserved)
    (is_asked _ _
    (passes_by _ _ (option-deprecated p.deprecated)
    (passes_by _ _ (option-text p.description)
    (passes_by _ _ (option-tree p.example)
    (passes_by _ _ (option-flag p.explode)
    (passes_by _ _ (parameter_in-always p.parameter_in)
    (passes_by _ _ (unambiguous-text (string_bytes p.name))
    (passes_by _ _ (unambiguous-required p.required)
    (is_asked _ _
    (passes_by _ _ (option-style p.style) docs-none)))))))))))

pub ruleset by_parameters = (parameter_parts)
