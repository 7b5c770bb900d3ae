-- Fields of operations, and of what they hold, that are words, and so are always unambiguous.
use Rattle.std.proofs.Common.{◌≡◌, true, Option}
use Rattle.utoipa_base.specs.Unambiguous.{is_unambiguous}
use Rattle.utoipa_base.specs.Views.{option_of}
use Rattle.utoipa_leaf.specs.Path.{parameter_in_doc, parameter_style_doc}
use Rattle.utoipa_leaf.specs.Version.{version_doc}
use Rattle.utoipa_leaf.specs.declared.path.ParameterStyle.{ParameterStyle}
use Rattle.utoipa_leaf.specs.declared.path.ParameterIn.{ParameterIn}
use Rattle.utoipa_leaf.specs.declared.version.OpenApiVersion.{OpenApiVersion}
use Rattle.utoipa_base.proofs.UnambiguousParts.{by_parts, unambiguous-word, option-always}

pub option-style : (o : Option ParameterStyle) → is_unambiguous (option_of parameter_style_doc o) ≡ true
option-style = option-always parameter_style_doc (λ w. unambiguous-word _)

pub parameter_in-always : (w : ParameterIn) → is_unambiguous (parameter_in_doc w) ≡ true
parameter_in-always w = unambiguous-word _

pub version-always : (v : OpenApiVersion) → is_unambiguous (version_doc v) ≡ true
version-always v = unambiguous-word _

-- documents that hold such fields, part by part
pub ruleset by_words_and_parts = (by_parts, option-style, parameter_in-always, version-always)
