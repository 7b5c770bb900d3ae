-- The documents of the two words that are written as true or false.
use Rattle.std.specs.Prelude.{true, false}
use Rattle.utoipa_base.specs.Docs.{Doc, flag_doc}
use Rattle.utoipa_base.specs.declared.deprecated.Deprecated.{Deprecated}
use Rattle.utoipa_base.specs.declared.deprecated.Deprecated.TheVariants as deprecation
use Rattle.utoipa_base.specs.declared.required.Required.{Required}
use Rattle.utoipa_base.specs.declared.required.Required.TheVariants as requirement

-- whether something is deprecated, as a flag
abbrev pub deprecated_doc : Deprecated → Doc
deprecated_doc deprecation.True = flag_doc true
deprecated_doc deprecation.False = flag_doc false

-- whether something is required, as a flag
abbrev pub required_doc : Required → Doc
required_doc requirement.True = flag_doc true
required_doc requirement.False = flag_doc false
