-- The documents of numbers.
use Rattle.utoipa_base.specs.Docs.{Doc, int_doc, uint_doc}
use Rattle.utoipa_base.specs.declared.number.Number.{Number}
use Rattle.utoipa_base.specs.declared.number.Number.TheVariants.{Int, UInt}

-- a number, with its sort
abbrev pub number_doc : Number → Doc
number_doc (Int z) = int_doc z
number_doc (UInt n) = uint_doc n
