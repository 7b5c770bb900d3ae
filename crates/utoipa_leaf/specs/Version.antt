-- The versions of the standard, and the numbers of a version text that is read piece by piece.
use Rattle.std.specs.Prelude.{ℕ, ℤ, pos, List, [], ◌∷◌, Option, None, Some, codes, refl}
use Rattle.utoipa_base.specs.Docs.{Doc, word_doc}
use Rattle.utoipa_base.specs.Kinds.{version}
use Rattle.utoipa_base.specs.Shape.{IsOf, value_of}
use Rattle.utoipa_base.specs.Version.{version_of}
use Rattle.utoipa_leaf.specs.declared.version.OpenApiVersion.{OpenApiVersion}
use Rattle.utoipa_leaf.specs.declared.version.OpenApiVersion.TheVariants.{Version31, Version32}
use Rattle.utoipa_leaf.specs.declared.version.Numbers.{Numbers}
use Rattle.utoipa_leaf.specs.declared.version.Numbers.TheVariants.{Nothing, Three, Named, Whole, Others}

-- the text of a version, as it is written
abbrev pub version_text : OpenApiVersion → List ℕ
version_text Version31 = codes "3.1.0"
version_text Version32 = codes "3.2.0"

-- a version as a document
abbrev pub version_doc : OpenApiVersion → Doc
version_doc v = word_doc (version_text v)

-- each is a document of its kind
pub version_of_kind : (v : OpenApiVersion) → IsOf (version_doc v) (value_of version)
unfolding IsOf
version_of_kind Version31 = refl
version_of_kind Version32 = refl

-- the second number of a version
abbrev pub minor_number : OpenApiVersion → ℤ
minor_number Version31 = pos 1
minor_number Version32 = pos 2

-- the version of the numbers so far and those that follow
abbrev pub version_after : Numbers → List ℤ → Option (List ℕ)
version_after Nothing zs = version_of zs
version_after Three zs = version_of (pos 3 ∷ zs)
version_after (Named v) zs = version_of (pos 3 ∷ minor_number v ∷ zs)
version_after (Whole v) [] = Some (version_text v)
version_after (Whole v) (z ∷ zs) = None
version_after Others zs = None
