-- The numbers of a version text that is read piece by piece.
use Rattle.std.specs.Prelude.{ℤ, pos, List, [], ◌∷◌, Bool, true, false, is_some}
use Rattle.utoipa_base.specs.Version.{version_of}
use Rattle.utoipa_check.specs.declared.version.Numbers.{Numbers}
use Rattle.utoipa_check.specs.declared.version.Numbers.TheVariants.{Nothing, Three, ThreeOne, ThreeTwo, Whole, Others}

-- whether the numbers so far and those that follow name a version
abbrev pub names_version_after : Numbers → List ℤ → Bool
names_version_after Nothing zs = is_some (version_of zs)
names_version_after Three zs = is_some (version_of (pos 3 ∷ zs))
names_version_after ThreeOne zs = is_some (version_of (pos 3 ∷ pos 1 ∷ zs))
names_version_after ThreeTwo zs = is_some (version_of (pos 3 ∷ pos 2 ∷ zs))
names_version_after Whole [] = true
names_version_after Whole (z ∷ zs) = false
names_version_after Others zs = false
