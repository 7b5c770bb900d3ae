-- A hasher that names are written into, one after another.
use Rattle.std.proofs.Common.{◌≡◌, ℕ, List, [], ◌∷◌, refl, sym, ap, ◌∙◌, String, Global, string_bytes, fold}
use Rattle.std.specs.Hash as fed
use Rattle.std.specs.Hash.{fed_then}
use Rattle.std.specs.Hash.DefaultHasher as sip
use Rattle.std.specs.declared.hash.DefaultHasher.{DefaultHasher}
use Rattle.utoipa_base.specs.NameHashes.{names_written, salt_of_names}

-- what the hasher is once the names are written that are left
abbrev pub once_written : DefaultHasher → List (String Global) → DefaultHasher
once_written state left = fold sip.write state (names_written left)

-- one name more
pub written_step : (old new : DefaultHasher) (left more : List (String Global)) (name : String Global) → left ≡ name ∷ more → new ≡ fold sip.write old (fed.str (string_bytes name)) → once_written new more ≡ once_written old left
written_step old new left more name rest written =
    fed_then sip.write old new (once_written new more) (fed.str (string_bytes name)) (names_written more) written refl ∙ ap (once_written old) (sym rest)

-- after the last name
pub salt_written : (state first : DefaultHasher) (left all names : List (String Global)) (salt : ℕ) → once_written state left ≡ once_written first all → left ≡ [] → first ≡ sip.initial → all ≡ names → salt ≡ sip.finish state → salt ≡ salt_of_names names
salt_written state first left all names salt so_far none new is finished =
    finished ∙ ap sip.finish (sym (ap (once_written state) none) ∙ so_far ∙ ap (λ s. once_written s all) new ∙ ap (once_written sip.initial) is)
