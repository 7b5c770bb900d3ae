-- Why a loop that follows references comes to the parameter that is meant.
use Rattle.std.proofs.Common.{◌≡◌, ◌+◌, ◌-◌, ◌≤◌, ◌<◌, ℕ, zero, suc, List, [], ◌∷◌, length, String, Global, Option, None, Some, option_and_then, refl, ap, sym, ◌∙◌, arith}
use Rattle.serde_json.specs.Data.{Data}
use Rattle.serde_json.specs.View.{members_view}
use Rattle.serde_json.specs.declared.value.Value.{Value}
use Rattle.utoipa_meaning.specs.Meaning.{reference_in, referred, followed, found_parameter, member_count}

-- how many members an object has
pub counted : (es : List (String Global × Value)) → length es ≡ member_count (members_view es)
counted [] = refl
counted (e ∷ es) = ap suc (counted es)

-- one look of those that are left
one_look : (end passed : ℕ) → passed ≤ end → end + 1 - passed ≡ suc (end + 1 - (passed + 1))
one_look end passed h = omega arith

module _ (document : Data) (end passed : ℕ) (left : passed ≤ end) (parameter : Data) (whole : Option Data) (rest : found_parameter (end + 1 - passed) document parameter ≡ whole) where
  looked : found_parameter (suc (end + 1 - (passed + 1))) document parameter ≡ whole
  looked = ap (λ n. found_parameter n document parameter) (sym (one_look end passed left)) ∙ rest

  -- at a parameter that is no reference
  pub at_parameter : reference_in parameter ≡ None → Some parameter ≡ whole
  at_parameter none = sym (ap (followed (found_parameter (end + 1 - (passed + 1)) document) (referred document) parameter) none) ∙ looked

  -- at a reference, by what it leads to
  pub at_reference : (location : List ℕ) (next : Option Data) → reference_in parameter ≡ Some location → next ≡ referred document location → option_and_then (found_parameter (end + 1 - (passed + 1)) document) next ≡ whole
  at_reference location next is leads =
      ap (option_and_then (found_parameter (end + 1 - (passed + 1)) document)) leads ∙ sym (ap (followed (found_parameter (end + 1 - (passed + 1)) document) (referred document) parameter) is) ∙ looked

-- no look is left
pub none_left : (document : Data) (end passed : ℕ) (parameter : Data) (whole : Option Data) → end < passed → found_parameter (end + 1 - passed) document parameter ≡ whole → None ≡ whole
none_left document end passed parameter whole past rest =
    let none : end + 1 - passed ≡ zero = omega (arith, past) in
    sym (ap (λ n. found_parameter n document parameter) none) ∙ rest
