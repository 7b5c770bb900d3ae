-- What holds of what was made, where it was made beside a value that is kept, or was set to a field.
use Rattle.std.proofs.Common.{◌≡◌, Result, Ok, IfOk, OnOk, subst}

-- what holds of the result holds of the value that was made
pub made_is : {A E : Type 0} (P : A → Type 0) (r : Result A E) (v : A) → IfOk r P → r ≡ Ok v → P v
made_is P r v h is = subst (λ x. IfOk x P) is h

-- what holds where something was made holds here
pub holds_where_made : {A E : Type 0} (P : Type 0) (r : Result A E) (v : A) → OnOk r P → r ≡ Ok v → P
holds_where_made P r v h is = subst (λ x. OnOk x P) is h
