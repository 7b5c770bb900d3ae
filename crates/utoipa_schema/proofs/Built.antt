-- What a builder is, once something fallible was done for it.
use Rattle.std.proofs.Common.{◌≡◌, Result, Ok, Err, IfOk, OnOk, sym, subst}
use Rattle.std.specs.Result.{result_and}

-- a value is answered where that was done, and holds what holds where it was
pub built_where_done : {T E B : Type 0} (done : Result T E) (b : B) (r : Result B E) (Q : B → Type 0) → r ≡ result_and done (Ok b) → OnOk done (Q b) → IfOk r Q
built_where_done (Ok v) b r Q is h = subst (λ s. IfOk s Q) (sym is) h
built_where_done (Err e) b r Q is h = subst (λ s. IfOk s Q) (sym is) tt

-- the same where a field was set to what was made
pub built_where_set : {T U E B : Type 0} (made : Result T E) (P : T → Type 0) (field : T) (done : Result U E) (b : B) (r : Result B E) (Q : B → Type 0)
    → IfOk made P → OnOk done (made ≡ Ok field) → r ≡ result_and done (Ok b) → (P field → Q b) → IfOk r Q
built_where_set made P field (Ok v) b r Q holds is answered h = subst (λ s. IfOk s Q) (sym answered) (h (subst (λ m. IfOk m P) is holds))
built_where_set made P field (Err e) b r Q holds is answered h = subst (λ s. IfOk s Q) (sym answered) tt
