-- What a builder is, once something fallible was done for it.
use Rattle.std.proofs.Common.{◌≡◌, ℕ, Option, Result, Ok, Err, IfOk, IfErr, OnOk, sym, subst}
use Rattle.std.specs.Result.{result_and, IsErrAnd}
use Rattle.utoipa_base.specs.Docs.{Doc}
use Rattle.utoipa_base.specs.Reads.{Reads}
use Rattle.utoipa_base.specs.declared.fault.ReadFault.{ReadFault}

-- a value is answered where that was done, and holds what holds where it was
pub built_where_done : {T E B : Type 0} (done : Result T E) (b : B) (r : Result B E) (Q : B → Type 0) → r ≡ result_and done (Ok b) → OnOk done (Q b) → IfOk r Q
built_where_done (Ok v) b r Q is h = subst (λ s. IfOk s Q) (sym is) h
built_where_done (Err e) b r Q is h = subst (λ s. IfOk s Q) (sym is) tt

-- the same where a field was set to what was made
pub built_where_set : {T U E B : Type 0} (made : Result T E) (P : T → Type 0) (field : T) (done : Result U E) (b : B) (r : Result B E) (Q : B → Type 0)
    → IfOk made P → OnOk done (made ≡ Ok field) → r ≡ result_and done (Ok b) → (P field → Q b) → IfOk r Q
built_where_set made P field (Ok v) b r Q holds is answered h = subst (λ s. IfOk s Q) (sym answered) (h (subst (λ m. IfOk m P) is holds))
built_where_set made P field (Err e) b r Q holds is answered h = subst (λ s. IfOk s Q) (sym answered) tt

-- ---- reading

-- a value is read where it was filled
pub reads_where_done : {T B : Type 0} (f : B → Doc) (o : Option Doc) (done : Result T ReadFault) (b : B) (r : Result B ReadFault) (old new most : ℕ) → r ≡ result_and done (Ok b) → Reads {A = T} o (λ _. f b) done old new most
    → Reads {A = B} o f r old new most
reads_where_done {T} {B} f o (Ok v) b r old new most is h =
    let reads : Reads {A = B} o f (Ok b) old new most = record { ok = h.ok; err = tt; grows = h.grows; at_most = h.at_most; at_least = h.at_least } in
    subst (λ q. Reads {A = B} o f q old new most) (sym is) reads
reads_where_done {T} {B} f o (Err e) b r old new most is h =
    let refused : Reads {A = B} o f (Err e) old new most = record { ok = tt; err = h.err; grows = h.grows; at_most = h.at_most; at_least = tt } in
    subst (λ q. Reads {A = B} o f q old new most) (sym is) refused

-- what holds of a fault holds of the one that `?` passes on
pub err_of : {T : Type 0} (r : Result T ReadFault) (e : ReadFault) (P : ReadFault → Type 0) → IsErrAnd r (λ x. x ≡ e) → P e → IfErr r P
err_of (Ok v) e P is h = tt
err_of (Err x) e P is h = subst P (sym is) h
