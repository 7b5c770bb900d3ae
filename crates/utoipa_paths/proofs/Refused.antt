-- What is left after a refusal.
use Rattle.std.proofs.Common.{Result, Ok, Err, OnErr}

-- a refusal keeps what holds in any case
pub on_err_if : {T E P : Type 0} (r : Result T E) → P → OnErr r P
on_err_if (Ok v) p = tt
on_err_if (Err e) p = p
