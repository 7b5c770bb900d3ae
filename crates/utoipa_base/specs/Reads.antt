-- What reading a tree comes to.
use Rattle.std.specs.Prelude.{◌≡◌, ℕ, ◌+◌, ◌<◌, ◌≤◌, Option, Some, Result, IfOk, IfErr}
use Rattle.utoipa_base.specs.Docs.{Doc}
use Rattle.utoipa_base.specs.Faults.{Refuses}
use Rattle.utoipa_base.specs.Values.{schema_count}
use Rattle.utoipa_base.specs.declared.fault.ReadFault.{ReadFault}

-- The result of a reader, where `o` is the document that the definitions give, and the counter stood at `old` and stands at `new`.
pub record Reads {A : Type 0} (o : Option Doc) (doc : A → Doc) (result : Result A ReadFault) (old new most : ℕ) : Type 0 where
  -- a value has that document
  pub ok : IfOk result (λ v. o ≡ Some (doc v))
  -- a fault comes where there is none, or where memory runs out
  pub err : IfErr result (Refuses o)
  pub grows : old ≤ new
  -- the counter rises by no more than the values that are read
  pub at_most : new ≤ old + most
  -- and by no less than the document's schemas, unless it stands still at the greatest u64
  pub at_least : IfOk result (λ v. new < 18446744073709551615 → old + schema_count (doc v) ≤ new)
