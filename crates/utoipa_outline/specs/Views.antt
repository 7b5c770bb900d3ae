-- What the values of the program stand for.
use Rattle.std.specs.Prelude.{ℕ, List, map}
use Rattle.std.specs.Borrow.{Bor}
use Rattle.serde_json.specs.View.{view}
use Rattle.utoipa_outline.specs.Operations as specs
use Rattle.utoipa_outline.specs.declared.operation.Operation.{Operation}

abbrev pub operation_of : Operation → specs.Operation
operation_of o = (o.method.now, o.path.now, view o.value.now)

abbrev pub all_operations : List Operation → List specs.Operation
all_operations os = map operation_of os

abbrev pub texts_of : List (Bor (List ℕ)) → List (List ℕ)
texts_of ts = map (λ t. t.now) ts
