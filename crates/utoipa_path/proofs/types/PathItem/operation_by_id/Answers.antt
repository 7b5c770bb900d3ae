use Rattle.std.proofs.lemmas.List.Folds.{find-append}
use Rattle.utoipa_path.specs.Operations.{KeyedOperation}
use Rattle.utoipa_path.proofs.types.PathItem.operation_by_id.Goals as goal

pub returns-in-Some : goal.returns-in-Some
returns-in-Some c = rw (find-append {X = KeyedOperation}, ← c.in-Some.ensures)

pub returns-in-None : goal.returns-in-None
returns-in-None c = rw (find-append {X = KeyedOperation}, ← c.in-None.ensures) c.member_by_id.ensures
