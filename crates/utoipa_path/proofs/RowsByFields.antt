-- The members of some rows that were sent part by part.
use Rattle.std.proofs.Common.{List, subst}
use Rattle.serde_json.specs.Data.{Members}
use Rattle.utoipa_base.specs.Docs.{Docs}
use Rattle.utoipa_base.specs.Events.{Event}
use Rattle.utoipa_base.specs.InOrder.{fields_by, row_members}
use Rattle.utoipa_base.specs.Kinds.{Row}
use Rattle.utoipa_base.specs.SentAmong.{SentAmong}
use Rattle.utoipa_base.proofs.FieldsInOrder.{there, rows_there}

-- the rows of some fields
pub rows_by_fields : {A : Type 0} (adds : A → List Event → A → Type 0) (ds : Docs) (rs : List Row) (es left : Members) (a b : A) → SentAmong adds (there (fields_by ds rs)) es left a b → SentAmong adds (row_members ds rs) es left a b
rows_by_fields adds ds rs es left a b sends = subst (λ ms. SentAmong adds ms es left a b) (rows_there ds rs) sends
