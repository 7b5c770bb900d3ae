use Rattle.std.proofs.Common.{◌≡◌, ◌∙◌, ap, sym, inl, inr}
use Rattle.utoipa_base.specs.Kinds as kinds
use Rattle.utoipa_check.specs.Views.{object_kind}
use Rattle.utoipa_tables.specs.Tables.{kind_of}
use Rattle.utoipa_check.proofs.ReferenceObjects.{object_kind_by, takes_none, taking_none}
use Rattle.utoipa_check.proofs.object.object_kind.Goals as goal

pub returns-in-ArrayItems-clause-kind : goal.returns-in-ArrayItems-clause-kind
returns-in-ArrayItems-clause-kind c =
    let schema : object_kind (kind_of c.own_kind.result) ≡ kinds.schema = elim c.in-ArrayItems.is [ inl h ↦ ap (λ k. object_kind (kind_of k)) h | inr h ↦ ap (λ k. object_kind (kind_of k)) h ] in
    sym (object_kind_by (kind_of c.args.kind) _ c.own_kind.ensures.own ∙ schema)

pub returns-in_default : goal.returns-in_default
returns-in_default c =
    let none = takes_none c.own_kind.result c.own_kind.ensures.not_reference c.in_default.not-ArrayItems c.in_default.not-AdditionalProperties in
    record { kind = sym (object_kind_by (kind_of c.args.kind) _ c.own_kind.ensures.own ∙ taking_none _ none); own = none }
