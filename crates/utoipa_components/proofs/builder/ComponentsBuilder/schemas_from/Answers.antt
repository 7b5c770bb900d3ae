use Rattle.std.proofs.Common.{ap, ◌∙◌, string_cmp}
use Rattle.std.proofs.lemmas.Result.{IfOk-weaker}
use Rattle.std.specs.BTreeMap.{insert_entry}
use Rattle.utoipa_compose.specs.Compositions.{place_doc}
use Rattle.utoipa_base.specs.Views.{pairs_of}
use Rattle.utoipa_components.specs.declared.components.Components.{Components}
use Rattle.utoipa_components.proofs.Drained.{vector_drained}
use Rattle.utoipa_components.proofs.builder.ComponentsBuilder.schemas_from.Goals as goal

pub returns-clause-ok : goal.returns-clause-ok
returns-clause-ok g c =
    let listed = c.in_ok-referred.referred in
    let others = c.in_ok-schemas_from_iter.ensures in
    let given = vector_drained others.2.0 listed.items others.0 others.2.1.0 (others.2.1.1 ∙ listed.ok.0) others.2.2 in
    IfOk-weaker c.schema_from.result _ _
    (λ b own. (
      others.0,
      own.0,
      own.1,
      own.2,
      ap (pairs_of place_doc) given ∙ c.in_ok-referred.ensures,
      own.3,
      own.4,
      own.5 ∙ ap (λ es. insert_entry string_cmp es own.0 own.1) (ap (λ (k : Components). k.schemas.entries) others.4 ∙ others.3),
      own.6 ∙ ap (λ (k : Components). record k { schemas = own.2 }) others.4,
    ))
    c.schema_from.ensures.ok
