use Rattle.utoipa.specs.OpenApi.{openapi_doc, openapi_of_kind}
use Rattle.utoipa_merging.proofs.Nesting.{nested_unique}
use Rattle.utoipa_merging.proofs.NormalMerged.{nested_normal}
use Rattle.utoipa_merging.proofs.PlainMerged.{nested_plain}
use Rattle.utoipa_merging.proofs.WellFormedMerged.{nested_well_formed_iff}
use Rattle.utoipa.proofs.laws.what_is_nested.Goals as goal

pub returns-clause-alone : goal.returns-clause-alone
returns-clause-alone c = λ answers own other d is again order.
    nested_unique answers (openapi_doc own) (openapi_doc other) d (openapi_doc c.args.nested.now) (openapi_of_kind own) again is order c.in_key_order.ensures

pub returns-clause-plain : goal.returns-clause-plain
returns-clause-plain c = λ answers own other is first second.
    nested_plain answers (openapi_doc own) (openapi_doc other) (openapi_doc c.args.nested.now) (openapi_of_kind own) (openapi_of_kind other) is first second c.in_key_order.ensures

pub returns-clause-well_formed : goal.returns-clause-well_formed
returns-clause-well_formed c = λ answers own other is first second.
    nested_well_formed_iff answers (openapi_doc own) (openapi_doc other) (openapi_doc c.args.nested.now) (openapi_of_kind own) (openapi_of_kind other) is first second c.in_key_order.ensures

pub returns-clause-normal : goal.returns-clause-normal
returns-clause-normal c = λ answers own other is first second.
    nested_normal answers (openapi_doc own) (openapi_doc other) (openapi_doc c.args.nested.now) (openapi_of_kind own) (openapi_of_kind other) is first second c.in_key_order.ensures
