use Rattle.utoipa.specs.OpenApi.{openapi_doc}
use Rattle.utoipa.proofs.TheTheorem.{stays_well_formed}
use Rattle.utoipa_merging.proofs.NormalMerged.{merged_normal}
use Rattle.utoipa_merging.proofs.PlainMerged.{merged_plain}
use Rattle.utoipa_merging.proofs.Unique.{merged_unique}
use Rattle.utoipa.proofs.laws.what_is_merged.Goals as goal

pub returns-clause-alone : goal.returns-clause-alone
returns-clause-alone c = λ documents d is other order. merged_unique documents d (openapi_doc c.args.merged.now) other is order c.in_key_order.ensures

pub returns-clause-plain : goal.returns-clause-plain
returns-clause-plain c = λ documents is each. merged_plain documents (openapi_doc c.args.merged.now) is each c.in_key_order.ensures

pub returns-clause-well_formed : goal.returns-clause-well_formed
returns-clause-well_formed c = λ documents is each. stays_well_formed documents c.args.merged.now is c.in_key_order.ensures each

pub returns-clause-normal : goal.returns-clause-normal
returns-clause-normal c = λ documents is each. merged_normal documents (openapi_doc c.args.merged.now) is each c.in_key_order.ensures
