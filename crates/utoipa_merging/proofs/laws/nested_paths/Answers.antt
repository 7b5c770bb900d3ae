use Rattle.utoipa_merging.proofs.Nesting.{nested_items, nested_extensions, nested_extension_values}
use Rattle.utoipa_merging.proofs.laws.nested_paths.Goals as goal

pub returns-clause-items : goal.returns-clause-items
returns-clause-items c = nested_items

pub returns-clause-extensions : goal.returns-clause-extensions
returns-clause-extensions c = λ answers own nested d h g n. (nested_extensions answers own nested d h g n, nested_extension_values answers own nested d h g n)
