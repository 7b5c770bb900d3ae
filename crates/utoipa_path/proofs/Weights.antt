-- What an operation or a path item holds is lighter than its table.
use Rattle.std.proofs.Common.{◌<◌, ◌≤◌, arith, ap}
use Rattle.utoipa_base.specs.Views.{option_of, map_of_docs}
use Rattle.utoipa_base.proofs.Weights.{weight, docs_weight}
use Rattle.utoipa_leaf.specs.declared.path.HttpMethod.{HttpMethod}
use Rattle.utoipa_leaf.specs.declared.path.HttpMethod.TheVariants.{Get, Post, Put, Delete, Options, Head, Patch, Trace}
use Rattle.utoipa_path.specs.Docs.{operations_of, operation_layer, operation_doc, path_item_doc, callbacks_doc}
use Rattle.utoipa_path.specs.Folds.{operation_is}
use Rattle.utoipa_path.specs.Methods.{operation_at}
use Rattle.utoipa_path.specs.declared.types.Operation.{Operation, out-Operation}
use Rattle.utoipa_path.specs.declared.types.PathItem.{PathItem, out-PathItem}

callbacks_weight : (o : Operation) → weight (callbacks_doc (out-Operation o).callbacks) < weight (operation_layer path_item_doc (out-Operation o))
unfolding weight docs_weight
callbacks_weight o = omega arith

-- the callbacks of an operation
pub held_by_operation : (o : Operation) → weight (callbacks_doc (out-Operation o).callbacks) < weight (operation_doc o)
held_by_operation o = omega (arith, callbacks_weight o, ap weight (operation_is o))

-- the operations of a path item, all together
pub lighter_operations : (i : PathItem) → docs_weight (operations_of operation_doc (out-PathItem i)) < weight (path_item_doc i)
unfolding weight docs_weight
lighter_operations i = omega arith

-- each member that holds operations
pub among_operations : (i : PathItem) → (weight (option_of operation_doc (out-PathItem i).get) ≤ docs_weight (operations_of operation_doc (out-PathItem i)))
    × (weight (option_of operation_doc (out-PathItem i).put) ≤ docs_weight (operations_of operation_doc (out-PathItem i)))
    × (weight (option_of operation_doc (out-PathItem i).post) ≤ docs_weight (operations_of operation_doc (out-PathItem i)))
    × (weight (option_of operation_doc (out-PathItem i).delete) ≤ docs_weight (operations_of operation_doc (out-PathItem i)))
    × (weight (option_of operation_doc (out-PathItem i).options) ≤ docs_weight (operations_of operation_doc (out-PathItem i)))
    × (weight (option_of operation_doc (out-PathItem i).head) ≤ docs_weight (operations_of operation_doc (out-PathItem i)))
    × (weight (option_of operation_doc (out-PathItem i).patch) ≤ docs_weight (operations_of operation_doc (out-PathItem i)))
    × (weight (option_of operation_doc (out-PathItem i).trace) ≤ docs_weight (operations_of operation_doc (out-PathItem i)))
    × (weight (option_of operation_doc (out-PathItem i).query) ≤ docs_weight (operations_of operation_doc (out-PathItem i)))
    × (weight (map_of_docs operation_doc (out-PathItem i).additional_operations) ≤ docs_weight (operations_of operation_doc (out-PathItem i)))
unfolding docs_weight
among_operations i = (omega arith, omega arith, omega arith, omega arith, omega arith, omega arith, omega arith, omega arith, omega arith, omega arith)

-- the operation of a method
pub among_methods : (m : HttpMethod) (i : PathItem) → weight (option_of operation_doc (operation_at m (out-PathItem i))) ≤ docs_weight (operations_of operation_doc (out-PathItem i))
among_methods Get i = (among_operations i).0
among_methods Put i = (among_operations i).1
among_methods Post i = (among_operations i).2
among_methods Delete i = (among_operations i).3
among_methods Options i = (among_operations i).4
among_methods Head i = (among_operations i).5
among_methods Patch i = (among_operations i).6
among_methods Trace i = (among_operations i).7
