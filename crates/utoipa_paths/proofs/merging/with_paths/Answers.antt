use Rattle.utoipa_paths.proofs.PathsViews.{paths_in_order, items_in_order}
use Rattle.utoipa_paths.proofs.merging.with_paths.Goals as goal

pub returns-clause-ordered : goal.returns-clause-ordered
returns-clause-ordered c = λ earlier later.
    paths_in_order (record { paths = c.put_items.new.items; extensions = c.in_ok-merged_extensions.field-0 })
    (c.in_ok-put_items.ensures.ordered (items_in_order c.args.earlier earlier) (items_in_order c.args.later later)) (c.in_ok-merged_extensions.ensures.ordered earlier.extensions later.extensions)
