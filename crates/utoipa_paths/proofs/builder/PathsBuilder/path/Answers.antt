use Rattle.utoipa_paths.proofs.PathsViews.{paths_in_order, items_in_order}
use Rattle.utoipa_paths.proofs.builder.PathsBuilder.path.Goals as goal

pub returns-clause-ordered : goal.returns-clause-ordered
returns-clause-ordered c = λ before item.
    paths_in_order (record { paths = c.put_item.new.items; extensions = c.args.self.paths.extensions }) (c.in_ok-put_item.ensures.ordered (items_in_order c.args.self.paths before) item) before.extensions
