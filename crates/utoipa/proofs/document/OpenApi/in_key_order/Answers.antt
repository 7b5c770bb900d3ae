use Rattle.utoipa_paths.proofs.PathsViews.{paths_in_order}
use Rattle.utoipa.proofs.document.OpenApi.in_key_order.Goals as goal

pub returns : goal.returns
returns c =
    record {
      paths = paths_in_order c.args.self.now.paths c.items_in_order.ensures c.extensions_in_order.ensures;
      components = c.components_in_order.ensures;
    }
