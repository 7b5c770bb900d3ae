use Rattle.std.proofs.Common.{sym, subst}
use Rattle.utoipa_base.specs.Extensions.{members_or_none}
use Rattle.utoipa_merging.specs.Merged.{Ascends, names_in}
use Rattle.utoipa_paths.proofs.PathsViews.{paths_in_order, items_in_order}
use Rattle.utoipa_paths.proofs.paths.Paths.merge.Goals as goal

pub returns-then-is_none-clause-ordered : goal.returns-then-is_none-clause-ordered
returns-then-is_none-clause-ordered c = λ mine other.
    paths_in_order (record { paths = c.merge_items.new.items; extensions = c.args.self.now.extensions })
    (c.merge_items.ensures.ordered (items_in_order c.args.self.now mine) (items_in_order c.args.other other)) mine.extensions

pub returns-clause-ordered : goal.returns-clause-ordered
returns-clause-ordered c = λ mine other.
    paths_in_order (record { paths = c.merge_items-2.new.items; extensions = c.in_ok-extensions.extensions })
    (c.in_ok-merge_items.ensures.ordered (items_in_order c.args.self.now mine) (items_in_order c.args.other other))
    (c.in_ok-extensions.ensures.ordered (subst (λ e. Ascends (names_in (members_or_none e))) (sym c.in_ok-standing.ensures) mine.extensions) other.extensions)
