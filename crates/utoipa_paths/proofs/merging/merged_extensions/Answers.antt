use Rattle.std.proofs.Common.{sym, subst}
use Rattle.utoipa_base.specs.Extensions.{extensions_view}
use Rattle.utoipa_merging.specs.Merged.{Ascends, names_in}
use Rattle.utoipa_paths.specs.Paths.{AreExtensionsInOrder}
use Rattle.utoipa_paths.proofs.ExtensionsInOrder.{ascends_overlaid}
use Rattle.utoipa_paths.proofs.merging.merged_extensions.Goals as goal

pub returns-in_ok-merge-in-Some-Some-clause-ordered : goal.returns-in_ok-merge-in-Some-Some-clause-ordered
returns-in_ok-merge-in-Some-Some-clause-ordered c = λ earlier later.
    subst (λ ms. Ascends (names_in ms)) (sym c.in_ok-merge-in-Some-Some.ensures.ok)
    (ascends_overlaid (extensions_view c.in-Some-Some.later) (extensions_view c.in-Some-Some.earlier) (subst AreExtensionsInOrder c.in-Some-Some.is-0 earlier))
