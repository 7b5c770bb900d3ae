use Rattle.std.proofs.Common.{Some, refl, sym, subst}
use Rattle.utoipa_path.specs.Lists.{AreReferencesIfAny}
use Rattle.utoipa_path.proofs.lists.references_if_any.Goals as goal

pub returns-in_ok-list_of_references-in-Some : goal.returns-in_ok-list_of_references-in-Some
returns-in_ok-list_of_references-in-Some g c =
    let listed = c.in_ok-list_of_references-in-Some.ensures in
    subst (λ o. AreReferencesIfAny {X = g.row.T.Denot} g.I.IntoIterator.into_iter_gives g.I.IntoIter.Iterator.next_gives o (Some c.in_ok-list_of_references-in-Some.field-0)) (sym c.in-Some.is) (_, listed.0, listed.1, refl, listed.2)
