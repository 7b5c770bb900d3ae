-- What a vector's iterator gives.
use Rattle.std.proofs.Common.{◌≡◌, List, length, sym, ◌∙◌}
use Rattle.std.proofs.lemmas.Iterator.{items_from_drains}
use Rattle.std.proofs.lemmas.Iterator.Adapters.{YieldsList-from_vec}
use Rattle.std.proofs.lemmas.List.{map-id}
use Rattle.std.specs.Iterator.{Drains}
use Rattle.std.specs.Vec.Iter.{into_iter_items, into_iter_len, into_iter_steps}
use Rattle.std.specs.declared.vec.IntoIter.{IntoIter}

pub vector_drained : {A Z : Type 0} (it : IntoIter A Z) (items given : List A) → into_iter_items it ≡ items → into_iter_len it ≡ length items → Drains (into_iter_steps {X = A} {Z = Z}) it given → given ≡ items
vector_drained it items given are many d = sym (map-id given) ∙ items_from_drains given (d.1.0, d.1.1, λ w. (d.0, d.1.2)) (YieldsList-from_vec items are many)
