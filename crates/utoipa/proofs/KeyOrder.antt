-- The order of keys of a document that is at hand.
use Rattle.std.proofs.Common.{◌≡◌, ℕ, List, [], ◌∷◌, Bool, true, false, cond, Option, None, Some, refl, sym, subst, string_bytes}
use Rattle.std.specs.Str.{bytes_eq}
use Rattle.std.specs.List.Sorted.{IsStrictlySortedBy}
use Rattle.utoipa_base.specs.Fill.{Pairs}
use Rattle.utoipa_base.specs.declared.extensions.Extensions.{Extensions}
use Rattle.utoipa_components.specs.Filled.{AreComponentsInOrder}
use Rattle.utoipa_components.specs.declared.components.Components.{Components}
use Rattle.utoipa_components.proofs.FilledMaps.{none_in_order}
use Rattle.utoipa_merging.proofs.Lookups.{found, found-cons}
use Rattle.utoipa_path.specs.declared.types.PathItem.{PathItem}
use Rattle.utoipa_paths.specs.Items.{IsInOrderIfAny}
use Rattle.utoipa_paths.specs.Paths.{AreExtensionsInOrder}
use Rattle.utoipa_paths.proofs.ItemSteps.{AreComingInOrder}

-- an item that is found among items in order is in order
pub found_in_order : (es : Pairs PathItem) → AreComingInOrder es → (path : List ℕ) → IsInOrderIfAny (found es path)
found_in_order [] h path = tt
found_in_order (e ∷ es) h path = subst IsInOrderIfAny (sym (found-cons path e es)) (either (bytes_eq path (string_bytes e.0)) (found_in_order es h.1 path))
  where
    either : (b : Bool) → IsInOrderIfAny (found es path) → IsInOrderIfAny (cond b (Some e.1) (found es path))
    either true later = h.0
    either false later = later

-- extensions that are none
pub none_to_order : (e : Option Extensions) → ((x : Extensions) → e ≡ Some x → ⊥) → AreExtensionsInOrder e
unfolding IsStrictlySortedBy
none_to_order None other = tt
none_to_order (Some x) other = absurd (other x refl)

-- components that are none
pub no_components_to_order : (c : Option Components) → ((x : Components) → c ≡ Some x → ⊥) → AreComponentsInOrder c
no_components_to_order None other = none_in_order
no_components_to_order (Some x) other = absurd (other x refl)
