-- Why a loop that follows references from place to place comes to the value that is defined.
use Rattle.std.proofs.Common.{◌≡◌, ◌+◌, ◌-◌, ◌≤◌, ℕ, suc, Option, Some, option_and_then, ap, sym, ◌∙◌, subst, arith}
use Rattle.utoipa_components.specs.Components.{PlacesByName}
use Rattle.utoipa_components.specs.Resolve.{referred, found}
use Rattle.utoipa_base.specs.declared.refs.Ref.{Ref}
use Rattle.utoipa_base.specs.declared.refs.RefOr.{RefOr}
use Rattle.utoipa_base.specs.declared.refs.RefOr.TheVariants as places
use Rattle.utoipa_base.specs.declared.refs.component.ComponentMap.{ComponentMap}

-- one look of those that are left
one_look : (end passed : ℕ) → passed ≤ end → end + 1 - passed ≡ suc (end + 1 - (passed + 1))
one_look end passed h = omega arith

module _ {X : Type 0} (map : ComponentMap) (entries : PlacesByName X) (end passed : ℕ) (left : passed ≤ end) (place : RefOr X) (whole : Option X)
    (rest : found (end + 1 - passed) map entries place ≡ whole) where
  looked : found (suc (end + 1 - (passed + 1))) map entries place ≡ whole
  looked = ap (λ n. found n map entries place) (sym (one_look end passed left)) ∙ rest

  -- at a value
  pub at_value : (value : X) → place ≡ places.T value → Some value ≡ whole
  at_value value is = subst (λ p. found (suc (end + 1 - (passed + 1))) map entries p ≡ whole) is looked

  -- at a reference
  at_reference : (reference : Ref) → place ≡ places.Ref reference → option_and_then (found (end + 1 - (passed + 1)) map entries) (referred map entries reference) ≡ whole
  at_reference reference is = subst (λ p. found (suc (end + 1 - (passed + 1))) map entries p ≡ whole) is looked

  -- at a reference, by the place that it leads to
  pub at_entry : (reference : Ref) (next : Option (RefOr X)) → place ≡ places.Ref reference → next ≡ referred map entries reference → option_and_then (found (end + 1 - (passed + 1)) map entries) next ≡ whole
  at_entry reference next is leads = ap (option_and_then (found (end + 1 - (passed + 1)) map entries)) leads ∙ at_reference reference is
