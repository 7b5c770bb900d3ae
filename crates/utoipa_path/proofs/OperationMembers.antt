-- The members of a path item that are operations, one after the other.
use Rattle.std.proofs.Common.{◌≡◌, ◌+◌, ◌<◌, ℕ, suc, List, ◌∷◌, ◌++◌, true, false, Option, Some, None, is_some, length, drop, drop-cons, get_or, sym, ap, ◌∙◌, append_assoc, map, option_map, arith}
use Rattle.std.specs.List.{flat_map}
use Rattle.std.specs.Option.{option_or}
use Rattle.std.proofs.lemmas.List.Folds.{find-append}
use Rattle.utoipa_path.specs.Operations.{Key, KeyedOperation, key_of, keyed, has_id, first_with_id}
use Rattle.utoipa_path.specs.declared.operations.ItemOperation.{ItemOperation}
use Rattle.utoipa_path.specs.declared.operations.OperationMethod.{OperationMethod}

-- the operations of members from a place on, where the next place is this one: that of the member there, and those from the next place on
module _ (f : Key → List KeyedOperation) (ms : List OperationMethod) (at : ℕ) (d : OperationMethod) (less : at < length ms) where
  first_member : flat_map f (map key_of (drop at ms)) ≡ f (key_of (get_or ms at d)) ++ flat_map f (map key_of (drop (at + 1) ms))
  first_member =
      let next : suc at ≡ at + 1 = omega arith in
      let cut : drop at ms ≡ get_or ms at d ∷ drop (at + 1) ms = drop-cons ms at d less ∙ ap (λ n. get_or ms at d ∷ drop n ms) next in
      ap (λ rest. flat_map f (map key_of rest)) cut

  -- those up to the place were listed, and that of the member there is listed
  pub member_listed : (old new all : List KeyedOperation) → old ++ flat_map f (map key_of (drop at ms)) ≡ all → new ≡ old ++ f (key_of (get_or ms at d))
      → new ++ flat_map f (map key_of (drop (at + 1) ms)) ≡ all
  member_listed old new all before put =
      let rest = flat_map f (map key_of (drop (at + 1) ms)) in
      ap (λ s. s ++ rest) put ∙ append_assoc old (f (key_of (get_or ms at d))) rest ∙ sym (ap (λ s. old ++ s) first_member) ∙ before

  -- the first operation with the id is that of the member there, or one from the next place on
  searched : (id : List ℕ) (all : Option KeyedOperation) → first_with_id id (flat_map f (map key_of (drop at ms))) ≡ all
      → all ≡ option_or (first_with_id id (f (key_of (get_or ms at d)))) (first_with_id id (flat_map f (map key_of (drop (at + 1) ms))))
  searched id all before =
      sym before ∙ ap (first_with_id id) first_member
      ∙ find-append (λ o. has_id id o.1) (f (key_of (get_or ms at d))) (flat_map f (map key_of (drop (at + 1) ms)))

  -- it is that of the member there
  pub member_found : (id : List ℕ) (all : Option KeyedOperation) (r : Option ItemOperation) → first_with_id id (flat_map f (map key_of (drop at ms))) ≡ all
      → option_map keyed r ≡ first_with_id id (f (key_of (get_or ms at d))) → is_some r ≡ true → option_map keyed r ≡ all
  member_found id all (Some o) before found there =
      ap (λ x. option_or x (first_with_id id (flat_map f (map key_of (drop (at + 1) ms))))) found ∙ sym (searched id all before)
  member_found id all None before found there = absurd (cc)

  -- that of the member there has another id
  pub member_passed : (id : List ℕ) (all : Option KeyedOperation) (r : Option ItemOperation) → first_with_id id (flat_map f (map key_of (drop at ms))) ≡ all
      → option_map keyed r ≡ first_with_id id (f (key_of (get_or ms at d))) → is_some r ≡ false → first_with_id id (flat_map f (map key_of (drop (at + 1) ms))) ≡ all
  member_passed id all None before found there =
      ap (λ x. option_or x (first_with_id id (flat_map f (map key_of (drop (at + 1) ms))))) found ∙ sym (searched id all before)
  member_passed id all (Some o) before found there = absurd (cc)
