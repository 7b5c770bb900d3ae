-- What well-formed documents are merged into is well-formed, and so is what a well-formed document is with one nested into it, exactly where
-- no answer reads as an extension's name.
use Rattle.std.proofs.Common.{◌≡◌, ◌↔◌, ℕ, List, false, All}
use Rattle.std.proofs.lemmas.List.Elements.{All-weaker, All-from_recursion, recursion_from_All}
use Rattle.utoipa_base.specs.Docs.{Doc}
use Rattle.utoipa_base.specs.Extensions.{is_extension}
use Rattle.utoipa_base.specs.WellFormed.{IsPlain, IsUnambiguous, IsWellFormed}
use Rattle.utoipa_merging.specs.Merged.{IsOpenApi, IsMerged, IsInKeyOrder}
use Rattle.utoipa_merging.specs.Nested.{IsNested}
use Rattle.utoipa_merging.proofs.PlainMerged.{merged_plain, nested_plain}
use Rattle.utoipa_merging.proofs.UnambiguousMerged.{merged_unambiguous, nested_unambiguous, answers_apart}

pub merged_well_formed : (documents : List Doc) (d : Doc) → IsMerged documents d → All IsOpenApi documents → All IsWellFormed documents → IsInKeyOrder d → IsWellFormed d
merged_well_formed documents d m k h s =
    (merged_plain documents d m (All-weaker IsWellFormed IsPlain (λ x w. w.0) documents h) s, merged_unambiguous documents d m k (All-weaker IsWellFormed IsUnambiguous (λ x w. w.1) documents h) s)

-- the names of answers
abbrev pub AreNoExtensions : List (List ℕ) → Type 0
AreNoExtensions names = All (λ name. is_extension name ≡ false) names

pub nested_unambiguous_iff : (answers : List (List ℕ)) (own nested d : Doc) → IsOpenApi own → IsOpenApi nested → IsNested answers own nested d → IsUnambiguous own → IsUnambiguous nested → IsInKeyOrder d
    → IsUnambiguous d ↔ AreNoExtensions answers
nested_unambiguous_iff answers own nested d h g n u v s = (
  λ w. All-from_recursion (λ name. is_extension name ≡ false) answers (answers_apart answers own nested d h g n w),
  λ a. nested_unambiguous answers own nested d h g n u v (recursion_from_All (λ name. is_extension name ≡ false) answers a) s,
)

pub nested_well_formed_iff : (answers : List (List ℕ)) (own nested d : Doc) → IsOpenApi own → IsOpenApi nested → IsNested answers own nested d → IsWellFormed own → IsWellFormed nested → IsInKeyOrder d
    → IsWellFormed d ↔ AreNoExtensions answers
nested_well_formed_iff answers own nested d h g n u v s =
    let iff = nested_unambiguous_iff answers own nested d h g n u.1 v.1 s in
    (λ w. iff.0 w.1, λ a. (nested_plain answers own nested d h g n u.0 v.0 s, iff.1 a))
