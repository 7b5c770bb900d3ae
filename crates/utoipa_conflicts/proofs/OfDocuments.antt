-- What is told of documents of a type.
use Rattle.std.proofs.Common.{◌≡◌, true, List, [], ◌∷◌, All, map, subst}
use Rattle.std.proofs.lemmas.List.Elements.{All-from_recursion, recursion_from_All}
use Rattle.std.specs.List.{AllByRecursion}
use Rattle.utoipa_base.specs.Docs.{Doc}
use Rattle.utoipa_base.specs.Kinds.{Kind, named, open_api_object}
use Rattle.utoipa_base.specs.Shape.{IsOf, value_of}
use Rattle.utoipa_base.specs.Unambiguous.{is_unambiguous}
use Rattle.utoipa_base.specs.WellFormed.{IsUnambiguous}
use Rattle.utoipa_base.proofs.UnambiguousTest.{tested}
use Rattle.utoipa_conflicts.specs.Merged.{AreMergedInto, IsAllThere, Told, TellWhatIsLost}
use Rattle.utoipa_merging.specs.Merged.{IsOpenApi, IsInKeyOrder, IsMerged}

each_of_kind : {D : Type 0} (f : D → Doc) (k : Kind) → ((x : D) → IsOf (f x) (value_of k)) → k ≡ named open_api_object → (ds : List D) → AllByRecursion IsOpenApi (map f ds)
each_of_kind f k of_kind is [] = tt
each_of_kind f k of_kind is (d ∷ ds) = (subst (λ k. IsOf (f d) (value_of k)) is (of_kind d), each_of_kind f k of_kind is ds)

-- documents of a kind of which each passes the test are unambiguous
each_tested : {D : Type 0} (f : D → Doc) (k : Kind) → ((x : D) → IsOf (f x) (value_of k)) → (ds : List D) → AllByRecursion (λ d. is_unambiguous d ≡ true) (map f ds)
    → AllByRecursion IsUnambiguous (map f ds)
each_tested f k of_kind [] h = tt
each_tested f k of_kind (d ∷ ds) h = (tested (f d) (value_of k) (of_kind d) h.0, each_tested f k of_kind ds h.1)

pub all_tested : {D : Type 0} (f : D → Doc) (k : Kind) → ((x : D) → IsOf (f x) (value_of k)) → (ds : List D) → All (λ d. is_unambiguous d ≡ true) (map f ds) → All IsUnambiguous (map f ds)
all_tested f k of_kind ds h = All-from_recursion IsUnambiguous (map f ds) (each_tested f k of_kind ds (recursion_from_All (λ d. is_unambiguous d ≡ true) (map f ds) h))

-- unambiguous documents of a type whose kind is that of a document, and the one that they are merged into
pub are_merged : {D : Type 0} (f : D → Doc) (k : Kind) → ((x : D) → IsOf (f x) (value_of k)) → k ≡ named open_api_object → (ds : List D) (d : Doc)
    → All IsUnambiguous (map f ds) → IsMerged (map f ds) d → IsInKeyOrder d → AreMergedInto (map f ds) d
are_merged f k of_kind is ds d clear merged ordered = record { each = All-from_recursion IsOpenApi (map f ds) (each_of_kind f k of_kind is ds); unambiguous = clear; merged = merged; ordered = ordered }

-- what a list without conflicts tells
pub none_told : (ds : List Doc) (d : Doc) (cs : List Told) → TellWhatIsLost ds d cs → cs ≡ [] → IsAllThere ds d
none_told ds d cs tells none = tells.nothing.0 none
