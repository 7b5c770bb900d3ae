-- What is told of operations, one after the other.
use Rattle.std.proofs.Common.{◌≡◌, ℕ, suc, List, [], ◌∷◌, ◌++◌, if◌then◌else◌, Option, refl, ap, ◌∙◌}
use Rattle.std.specs.List.{flat_map}
use Rattle.serde_json.specs.Data.{Data}
use Rattle.utoipa_meaning.specs.Changes.{changes_at, is_number, operation_changes, document_changes, changes_from}
use Rattle.utoipa_meaning.specs.Operations.{OperationPlace, Operation, operations, standing_at}

-- ---- the same documents come first

each_operation : (f g : OperationPlace → Option ℕ) (n : ℕ) (own merged : Data) (os : List Operation) → ((p : OperationPlace) → f p ≡ g p) → flat_map (operation_changes f n own merged) os ≡ flat_map (operation_changes g n own merged) os
each_operation f g n own merged [] same = refl
each_operation f g n own merged (o ∷ os) same =
    ap (λ first. (if is_number n first then changes_at o.0 n (own, o.1, o.2) (standing_at o.0 merged) else []) ++ flat_map (operation_changes f n own merged) os) (same o.0)
    ∙ ap (λ cs. operation_changes g n own merged o ++ cs) (each_operation f g n own merged os same)

pub each_document : (f g : OperationPlace → Option ℕ) (n : ℕ) (ds : List Data) (merged : Data) → ((p : OperationPlace) → f p ≡ g p) → changes_from f n ds merged ≡ changes_from g n ds merged
each_document f g n [] merged same = refl
each_document f g n (d ∷ ds) merged same =
    ap (λ cs. cs ++ changes_from f (suc n) ds merged) (each_operation f g n d merged (operations d) same) ∙ ap (λ cs. document_changes g n d merged ++ cs) (each_document f g (suc n) ds merged same)
