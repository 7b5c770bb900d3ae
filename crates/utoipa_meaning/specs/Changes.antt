-- What merging changes of what operations mean. An operation keeps its own members where it is put into a merged document, but there it has what
-- it does not say itself from another path item and from another document.
use Rattle.std.specs.Prelude.{ℕ, suc, List, [], ◌∷◌, ◌++◌, ◌==◌, Bool, true, false, ◌&&◌, if◌then◌else◌, Option, None, Some, is_some, codes}
use Rattle.std.specs.List.{flat_map}
use Rattle.serde_json.specs.Data.{Data}
use Rattle.serde_json.specs.Find.{get}
use Rattle.utoipa_check.specs.Misfits.{Step}
use Rattle.utoipa_conflicts.specs.Same.{is_same}
use Rattle.utoipa_meaning.specs.Meaning.{is_empty_list, effective_security, effective_servers, effective_parameters}
use Rattle.utoipa_meaning.specs.Operations.{OperationPlace, steps_to, Standing, standing_at, Operation, operations, first_with}

-- ---- where an operation has something from

pub data Source : Type 0 where
  -- it says so itself
  of_operation : Source
  -- its path item says so
  of_path_item : Source
  -- its document says so
  of_document : Source
  -- none of them says anything
  by_default : Source

abbrev pub has_member : (name : List ℕ) → Data → Bool
has_member name d = is_some (get name d)

abbrev pub security_source : Standing → Source
security_source s =
    if has_member (codes "security") s.2 then of_operation else (if has_member (codes "security") s.0 then of_document else by_default)

-- an empty list of servers of a document says nothing (section 4.8.1)
abbrev pub document_source : Option Data → Source
document_source None = by_default
document_source (Some d) = if is_empty_list d then by_default else of_document

abbrev pub servers_source : Standing → Source
servers_source s =
    if has_member (codes "servers") s.2 then of_operation
    else (if has_member (codes "servers") s.1 then of_path_item else document_source (get (codes "servers") s.0))

-- ---- what differs of an operation

pub data Difference : Type 0 where
  -- the security in effect, which comes from there in its own document, and from there in the merged one
  other_security : (own merged : Source) → Difference
  -- the servers
  other_servers : (own merged : Source) → Difference
  -- the parameters
  other_parameters : Difference

abbrev pub same_security : Standing → Standing → Bool
same_security s t = is_same (effective_security s.0 s.2) (effective_security t.0 t.2)

abbrev pub same_servers : Standing → Standing → Bool
same_servers s t = is_same (effective_servers s.0 s.1 s.2) (effective_servers t.0 t.1 t.2)

-- trees that are the same, one after the other
abbrev pub same_trees : List Data → List Data → Bool
same_trees [] [] = true
same_trees [] (e ∷ es) = false
same_trees (d ∷ ds) [] = false
same_trees (d ∷ ds) (e ∷ es) = is_same d e && same_trees ds es

abbrev pub same_parameters : Standing → Standing → Bool
same_parameters s t = same_trees (effective_parameters s.0 s.1 s.2) (effective_parameters t.0 t.1 t.2)

abbrev pub unless : Bool → Difference → Option Difference
unless b e = if b then None else Some e

abbrev pub security_difference : Standing → Standing → Option Difference
security_difference s t = unless (same_security s t) (other_security (security_source s) (security_source t))

abbrev pub servers_difference : Standing → Standing → Option Difference
servers_difference s t = unless (same_servers s t) (other_servers (servers_source s) (servers_source t))

abbrev pub parameters_difference : Standing → Standing → Option Difference
parameters_difference s t = unless (same_parameters s t) other_parameters

-- ---- changes

-- an operation, by the steps to it; the number of its document; and what differs
abbrev pub Change : Type 0
Change = List Step × ℕ × Difference

abbrev pub told : OperationPlace → ℕ → Option Difference → List Change
told p n None = []
told p n (Some e) = (steps_to p, n, e) ∷ []

-- what differs where an operation stands in its own document and in the merged one
abbrev pub changes_between : OperationPlace → ℕ → Standing → Standing → List Change
changes_between p n s t =
    told p n (security_difference s t) ++ (told p n (servers_difference s t) ++ told p n (parameters_difference s t))

-- an operation that does not stand in the merged document is not compared
abbrev pub changes_at : OperationPlace → ℕ → Standing → Option Standing → List Change
changes_at p n s None = []
changes_at p n s (Some t) = changes_between p n s t

abbrev pub is_number : ℕ → Option ℕ → Bool
is_number n None = false
is_number n (Some m) = m == n

-- of an operation of document n; that of an earlier document at the same place is told in its stead
abbrev pub operation_changes : (first : OperationPlace → Option ℕ) → ℕ → (own merged : Data) → Operation → List Change
operation_changes first n own merged o =
    if is_number n (first o.0) then changes_at o.0 n (own, o.1, o.2) (standing_at o.0 merged) else []

-- of document n
abbrev pub document_changes : (first : OperationPlace → Option ℕ) → ℕ → (own merged : Data) → List Change
document_changes first n own merged = flat_map (operation_changes first n own merged) (operations own)

-- of documents, numbered from n on
abbrev pub changes_from : (first : OperationPlace → Option ℕ) → ℕ → List Data → (merged : Data) → List Change
changes_from first n [] merged = []
changes_from first n (d ∷ ds) merged = document_changes first n d merged ++ changes_from first (suc n) ds merged

-- What is changed of the operations of some documents by merging them: document by document, and in each in the order of its paths and of the
-- members of their items. The merged document is any tree.
abbrev pub changed_meanings : List Data → (merged : Data) → List Change
changed_meanings ds merged = changes_from (λ p. first_with p 0 ds) 0 ds merged
