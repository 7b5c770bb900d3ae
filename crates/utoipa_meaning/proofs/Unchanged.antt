-- Where nothing is told, each operation means the same.
use Rattle.std.proofs.Common.{◌≡◌, inl, inr, ℕ, zero, suc, ◌+◌, List, [], ◌∷◌, ◌++◌, Bool, true, false, if◌then◌else◌, Option, None, Some, refl, sym, ap, ◌∙◌, arith, eq-eqb}
use Rattle.std.proofs.lemmas.Option.{none-some, same_Some}
use Rattle.std.specs.List.{flat_map, slice_get}
use Rattle.serde_json.specs.Data.{Data}
use Rattle.utoipa_conflicts.specs.IsConflict.{IsOneOf}
use Rattle.utoipa_meaning.specs.Changes.{Difference, unless, told, security_difference, servers_difference, parameters_difference, same_security, same_servers, same_parameters, other_security, other_servers, other_parameters, security_source, servers_source, changes_between, changes_at, is_number, operation_changes, document_changes, changes_from, changed_meanings}
use Rattle.utoipa_meaning.specs.Operations.{OperationPlace, Operation, Standing, operations, first_with, standing_at}
use Rattle.utoipa_meaning.specs.Unchanged.{MeansTheSame}

no_cons : {X : Type 0} (x : X) (xs : List X) → x ∷ xs ≡ [] → ⊥
no_cons x xs e = cc

first_is_empty : {X : Type 0} (xs ys : List X) → xs ++ ys ≡ [] → xs ≡ []
first_is_empty [] ys e = refl
first_is_empty (x ∷ xs) ys e = absurd (no_cons x (xs ++ ys) e)

second_is_empty : {X : Type 0} (xs ys : List X) → xs ++ ys ≡ [] → ys ≡ []
second_is_empty [] ys e = e
second_is_empty (x ∷ xs) ys e = absurd (no_cons x (xs ++ ys) e)

none_of : {A B : Type 0} (f : A → List B) (xs : List A) (x : A) → flat_map f xs ≡ [] → IsOneOf x xs → f x ≡ []
none_of f [] x e among = absurd among
none_of f (y ∷ ys) x e (inl same) = ap f same ∙ first_is_empty (f y) (flat_map f ys) e
none_of f (y ∷ ys) x e (inr more) = none_of f ys x (second_is_empty (f y) (flat_map f ys) e) more

-- nothing is told of a document
of_document : (first : OperationPlace → Option ℕ) (n k : ℕ) (ds : List Data) (merged d : Data) → changes_from first n ds merged ≡ [] → slice_get ds k ≡ Some d → document_changes first (n + k) d merged ≡ []
of_document first n k [] merged d e at = absurd (none-some d at)
of_document first n zero (x ∷ ds) merged d e at =
    let number : n + zero ≡ n = omega arith in
    ap (λ i. document_changes first i d merged) number ∙ ap (λ y. document_changes first n y merged) (sym (same_Some x d at)) ∙ first_is_empty (document_changes first n x merged) (changes_from first (suc n) ds merged) e
of_document first n (suc k) (x ∷ ds) merged d e at =
    let number : n + suc k ≡ suc n + k = omega arith in
    ap (λ i. document_changes first i d merged) number ∙ of_document first (suc n) k ds merged d (second_is_empty (document_changes first n x merged) (changes_from first (suc n) ds merged) e) at

no_difference : (p : OperationPlace) (n : ℕ) (o : Option Difference) → told p n o ≡ [] → o ≡ None
no_difference p n None e = refl
no_difference p n (Some d) e = absurd (no_cons _ [] e)

is_same : (b : Bool) (e : Difference) → unless b e ≡ None → b ≡ true
is_same true e none = refl
is_same false e none = absurd (none-some e (sym none))

-- nothing is told of an operation
of_operation : (p : OperationPlace) (n : ℕ) (s t : Standing) → changes_between p n s t ≡ [] → MeansTheSame s t
of_operation p n s t e =
    let rest = told p n (servers_difference s t) ++ told p n (parameters_difference s t) in
    let others = second_is_empty (told p n (security_difference s t)) rest e in
    record {
      security =
          is_same (same_security s t) (other_security (security_source s) (security_source t))
          (no_difference p n (security_difference s t) (first_is_empty (told p n (security_difference s t)) rest e));
      servers =
          is_same (same_servers s t) (other_servers (servers_source s) (servers_source t))
          (no_difference p n (servers_difference s t) (first_is_empty (told p n (servers_difference s t)) (told p n (parameters_difference s t)) others));
      parameters =
          is_same (same_parameters s t) other_parameters
          (no_difference p n (parameters_difference s t) (second_is_empty (told p n (servers_difference s t)) (told p n (parameters_difference s t)) others));
    }

own_number : (i : ℕ) → is_number i (Some i) ≡ true
own_number i = eq-eqb i i refl

pub unchanged : (ds : List Data) (merged : Data) → changed_meanings ds merged ≡ [] → (i : ℕ) (d : Data) → slice_get ds i ≡ Some d → (o : Operation) → IsOneOf o (operations d) → first_with o.0 0 ds ≡ Some i → (t : Standing) → standing_at o.0 merged ≡ Some t
    → MeansTheSame (d, o.1, o.2) t
unchanged ds merged none i d at o among first t stands =
    let number : 0 + i ≡ i = omega arith in
    let of_all : document_changes (λ p. first_with p 0 ds) i d merged ≡ [] = ap (λ k. document_changes (λ p. first_with p 0 ds) k d merged) (sym number) ∙ of_document (λ p. first_with p 0 ds) 0 i ds merged d none at in
    let of_it = none_of (operation_changes (λ p. first_with p 0 ds) i d merged) (operations d) o of_all among in
    let is_its : is_number i (first_with o.0 0 ds) ≡ true = ap (is_number i) first ∙ own_number i in
    of_operation o.0 i (d, o.1, o.2) t
    (sym (ap (changes_at o.0 i (d, o.1, o.2)) stands) ∙ sym (ap (λ b. if b then changes_at o.0 i (d, o.1, o.2) (standing_at o.0 merged) else []) is_its) ∙ of_it)
