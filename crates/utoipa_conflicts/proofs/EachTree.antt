-- A fact of each tree of the program, one tree after the other.
use Rattle.std.proofs.Common.{◌≡◌, ℕ, ◌+◌, ◌<◌, ◌≤◌, List, [], ◌∷◌, ◌++◌, length, get_or, take, All, sym, ap, ◌∙◌, subst}
use Rattle.std.proofs.lemmas.List.{map-append, take_all, take_more}
use Rattle.std.proofs.lemmas.List.Elements.{All-append, All-from_recursion, recursion_from_All}
use Rattle.std.specs.List.{AllByRecursion}
use Rattle.serde_json.specs.Data.{Data}
use Rattle.serde_json.specs.View.{view}
use Rattle.serde_json.specs.declared.value.Value.{Value}
use Rattle.utoipa_check.specs.Places.{members_at}
use Rattle.utoipa_conflicts.specs.Deciders.{trees_of}
use Rattle.utoipa_conflicts.specs.Holders.{AreApart, IsApartWithin, IsNamedOnce}

pub one_more : (P : Data → Type 0) (vs : List Value) (i : ℕ) (v : Value) → i < length vs → v ≡ get_or vs i v → P (view v) → All P (trees_of (take i vs)) → All P (trees_of (take (i + 1) vs))
one_more P vs i v within is h so_far =
    let next : trees_of (take (i + 1) vs) ≡ trees_of (take i vs) ++ view v ∷ [] =
    ap trees_of (take_more vs i v within ∙ ap (λ x. take i vs ++ x ∷ []) (sym is)) ∙ map-append view (take i vs) (v ∷ [])
    in
    subst (All P) (sym next) (All-append P (trees_of (take i vs)) (view v ∷ []) so_far (All-from_recursion P (view v ∷ []) (h, tt)))

pub all_of : (P : Data → Type 0) (vs : List Value) (n : ℕ) → length vs ≤ n → All P (trees_of (take n vs)) → All P (trees_of vs)
all_of P vs n past so_far = subst (λ xs. All P (trees_of xs)) (take_all n vs past) so_far

-- ---- both facts of each tree

abbrev pub IsApartAtTop : Data → Type 0
IsApartAtTop d = AreApart (members_at d)

both : (ds : List Data) → AllByRecursion IsApartAtTop ds → AllByRecursion IsApartWithin ds → AllByRecursion IsNamedOnce ds
both [] h g = tt
both (d ∷ ds) h g = ((h.0, g.0), both ds h.1 g.1)

pub all_once : (ds : List Data) → All IsApartAtTop ds → All IsApartWithin ds → All IsNamedOnce ds
all_once ds h g = All-from_recursion IsNamedOnce ds (both ds (recursion_from_All IsApartAtTop ds h) (recursion_from_All IsApartWithin ds g))
