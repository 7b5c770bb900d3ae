-- Entries that were put into a map are taken back.
use Rattle.std.proofs.Common.{◌≡◌, List, [], ◌∷◌, ◌++◌, false, Option, Some, None, refl, ap, ◌∙◌, String, Global, Ordering, Less, Equal, Greater, string_bytes, string_cmp, nat_cmp, is_eq, cond}
use Rattle.std.proofs.lemmas.Cmp.{nat_list_cmp_total, tied_itself}
use Rattle.std.proofs.lemmas.Map.{lookup-none}
use Rattle.std.proofs.lemmas.Map.Entries.{none_below_head}
use Rattle.std.specs.Ordering.{match_ordering}
use Rattle.std.specs.Cmp.{IsTotalOrder, on_total}
use Rattle.std.specs.Cmp.Lexicographic.{slice_cmp}
use Rattle.std.specs.List.Sorted.{IsStrictlySortedBy}
use Rattle.std.specs.Map.{keys_of, lookup, set_value, remove_entry}
use Rattle.std.specs.BTreeMap.{insert_entry, is_at}
use Rattle.utoipa_base.specs.AllOrNone.{restored, put_back, undone}
use Rattle.utoipa_base.specs.Fill.{Pairs}
use Rattle.utoipa_base.specs.declared.all_or_none.Replaced.{Replaced}

-- names are ordered by their bytes
string_total : IsTotalOrder (string_cmp {Z = Global})
string_total = on_total string_bytes nat_list_cmp_total

-- a look-up that finds nothing passes the first entry and the others
found_none : {X : Type 0} (o : Ordering) (v : X) (rest : Option X) → cond (is_eq o) (Some v) rest ≡ None → (is_eq o ≡ false) × (rest ≡ None)
found_none Less v rest h = (refl, h)
found_none Equal v rest h = cc
found_none Greater v rest h = (refl, h)

-- a value that is set at no entry
pub set_value-absent : {X : Type 0} (k : String Global) (es : Pairs X) (v : X) → lookup (is_at (string_cmp k)) es ≡ None → set_value (is_at (string_cmp k)) es v ≡ es
set_value-absent k [] v h = refl
set_value-absent k (e ∷ es) v h =
    let p = found_none (string_cmp k e.0) e.1 _ h in
    rw p.0 (ap (λ rest. e ∷ rest) (set_value-absent k es v p.1))

-- an entry of another name stays in front
restored-later : {X : Type 0} (o : Option X) (name : String Global) (e : String Global × X) (es : Pairs X) → is_eq (string_cmp name e.0) ≡ false → restored o name (e ∷ es) ≡ e ∷ restored o name es
restored-later None name e es h = rw h
restored-later (Some v) name e es h = rw h

-- what the first entry decides of an insert
restored-at : {X : Type 0} (o : Ordering) (name : String Global) (e : String Global × X) (es : Pairs X) (v : X) → string_cmp name e.0 ≡ o → IsStrictlySortedBy string_cmp (keys_of (e ∷ es))
    → restored (lookup (is_at (string_cmp name)) es) name (insert_entry string_cmp es name v) ≡ es
    → restored (cond (is_eq o) (Some e.1) (lookup (is_at (string_cmp name)) es)) name (match_ordering o ((name, v) ∷ e ∷ es) ((e.0, v) ∷ es) (e ∷ insert_entry string_cmp es name v)) ≡ e ∷ es
restored-at Less name e es v is sorted later =
    let absent : lookup (is_at (string_cmp name)) es ≡ None = lookup-none _ es (none_below_head string_total name e es sorted is).1 in
    rw (absent, tied_itself nat_list_cmp_total (string_bytes name)) refl
restored-at Equal name e es v is sorted later = rw is refl
restored-at Greater name e es v is sorted later = restored-later (lookup (is_at (string_cmp name)) es) name e _ (ap is_eq is) ∙ ap (λ rest. e ∷ rest) later

-- an insert, and then what its own name had before
restored-insert_entry : {X : Type 0} (es : Pairs X) (name : String Global) (v : X) → IsStrictlySortedBy string_cmp (keys_of es) → restored (lookup (is_at (string_cmp name)) es) name (insert_entry string_cmp es name v) ≡ es
unfolding IsStrictlySortedBy
restored-insert_entry [] name v sorted = rw (tied_itself nat_list_cmp_total (string_bytes name)) refl
restored-insert_entry (e ∷ es) name v sorted = restored-at (string_cmp name e.0) name e es v refl sorted (restored-insert_entry es name v sorted.1)

-- a name's bytes decide what is restored
restored-named : {X : Type 0} (o : Option X) (a b : String Global) (es : Pairs X) → string_bytes a ≡ string_bytes b → restored o a es ≡ restored o b es
restored-named None a b es h = ap (λ bs. remove_entry (λ k. is_eq (slice_cmp nat_cmp bs (string_bytes k))) es) h
restored-named (Some v) a b es h = ap (λ bs. set_value (λ k. is_eq (slice_cmp nat_cmp bs (string_bytes k))) es v) h

-- an insert, and then what the name had before
pub put_back-insert_entry : {X : Type 0} (es : Pairs X) (name noted : String Global) (v : X) (earlier : Option X) → IsStrictlySortedBy string_cmp (keys_of es) → string_bytes noted ≡ string_bytes name → earlier ≡ lookup (is_at (string_cmp name)) es
    → put_back (record { name = noted; value = earlier }) (insert_entry string_cmp es name v) ≡ es
put_back-insert_entry es name noted v earlier sorted is found =
    restored-named earlier noted name _ is ∙ ap (λ o. restored o name (insert_entry string_cmp es name v)) found ∙ restored-insert_entry es name v sorted

-- the last note is taken back first
pub undone-last : {X : Type 0} (rs : List (Replaced X)) (r : Replaced X) (es : Pairs X) → undone (rs ++ r ∷ []) es ≡ undone rs (put_back r es)
undone-last [] r es = refl
undone-last (x ∷ rs) r es = ap (put_back x) (undone-last rs r es)
