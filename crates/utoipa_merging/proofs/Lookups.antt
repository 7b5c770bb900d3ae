-- What is found among a map's entries by the bytes of a name.
use Rattle.std.proofs.Common.{◌≡◌, ℕ, List, ◌∷◌, true, cond, Option, Some, None, ap, String, Global, string_bytes, string_cmp, nat_cmp}
use Rattle.std.specs.Str.{bytes_eq}
use Rattle.std.specs.Ordering.{is_eq}
use Rattle.std.specs.Cmp.Lexicographic.{slice_cmp}
use Rattle.std.specs.List.Sorted.{IsStrictlySortedBy}
use Rattle.std.specs.Map.{keys_of, lookup}
use Rattle.std.specs.BTreeMap.{is_at}
use Rattle.std.specs.String.{string_cmp_total}
use Rattle.std.proofs.lemmas.Cmp.{tied_itself, eq_by_cmp_equiv}
use Rattle.std.proofs.lemmas.Map.{lookup-none}
use Rattle.std.proofs.lemmas.Map.Entries.{none_past_head}
use Rattle.std.proofs.lemmas.Map.Keys.{IsDistinct-from_sorted, sorted_tail}
use Rattle.std.proofs.lemmas.Map.Text.{is_eq-slice_cmp}
use Rattle.std.proofs.lemmas.Slice.Eq.{bytes_eq-Decides}
use Rattle.utoipa_base.specs.Fill.{Pairs}

-- what a map with these entries has under a name: `get_by_text` of it
abbrev pub found : {X : Type 0} → Pairs X → List ℕ → Option X
found es q = lookup (is_at (λ k. slice_cmp nat_cmp q (string_bytes k))) es

-- the first entry, or what is found behind it
pub found-cons : {X : Type 0} (q : List ℕ) (e : String Global × X) (es : Pairs X) → found (e ∷ es) q ≡ cond (bytes_eq q (string_bytes e.0)) (Some e.1) (found es q)
found-cons q e es = ap (λ b. cond b (Some e.1) (found es q)) (is_eq-slice_cmp q (string_bytes e.0))

pub same_text : (q r : List ℕ) → bytes_eq q r ≡ true → q ≡ r
same_text q r h = (bytes_eq-Decides q r).0 h

-- no later entry has the first's name
pub found_past : {X : Type 0} (e : String Global × X) (later : Pairs X) → IsStrictlySortedBy string_cmp (keys_of (e ∷ later)) → found later (string_bytes e.0) ≡ None
found_past e later sorted = lookup-none _ later (none_past_head (eq_by_cmp_equiv string_cmp_total) e.0 e later (IsDistinct-from_sorted string_cmp _ sorted) (ap is_eq (tied_itself string_cmp_total e.0)))

pub sorted_rest : {X : Type 0} (e : String Global × X) (rest later : Pairs X) → rest ≡ e ∷ later → IsStrictlySortedBy string_cmp (keys_of rest) → IsStrictlySortedBy string_cmp (keys_of later)
sorted_rest e rest later is sorted = sorted_tail string_cmp e.0 (keys_of later) (rw is at sorted)
