-- The names of a map stand once.
use Rattle.std.proofs.Common.{◌≡◌, List, [], ◌∷◌, None, Some, refl, ap, ◌∙◌, Less}
use Rattle.std.specs.List.{AllByRecursion}
use Rattle.std.specs.List.Sorted.{IsStrictlySortedBy}
use Rattle.std.specs.Map.{keys_of}
use Rattle.std.specs.Ordering.{match_ordering}
use Rattle.std.specs.Prelude.{String, string_bytes, string_cmp}
use Rattle.std.specs.declared.alloc.Global.{Global}
use Rattle.serde_json.specs.Find.{get_member}
use Rattle.serde_json.specs.View.{view, members_view}
use Rattle.serde_json.specs.declared.value.Value.{Value}
use Rattle.utoipa_conflicts.specs.Holders.{AreApart}

abbrev Entry : Type 0
Entry = String Global × Value

-- a name that is below all others is none of them
not_among : (k : String Global) (es : List Entry) → AllByRecursion (λ l. string_cmp k l ≡ Less) (keys_of es) → get_member (string_bytes k) (members_view es) ≡ None
not_among k [] h = refl
not_among k (e ∷ es) h =
    ap (λ o. match_ordering o (get_member (string_bytes k) (members_view es)) (Some (view e.1)) (get_member (string_bytes k) (members_view es))) h.0 ∙ not_among k es h.1

pub apart_from_sorted : (es : List Entry) → IsStrictlySortedBy string_cmp (keys_of es) → AreApart (members_view es)
unfolding IsStrictlySortedBy
apart_from_sorted [] h = tt
apart_from_sorted (e ∷ es) h = (not_among e.0 es h.0, apart_from_sorted es h.1)
