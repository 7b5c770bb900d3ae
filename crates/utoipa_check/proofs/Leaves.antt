-- Trees that are neither arrays nor objects, and kinds without references.
use Rattle.std.proofs.Common.{◌≡◌, ℕ, List, [], Bool, true, false, cond, is_some, unwrap_or, option_map, refl, sym, ap, ◌∙◌, true≢false}
use Rattle.serde_json.specs.Data.{Num, Data, null, boolean, number, string, array, object, Items, Members}
use Rattle.serde_json.specs.Find.{as_str, as_bool, as_number, is_float}
use Rattle.utoipa_base.specs.Kinds as kinds
use Rattle.utoipa_tables.specs.declared.kinds.Kind.{Kind, Text, Flag, Any}
use Rattle.utoipa_tables.specs.Tables.{kind_of}
use Rattle.utoipa_check.specs.Misfits.{Misfits, here, expected, fraction, fractions, mismatch, expect, expect_of, null_fits, boolean_fits, number_fits, null_misfits, boolean_misfits, number_misfits, string_misfits, array_misfits, object_misfits, checker, item_checkers, checks, misfits}
use Rattle.utoipa_check.specs.Places.{of_kind, no_fraction, item_kind, item_target, array_places, inner_places, outcomes, joined, items_at, members_at}
use Rattle.utoipa_check.proofs.Joined.{item_fractions_joined, member_fractions_joined}
use Rattle.utoipa_check.specs.Views.{own_kind, is_plain_kind}

-- ---- plain kinds

pub text_fits : (d : Data) → misfits kinds.text d ≡ expect_of (is_some (as_str d)) kinds.text d
unfolding checker
text_fits null = refl
text_fits (boolean b) = refl
text_fits (number n) = refl
text_fits (string s) = refl
text_fits (array ds) = refl
text_fits (object ms) = refl

pub flag_fits : (d : Data) → misfits kinds.flag d ≡ expect_of (is_some (as_bool d)) kinds.flag d
unfolding checker
flag_fits null = refl
flag_fits (boolean b) = refl
flag_fits (number n) = refl
flag_fits (string s) = refl
flag_fits (array ds) = refl
flag_fits (object ms) = refl

any_fits : (d : Data) → misfits kinds.any d ≡ []
unfolding checker
any_fits null = refl
any_fits (boolean b) = refl
any_fits (number n) = refl
any_fits (string s) = refl
any_fits (array ds) = refl
any_fits (object ms) = refl

-- a plain kind that is neither a text nor a flag is anything
pub otherwise_fits : (k : Kind) (d : Data) → is_plain_kind (kind_of k) ≡ true → (k ≡ Text → ⊥) → (k ≡ Flag → ⊥) → misfits (kind_of k) d ≡ []
otherwise_fits Text d e g h = absurd (g refl)
otherwise_fits Flag d e g h = absurd (h refl)
otherwise_fits Any d e g h = any_fits d
otherwise_fits k d e g h = absurd (true≢false (sym e))

-- ---- kinds without references

pub null_own : (k : kinds.Kind) → null_misfits k ≡ expect (null_fits (own_kind k)) (own_kind k)
null_own (kinds.ref_or k) = null_own k
null_own k = refl

pub boolean_own : (b : Bool) (k : kinds.Kind) → boolean_misfits b k ≡ expect (boolean_fits b (own_kind k)) (own_kind k)
boolean_own b (kinds.ref_or k) = boolean_own b k
boolean_own b k = refl

pub number_own : (n : Num) (k : kinds.Kind) → number_misfits n k ≡ expect_of (number_fits n (own_kind k)) (own_kind k) (number n)
number_own n (kinds.ref_or k) = number_own n k
number_own n k = refl

pub string_own : (s : List ℕ) (k : kinds.Kind) → string_misfits s k ≡ string_misfits s (own_kind k)
string_own s (kinds.ref_or k) = string_own s k
string_own s k = refl

array_own : (cs : List (kinds.Kind → Misfits)) (k : kinds.Kind) → array_misfits cs k ≡ array_misfits cs (own_kind k)
array_own cs (kinds.ref_or k) = array_own cs k
array_own cs k = refl

item_own : (k : kinds.Kind) → item_kind k ≡ item_kind (own_kind k)
item_own (kinds.ref_or k) = item_own k
item_own k = refl

-- ---- trees by their sort

pub of_null : (k own : kinds.Kind) (d : Data) → null ≡ d → own ≡ own_kind k → misfits k d ≡ expect (null_fits own) own
unfolding checker
of_null k own d sort is = ap (λ t. misfits k t) (sym sort) ∙ null_own k ∙ ap (λ l. expect (null_fits l) l) (sym is)

pub of_boolean : (k own : kinds.Kind) (d : Data) (b : Bool) → boolean b ≡ d → own ≡ own_kind k → misfits k d ≡ expect (boolean_fits b own) own
unfolding checker
of_boolean k own d b sort is = ap (λ t. misfits k t) (sym sort) ∙ boolean_own b k ∙ ap (λ l. expect (boolean_fits b l) l) (sym is)

pub of_number : (k own : kinds.Kind) (d : Data) (n : Num) → number n ≡ d → own ≡ own_kind k → misfits k d ≡ expect_of (number_fits n own) own d
unfolding checker
of_number k own d n sort is = ap (λ t. misfits k t) (sym sort) ∙ number_own n k ∙ ap (λ l. expect_of (number_fits n l) l (number n)) (sym is) ∙ ap (λ t. expect_of (number_fits n own) own t) sort

pub of_string : (k own : kinds.Kind) (d : Data) (s : List ℕ) → string s ≡ d → own ≡ own_kind k → misfits k d ≡ string_misfits s own
unfolding checker
of_string k own d s sort is = ap (λ t. misfits k t) (sym sort) ∙ string_own s k ∙ ap (string_misfits s) (sym is)

pub of_array : (k own : kinds.Kind) (d : Data) (ds : Items) → array ds ≡ d → own ≡ own_kind k → misfits k d ≡ array_misfits (item_checkers (items_at d)) own
unfolding checker
of_array k own d ds sort is =
    ap (λ t. misfits k t) (sym sort) ∙ array_own (item_checkers ds) k ∙ ap (array_misfits (item_checkers ds)) (sym is) ∙ ap (λ t. array_misfits (item_checkers (items_at t)) own) sort

pub inside_array : (k own : kinds.Kind) (d : Data) (ds : Items) → array ds ≡ d → own ≡ own_kind k → inner_places (of_kind k) d ≡ array_places (item_target (of_kind own)) (items_at d)
inside_array k own d ds sort is =
    ap (λ t. inner_places (of_kind k) t) (sym sort) ∙ ap (λ o. array_places (option_map of_kind o) ds) (item_own k ∙ ap item_kind (sym is)) ∙ ap (λ t. array_places (item_target (of_kind own)) (items_at t)) sort

pub of_object : (k : kinds.Kind) (d : Data) (ms : Members) → object ms ≡ d → misfits k d ≡ object_misfits (members_at d) (checks (members_at d)) k
unfolding checker
of_object k d ms sort = ap (λ t. misfits k t) (sym sort) ∙ ap (λ t. object_misfits (members_at t) (checks (members_at t)) k) sort

-- ---- fractions

abbrev is_fraction : Data → Bool
is_fraction d = unwrap_or (option_map is_float (as_number d)) false

-- why a tree does not fit, by whether it is a fraction
pub mismatch_fraction : (k : kinds.Kind) (d : Data) → is_fraction d ≡ true → mismatch k d ≡ fraction
mismatch_fraction k null e = absurd (true≢false (sym e))
mismatch_fraction k (boolean b) e = absurd (true≢false (sym e))
mismatch_fraction k (number n) e = ap (λ b. cond b fraction (expected k)) e
mismatch_fraction k (string s) e = absurd (true≢false (sym e))
mismatch_fraction k (array ds) e = absurd (true≢false (sym e))
mismatch_fraction k (object ms) e = absurd (true≢false (sym e))

pub mismatch_expected : (k : kinds.Kind) (d : Data) → is_fraction d ≡ false → mismatch k d ≡ expected k
mismatch_expected k null e = refl
mismatch_expected k (boolean b) e = refl
mismatch_expected k (number n) e = ap (λ b. cond b fraction (expected k)) e
mismatch_expected k (string s) e = refl
mismatch_expected k (array ds) e = refl
mismatch_expected k (object ms) e = refl

pub fraction_here : (d : Data) → is_fraction d ≡ true → fractions d ≡ here fraction
unfolding fractions
fraction_here null e = absurd (true≢false (sym e))
fraction_here (boolean b) e = absurd (true≢false (sym e))
fraction_here (number n) e = ap (λ b. cond b (here fraction) []) e
fraction_here (string s) e = absurd (true≢false (sym e))
fraction_here (array ds) e = absurd (true≢false (sym e))
fraction_here (object ms) e = absurd (true≢false (sym e))

pub fractions_inside : (d : Data) → is_fraction d ≡ false → joined (outcomes (inner_places no_fraction d)) ≡ fractions d
unfolding fractions
fractions_inside null e = refl
fractions_inside (boolean b) e = refl
fractions_inside (number n) e = sym (ap (λ b. cond b (here fraction) []) e)
fractions_inside (string s) e = refl
fractions_inside (array ds) e = item_fractions_joined 0 ds
fractions_inside (object ms) e = member_fractions_joined ms
