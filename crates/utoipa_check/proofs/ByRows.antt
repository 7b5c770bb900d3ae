-- What does not fit by the rows of the program is what does not fit by those of the definitions.
use Rattle.std.proofs.Common.{◌≡◌, ℕ, ◌+◌, ◌<◌, List, [], ◌∷◌, ◌++◌, Bool, true, false, cond, not, ◌||◌, ◌⊎◌, inl, inr, true≢false, ◌-◌, ◌≤◌, arith, is_some, length, take, drop, drop-cons, add-one, get_or, Option, Some, None, option_map, refl, sym, ap, ◌∙◌, append_assoc, nat_cmp, Ordering, Less, Equal, Greater}
use Rattle.std.proofs.lemmas.List.{take_more}
use Rattle.std.specs.Ordering.{match_ordering}
use Rattle.std.specs.Cmp.Lexicographic.{slice_cmp}
use Rattle.serde_json.specs.Data.{Data, null, boolean, number, string, array, object, Members, no_members, member}
use Rattle.serde_json.specs.Find.{get, get_member, as_null}
use Rattle.utoipa_base.specs.Kinds as kinds
use Rattle.utoipa_base.specs.Reading.{is_null}
use Rattle.utoipa_tables.specs.declared.kinds.Mark.{Mark}
use Rattle.utoipa_tables.specs.declared.kinds.Mark.TheVariants as marks
use Rattle.utoipa_tables.specs.declared.kinds.Row.{Row}
use Rattle.utoipa_tables.specs.Tables.{kind_of, and_row, rows_of, members_of}
use Rattle.utoipa_check.specs.Misfits.{Step, Misfits, under, is_fit, at_name, here, absent, Check, Checks, check_at, row_misfits, rows_misfits, checker, checks, misfits}
use Rattle.utoipa_check.specs.Places.{members_at, Outcome, outcomes, Place, field_places, fields_places}
use Rattle.utoipa_check.specs.Places.{found as places_found}
use Rattle.utoipa_check.specs.Rows.{misfits_by_row, row_misfits_at}
use Rattle.utoipa_check.specs.Views.{has_to_fit, is_required, misfits_of, outcome_of, stacked}
use Rattle.utoipa_check.specs.declared.misfit.Misfit.{Misfit}
use Rattle.utoipa_check.specs.declared.misfit.Outcome as program
use Rattle.utoipa_check.proofs.Steps.{stacked_last}

-- ---- rows

unless_null : (b : Bool) (xs : Misfits) → cond b [] xs ≡ cond (has_to_fit marks.Optional b) xs []
unless_null true xs = refl
unless_null false xs = refl

unless_null_either : (b : Bool) (xs : Misfits) → cond b [] xs ≡ cond (has_to_fit marks.OrNull b) xs []
unless_null_either true xs = refl
unless_null_either false xs = refl

by_required : (name : List ℕ) (k : kinds.Kind) (o : Option Check) → row_misfits kinds.required name k o ≡ misfits_by_row marks.Required name k o
by_required name k None = refl
by_required name k (Some c) = refl

by_optional : (name : List ℕ) (k : kinds.Kind) (o : Option Check) → row_misfits kinds.optional name k o ≡ misfits_by_row marks.Optional name k o
by_optional name k None = refl
by_optional name k (Some c) = unless_null c.0 (under (at_name name) (c.1 k))

by_or_null : (name : List ℕ) (k : kinds.Kind) (o : Option Check) → row_misfits kinds.or_null name k o ≡ misfits_by_row marks.OrNull name k o
by_or_null name k None = refl
by_or_null name k (Some c) = unless_null_either c.0 (under (at_name name) (c.1 k))

by_defaulted : (name : List ℕ) (k : kinds.Kind) (o : Option Check) → row_misfits kinds.defaulted name k o ≡ misfits_by_row marks.Defaulted name k o
by_defaulted name k None = refl
by_defaulted name k (Some c) = refl

by_not_kept : (name : List ℕ) (k : kinds.Kind) (o : Option Check) → [] ≡ misfits_by_row marks.NotKept name k o
by_not_kept name k None = refl
by_not_kept name k (Some c) = refl

first_row : (m : Mark) (name : List ℕ) (k : kinds.Kind) (rs : List kinds.Row) (cs : Checks) → rows_misfits (and_row m name k rs) cs ≡ misfits_by_row m name k (check_at name cs) ++ rows_misfits rs cs
first_row marks.Required name k rs cs = ap (λ xs. xs ++ rows_misfits rs cs) (by_required name k (check_at name cs))
first_row marks.Optional name k rs cs = ap (λ xs. xs ++ rows_misfits rs cs) (by_optional name k (check_at name cs))
first_row marks.OrNull name k rs cs = ap (λ xs. xs ++ rows_misfits rs cs) (by_or_null name k (check_at name cs))
first_row marks.Defaulted name k rs cs = ap (λ xs. xs ++ rows_misfits rs cs) (by_defaulted name k (check_at name cs))
first_row marks.NotKept name k rs cs = ap (λ xs. xs ++ rows_misfits rs cs) (by_not_kept name k (check_at name cs))

-- ---- members

abbrev pub check_of : Data → Check
check_of d = (is_null d, checker d)

order_map : (o : Ordering) (u w : Option Data) (d : Data) (x z : Option Check) → x ≡ option_map check_of u → z ≡ option_map check_of w → match_ordering o x (Some (check_of d)) z ≡ option_map check_of (match_ordering o u (Some d) w)
order_map Less u w d x z e f = e
order_map Equal u w d x z e f = refl
order_map Greater u w d x z e f = f

pub check_found : (name : List ℕ) (ms : Members) → check_at name (checks ms) ≡ option_map check_of (get_member name ms)
unfolding checks
check_found name no_members = refl
check_found name (member k d ms) = order_map (slice_cmp nat_cmp name k) (get_member name ms) (get_member name ms) d (check_at name (checks ms)) (check_at name (checks ms)) (check_found name ms) (check_found name ms)

pub get_at : (name : List ℕ) (d : Data) → get_member name (members_at d) ≡ get name d
get_at name null = refl
get_at name (boolean b) = refl
get_at name (number n) = refl
get_at name (string s) = refl
get_at name (array ds) = refl
get_at name (object ms) = refl

pub found_at_name : (name : List ℕ) (d : Data) → check_at name (checks (members_at d)) ≡ option_map check_of (get name d)
found_at_name name d = check_found name (members_at d) ∙ ap (option_map check_of) (get_at name d)

-- a row whose member is absent
pub row_absent : (r : Row) (d : Data) → get r.name.now d ≡ None → row_misfits_at r d ≡ cond (is_required r.mark) (here (absent r.name.now)) []
row_absent r d gone = ap (misfits_by_row r.mark r.name.now (kind_of r.kind)) (found_at_name r.name.now d ∙ ap (option_map check_of) gone)

-- a row whose member is there
pub row_there : (r : Row) (d e : Data) → get r.name.now d ≡ Some e → row_misfits_at r d ≡ cond (has_to_fit r.mark (is_null e)) (under (at_name r.name.now) (misfits (kind_of r.kind) e)) []
row_there r d e there = ap (misfits_by_row r.mark r.name.now (kind_of r.kind)) (found_at_name r.name.now d ∙ ap (option_map check_of) there)

-- ---- a loop over rows

-- the row at an index, and those after it
pub row_at : (rs : List Row) (i : ℕ) (r : Row) → i < length rs → drop i rs ≡ get_or rs i r ∷ drop (i + 1) rs
row_at rs i r within = rw add-one (drop-cons rs i r within)

pub rows_step : (rs : List Row) (i : ℕ) (r : Row) (d : Data) (found new : List Misfit) (all : Misfits) → misfits_of found ++ rows_misfits (rows_of (drop i rs)) (checks (members_at d)) ≡ all → i < length rs
    → misfits_of new ≡ misfits_of found ++ row_misfits_at (get_or rs i r) d → misfits_of new ++ rows_misfits (rows_of (drop (i + 1) rs)) (checks (members_at d)) ≡ all
rows_step rs i r d found new all so_far within put =
    let cs = checks (members_at d) in
    let this = get_or rs i r in
    let rest = rows_misfits (rows_of (drop (i + 1) rs)) cs in
    ap (λ xs. xs ++ rest) put ∙ append_assoc (misfits_of found) (row_misfits_at this d) rest
    ∙ ap (λ xs. misfits_of found ++ xs) (sym (first_row this.mark this.name.now (kind_of this.kind) (rows_of (drop (i + 1) rs)) cs))
    ∙ ap (λ xs. misfits_of found ++ rows_misfits (rows_of xs) cs) (sym (row_at rs i r within)) ∙ so_far

outcomes_join : (ps qs : List Place) → outcomes (ps ++ qs) ≡ outcomes ps ++ outcomes qs
outcomes_join [] qs = refl
outcomes_join (p ∷ ps) qs = ap (λ os. (p.step, places_found p.target p.tree) ∷ os) (outcomes_join ps qs)

-- ---- one row

pub null_test : (d : Data) → is_some (as_null d) ≡ is_null d
null_test null = refl
null_test (boolean b) = refl
null_test (number n) = refl
null_test (string s) = refl
null_test (array ds) = refl
null_test (object ms) = refl

-- what the member of a row reads as, before the others
abbrev pub RowFirst : Row → Data → List Outcome → List Outcome → Type 0
RowFirst r d os rest = os ≡ outcomes (field_places r.name.now (kind_of r.kind) (get r.name.now d)) ++ rest

-- what was found by the rows from an index on is what was found in the member of this row, and what was found in those of the later ones
pub rows_from : (rs : List Row) (i : ℕ) (r : Row) (d : Data) (os : List Outcome) → i < length rs → os ≡ outcomes (fields_places (members_of (drop i rs)) d) → RowFirst (get_or rs i r) d os (outcomes (fields_places (members_of (drop (i + 1) rs)) d))
rows_from rs i r d os within is =
    let this = get_or rs i r in
    is ∙ ap (λ xs. outcomes (fields_places (members_of xs) d)) (row_at rs i r within) ∙ outcomes_join (field_places this.name.now (kind_of this.kind) (get this.name.now d)) (fields_places (members_of (drop (i + 1) rs)) d)

-- where the member is absent, nothing was found in it
pub none_taken : (r : Row) (d : Data) (os rest : List Outcome) → None ≡ get r.name.now d → RowFirst r d os rest → os ≡ rest
none_taken r d os rest gone is = is ∙ ap (λ o. outcomes (field_places r.name.now (kind_of r.kind) o) ++ rest) (sym gone)

abbrev first_or : Outcome → List Outcome → Outcome
first_or x [] = x
first_or x (y ∷ ys) = y

abbrev later : List Outcome → List Outcome
later [] = []
later (y ∷ ys) = ys

-- where it is there, what was found in it is the first outcome
pub one_taken : (r : Row) (d e : Data) (os more rest : List Outcome) (x : Outcome) → Some e ≡ get r.name.now d → os ≡ x ∷ more → RowFirst r d os rest → (x ≡ (at_name r.name.now, misfits (kind_of r.kind) e)) × (more ≡ rest)
one_taken r d e os more rest x there top is =
    let same : x ∷ more ≡ (at_name r.name.now, misfits (kind_of r.kind) e) ∷ rest = sym top ∙ is ∙ ap (λ o. outcomes (field_places r.name.now (kind_of r.kind) o) ++ rest) (sym there) in
    (ap (first_or x) same, ap later same)

pub put_absent : (r : Row) (d : Data) (old new : Misfits) (b : Bool) → None ≡ get r.name.now d → b ≡ is_required r.mark → new ≡ old ++ cond b (here (absent r.name.now)) [] → new ≡ old ++ row_misfits_at r d
put_absent r d old new b gone is put = put ∙ ap (λ xs. old ++ xs) (ap (λ x. cond x (here (absent r.name.now)) []) is ∙ sym (row_absent r d (sym gone)))

pub put_there : (r : Row) (d e : Data) (old new : Misfits) (x : Outcome) (b null_there : Bool) → Some e ≡ get r.name.now d → x ≡ (at_name r.name.now, misfits (kind_of r.kind) e) → b ≡ has_to_fit r.mark null_there → null_there ≡ is_some (as_null e)
    → new ≡ old ++ cond b (under x.0 x.1) [] → new ≡ old ++ row_misfits_at r d
put_there r d e old new x b n there first is null_is put =
    put ∙ ap (λ o. old ++ cond b (under o.0 o.1) []) first
    ∙ ap (λ xs. old ++ xs) (ap (λ y. cond y (under (at_name r.name.now) (misfits (kind_of r.kind) e)) []) (is ∙ ap (has_to_fit r.mark) (null_is ∙ null_test e)) ∙ sym (row_there r d e (sym there)))

same_fit : (s : Step) (xs : Misfits) → is_fit (under s xs) ≡ is_fit xs
same_fit s [] = refl
same_fit s (x ∷ xs) = refl

-- the same where what was found in the member is at hand
pub put_found : (r : Row) (d e : Data) (old new inner : Misfits) (b null_there : Bool) → Some e ≡ get r.name.now d → inner ≡ misfits (kind_of r.kind) e → b ≡ has_to_fit r.mark null_there → null_there ≡ is_some (as_null e)
    → new ≡ old ++ cond b (under (at_name r.name.now) inner) [] → new ≡ old ++ row_misfits_at r d
put_found r d e old new inner b n there found is null_is put = put_there r d e old new (at_name r.name.now, inner) b n there (ap (λ xs. (at_name r.name.now, xs)) found) is null_is put

under_fit : (x : Outcome) → is_fit (under x.0 x.1) ≡ is_fit x.1
under_fit x = same_fit x.0 x.1

fits_by : (b fits : Bool) (x : Outcome) → fits ≡ is_fit x.1 → is_fit (cond b (under x.0 x.1) []) ≡ not b || fits
fits_by true fits x e = under_fit x ∙ sym e
fits_by false fits x e = refl

-- whether a row fits whose member is there
pub fits_there : (r : Row) (d e : Data) (x : Outcome) (b null_there fits : Bool) → Some e ≡ get r.name.now d → x ≡ (at_name r.name.now, misfits (kind_of r.kind) e) → b ≡ has_to_fit r.mark null_there → null_there ≡ is_some (as_null e) → fits ≡ is_fit x.1
    → is_fit (row_misfits_at r d) ≡ not b || fits
fits_there r d e x b n fits there first is null_is fit =
    ap is_fit (row_there r d e (sym there) ∙ ap (λ y. cond y (under (at_name r.name.now) (misfits (kind_of r.kind) e)) []) (sym (is ∙ ap (has_to_fit r.mark) (null_is ∙ null_test e))))
    ∙ ap (λ o. is_fit (cond b (under o.0 o.1) [])) (sym first) ∙ fits_by b fits x fit

-- a row fits whose member does, or need not
pub fits_either : (b fits : Bool) → ((b ≡ true) × (fits ≡ true)) ⊎ (b ≡ false) → not b || fits ≡ true
fits_either true fits (inl h) = h.1
fits_either true fits (inr e) = absurd (true≢false e)
fits_either false fits e = refl

pub fits_neither : (b fits : Bool) → b ≡ true → fits ≡ false → not b || fits ≡ false
fits_neither true fits e f = f
fits_neither false fits e f = absurd (true≢false (sym e))

-- the last of some outcomes is the first of the stack
pub last_stacked : (xs : List program.Outcome) (n : ℕ) (x : program.Outcome) → n ≤ length xs → (n ≡ 0 → ⊥) → x ≡ get_or xs (n - 1) x → stacked (take n xs) ≡ outcome_of x ∷ stacked (take (n - 1) xs)
last_stacked xs n x within some is =
    let next : n ≡ (n - 1) + 1 = omega arith in
    let less : n - 1 < length xs = omega arith in
    ap (λ m. stacked (take m xs)) next ∙ ap stacked (take_more xs (n - 1) x less) ∙ ap (λ y. stacked (take (n - 1) xs ++ y ∷ [])) (sym is) ∙ stacked_last (take (n - 1) xs) x

-- ---- the loop that tests rows

and_parts : (a b : Misfits) → is_fit (a ++ b) ≡ cond (is_fit a) (is_fit b) false
and_parts [] b = refl
and_parts (x ∷ a) b = refl

-- whether rows fit is whether the first does and the others do
pub rows_fit_from : (rs : List Row) (i : ℕ) (r : Row) (d : Data) (all fits : Bool) → i < length rs → all ≡ is_fit (rows_misfits (rows_of (drop i rs)) (checks (members_at d))) → is_fit (row_misfits_at (get_or rs i r) d) ≡ fits
    → all ≡ cond fits (is_fit (rows_misfits (rows_of (drop (i + 1) rs)) (checks (members_at d)))) false
rows_fit_from rs i r d all fits within is fit =
    let cs = checks (members_at d) in
    let this = get_or rs i r in
    let rest = rows_of (drop (i + 1) rs) in
    is ∙ ap (λ xs. is_fit (rows_misfits (rows_of xs) cs)) (row_at rs i r within) ∙ ap is_fit (first_row this.mark this.name.now (kind_of this.kind) rest cs) ∙ and_parts (row_misfits_at this d) (rows_misfits rest cs)
    ∙ ap (λ b. cond b (is_fit (rows_misfits rest cs)) false) fit
