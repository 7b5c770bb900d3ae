-- What is in doubt by the rows of the program.
use Rattle.std.proofs.Common.{◌≡◌, ℕ, ◌+◌, ◌<◌, List, [], ◌∷◌, ◌++◌, length, drop, get_or, Bool, true, false, cond, Option, Some, None, option_map, is_some, refl, sym, ap, ◌∙◌, append_assoc, true≢false, nat_cmp, Ordering, Less, Equal, Greater}
use Rattle.std.proofs.lemmas.List.{append-nil}
use Rattle.std.specs.Ordering.{match_ordering}
use Rattle.std.specs.Cmp.Lexicographic.{slice_cmp}
use Rattle.serde_json.specs.Data.{Data, Members, no_members, member}
use Rattle.serde_json.specs.Find.{get, get_member}
use Rattle.utoipa_base.specs.Kinds as kinds
use Rattle.utoipa_base.specs.Reading.{is_null}
use Rattle.utoipa_tables.specs.declared.kinds.Mark.{Mark}
use Rattle.utoipa_tables.specs.declared.kinds.Mark.TheVariants as marks
use Rattle.utoipa_tables.specs.declared.kinds.Row.{Row}
use Rattle.utoipa_tables.specs.Tables.{kind_of, and_row, rows_of, members_of}
use Rattle.utoipa_check.specs.Doubted.{doubted, all_doubted, row_doubts_at}
use Rattle.utoipa_check.specs.Doubts.{doubter, doubters, doubts, row_doubts, rows_doubts}
use Rattle.utoipa_check.specs.Misfits.{Misfits, Check, Checks, check_at, under, at_name}
use Rattle.utoipa_check.specs.Places.{members_at, Outcome, Place, field_places, fields_places}
use Rattle.utoipa_check.specs.Views.{is_kept, misfits_of}
use Rattle.utoipa_check.specs.declared.misfit.Misfit.{Misfit}
use Rattle.utoipa_check.proofs.ByRows.{get_at, row_at}

-- ---- members

abbrev doubt_of : Data → Check
doubt_of d = (is_null d, doubter d)

order_map : (o : Ordering) (u w : Option Data) (d : Data) (x z : Option Check) → x ≡ option_map doubt_of u → z ≡ option_map doubt_of w → match_ordering o x (Some (doubt_of d)) z ≡ option_map doubt_of (match_ordering o u (Some d) w)
order_map Less u w d x z e f = e
order_map Equal u w d x z e f = refl
order_map Greater u w d x z e f = f

doubt_found : (name : List ℕ) (ms : Members) → check_at name (doubters ms) ≡ option_map doubt_of (get_member name ms)
unfolding doubters
doubt_found name no_members = refl
doubt_found name (member k d ms) = order_map (slice_cmp nat_cmp name k) (get_member name ms) (get_member name ms) d (check_at name (doubters ms)) (check_at name (doubters ms)) (doubt_found name ms) (doubt_found name ms)

-- what is in doubt by a row, by its member
row_by_member : (r : Row) (d : Data) (o : Option Data) → o ≡ get r.name.now d → row_doubts_at r d ≡ cond (is_kept r.mark) (row_doubts r.name.now (kind_of r.kind) (option_map doubt_of o)) []
row_by_member r d o is = ap (λ c. cond (is_kept r.mark) (row_doubts r.name.now (kind_of r.kind) c) []) (doubt_found r.name.now (members_at d) ∙ ap (option_map doubt_of) (get_at r.name.now d ∙ sym is))

-- ---- one row

-- what is in doubt in the member of a row, before the others
abbrev pub RowFirst : Row → Data → List Outcome → List Outcome → Type 0
RowFirst r d os rest = os ≡ all_doubted (field_places r.name.now (kind_of r.kind) (get r.name.now d)) ++ rest

none_of : (o : Option Data) → is_some o ≡ false → None ≡ o
none_of None e = refl
none_of (Some d) e = absurd (true≢false e)

some_of : (o : Option Data) → is_some o ≡ true → (d : Data) × (Some d ≡ o)
some_of None e = absurd (true≢false (sym e))
some_of (Some d) e = (d, refl)

none_either : (b : Bool) (xs : Misfits) → xs ≡ [] → cond b xs [] ≡ []
none_either true xs e = e
none_either false xs e = refl

-- where the member is absent, nothing is in doubt in it
pub doubts_absent : (r : Row) (d : Data) (os rest : List Outcome) (old : Misfits) → is_some (get r.name.now d) ≡ false → RowFirst r d os rest → (os ≡ rest) × (old ≡ old ++ row_doubts_at r d)
doubts_absent r d os rest old gone is =
    let none = none_of (get r.name.now d) gone in (
      is ∙ ap (λ o. all_doubted (field_places r.name.now (kind_of r.kind) o) ++ rest) (sym none),
      sym (append-nil old) ∙ ap (λ xs. old ++ xs) (sym (row_by_member r d None none ∙ none_either (is_kept r.mark) [] refl)),
    )

abbrev first_or : Outcome → List Outcome → Outcome
first_or x [] = x
first_or x (y ∷ ys) = y

abbrev later : List Outcome → List Outcome
later [] = []
later (y ∷ ys) = ys

one_there : (r : Row) (d e : Data) (os more rest : List Outcome) (x : Outcome) (old new : Misfits) → Some e ≡ get r.name.now d → os ≡ x ∷ more → RowFirst r d os rest → new ≡ old ++ cond (is_kept r.mark) (under x.0 x.1) [] → (more ≡ rest) × (new ≡ old ++ row_doubts_at r d)
one_there r d e os more rest x old new there top is put =
    let same : x ∷ more ≡ (at_name r.name.now, doubts (kind_of r.kind) e) ∷ rest = sym top ∙ is ∙ ap (λ o. all_doubted (field_places r.name.now (kind_of r.kind) o) ++ rest) (sym there) in (
      ap later same,
      put ∙ ap (λ o. old ++ cond (is_kept r.mark) (under o.0 o.1) []) (ap (first_or x) same) ∙ ap (λ xs. old ++ xs) (sym (row_by_member r d (Some e) there)),
    )

-- where it is there, what is in doubt in it is the first of the stack; it is put to the rest if the row is kept
pub doubts_there : (r : Row) (d : Data) (os more rest : List Outcome) (x : Outcome) (old new : Misfits) → is_some (get r.name.now d) ≡ true → os ≡ x ∷ more → RowFirst r d os rest → new ≡ old ++ cond (is_kept r.mark) (under x.0 x.1) []
    → (more ≡ rest) × (new ≡ old ++ row_doubts_at r d)
doubts_there r d os more rest x old new there top is put =
    let found = some_of (get r.name.now d) there in
    one_there r d found.0 os more rest x old new found.1 top is put

-- ---- rows

first_row : (m : Mark) (name : List ℕ) (k : kinds.Kind) (rs : List kinds.Row) (ds : Checks) → rows_doubts (and_row m name k rs) ds ≡ cond (is_kept m) (row_doubts name k (check_at name ds)) [] ++ rows_doubts rs ds
first_row marks.Required name k rs ds = refl
first_row marks.Optional name k rs ds = refl
first_row marks.OrNull name k rs ds = refl
first_row marks.Defaulted name k rs ds = refl
first_row marks.NotKept name k rs ds = refl

doubted_join : (ps qs : List Place) → all_doubted (ps ++ qs) ≡ all_doubted ps ++ all_doubted qs
doubted_join [] qs = refl
doubted_join (p ∷ ps) qs = ap (λ os. doubted p ∷ os) (doubted_join ps qs)

-- what is in doubt by the rows from an index on is what is in doubt in the member of this row, and what is in those of the later ones
pub doubts_rows_from : (rs : List Row) (i : ℕ) (r : Row) (d : Data) (os : List Outcome) → i < length rs → os ≡ all_doubted (fields_places (members_of (drop i rs)) d)
    → RowFirst (get_or rs i r) d os (all_doubted (fields_places (members_of (drop (i + 1) rs)) d))
doubts_rows_from rs i r d os within is =
    let this = get_or rs i r in
    is ∙ ap (λ xs. all_doubted (fields_places (members_of xs) d)) (row_at rs i r within) ∙ doubted_join (field_places this.name.now (kind_of this.kind) (get this.name.now d)) (fields_places (members_of (drop (i + 1) rs)) d)

pub doubts_rows_step : (rs : List Row) (i : ℕ) (r : Row) (d : Data) (found new : List Misfit) (all : Misfits) → misfits_of found ++ rows_doubts (rows_of (drop i rs)) (doubters (members_at d)) ≡ all → i < length rs
    → misfits_of new ≡ misfits_of found ++ row_doubts_at (get_or rs i r) d → misfits_of new ++ rows_doubts (rows_of (drop (i + 1) rs)) (doubters (members_at d)) ≡ all
doubts_rows_step rs i r d found new all so_far within put =
    let ds = doubters (members_at d) in
    let this = get_or rs i r in
    let rest = rows_doubts (rows_of (drop (i + 1) rs)) ds in
    ap (λ xs. xs ++ rest) put ∙ append_assoc (misfits_of found) (row_doubts_at this d) rest
    ∙ ap (λ xs. misfits_of found ++ xs) (sym (first_row this.mark this.name.now (kind_of this.kind) (rows_of (drop (i + 1) rs)) ds))
    ∙ ap (λ xs. misfits_of found ++ rows_doubts (rows_of xs) ds) (sym (row_at rs i r within)) ∙ so_far
