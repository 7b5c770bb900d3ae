-- What the rows of the program mention.
use Rattle.std.proofs.Common.{◌≡◌, ℕ, ◌+◌, ◌<◌, List, [], ◌∷◌, ◌++◌, length, drop, get_or, Bool, true, false, cond, Option, Some, None, option_map, is_some, refl, sym, ap, ◌∙◌, append_assoc, true≢false, nat_cmp, Ordering, Less, Equal, Greater}
use Rattle.std.proofs.lemmas.List.{append-nil}
use Rattle.std.specs.Ordering.{match_ordering}
use Rattle.std.specs.Cmp.Lexicographic.{slice_cmp}
use Rattle.serde_json.specs.Data.{Data, Members, no_members, member}
use Rattle.serde_json.specs.Find.{get, get_member}
use Rattle.utoipa_base.specs.Kinds as kinds
use Rattle.utoipa_tables.specs.declared.kinds.Mark.{Mark}
use Rattle.utoipa_tables.specs.declared.kinds.Mark.TheVariants as marks
use Rattle.utoipa_tables.specs.declared.kinds.Row.{Row}
use Rattle.utoipa_tables.specs.Tables.{kind_of, and_row, rows_of, members_of}
use Rattle.utoipa_check.specs.Mentioned.{Mentioned, mentioned, all_mentioned}
use Rattle.utoipa_check.specs.Misfits.{at_name}
use Rattle.utoipa_check.specs.Places.{members_at, Place, field_places, fields_places}
use Rattle.utoipa_check.specs.References.{Mentions, Mentioner, Mentioners, under, row_mentions, rows_mentions, mentioner, mentioner_at, mentioners, mentions}
use Rattle.utoipa_check.specs.ReferenceViews.{mentions_of, row_mentions_at}
use Rattle.utoipa_check.specs.declared.mention.Mention.{Mention}
use Rattle.utoipa_check.proofs.ByRows.{get_at, row_at}
use Rattle.utoipa_check.specs.Views.{is_kept}

-- ---- members

order_map : (o : Ordering) (u w : Option Data) (d : Data) (x z : Option Mentioner) → x ≡ option_map mentioner u → z ≡ option_map mentioner w → match_ordering o x (Some (mentioner d)) z ≡ option_map mentioner (match_ordering o u (Some d) w)
order_map Less u w d x z e f = e
order_map Equal u w d x z e f = refl
order_map Greater u w d x z e f = f

mentioner_found : (name : List ℕ) (ms : Members) → mentioner_at name (mentioners ms) ≡ option_map mentioner (get_member name ms)
unfolding mentioners
mentioner_found name no_members = refl
mentioner_found name (member k d ms) = order_map (slice_cmp nat_cmp name k) (get_member name ms) (get_member name ms) d (mentioner_at name (mentioners ms)) (mentioner_at name (mentioners ms)) (mentioner_found name ms) (mentioner_found name ms)

-- what a row mentions, by its member
row_by_member : (r : Row) (d : Data) (o : Option Data) → o ≡ get r.name.now d → row_mentions_at r d ≡ cond (is_kept r.mark) (row_mentions r.name.now (kind_of r.kind) (option_map mentioner o)) []
row_by_member r d o is = ap (λ f. cond (is_kept r.mark) (row_mentions r.name.now (kind_of r.kind) f) []) (mentioner_found r.name.now (members_at d) ∙ ap (option_map mentioner) (get_at r.name.now d ∙ sym is))

-- ---- one row

-- what is mentioned in the member of a row, before the others
abbrev pub RowFirst : Row → Data → List Mentioned → List Mentioned → Type 0
RowFirst r d ms rest = ms ≡ all_mentioned (field_places r.name.now (kind_of r.kind) (get r.name.now d)) ++ rest

none_of : (o : Option Data) → is_some o ≡ false → None ≡ o
none_of None e = refl
none_of (Some d) e = absurd (true≢false e)

some_of : (o : Option Data) → is_some o ≡ true → (d : Data) × (Some d ≡ o)
some_of None e = absurd (true≢false (sym e))
some_of (Some d) e = (d, refl)

none_either : (b : Bool) (xs : Mentions) → xs ≡ [] → cond b xs [] ≡ []
none_either true xs e = e
none_either false xs e = refl

-- where the member is absent, nothing is mentioned in it
pub mentions_absent : (r : Row) (d : Data) (ms rest : List Mentioned) (old : Mentions) → is_some (get r.name.now d) ≡ false → RowFirst r d ms rest → (ms ≡ rest) × (old ≡ old ++ row_mentions_at r d)
mentions_absent r d ms rest old gone is =
    let none = none_of (get r.name.now d) gone in (
      is ∙ ap (λ o. all_mentioned (field_places r.name.now (kind_of r.kind) o) ++ rest) (sym none),
      sym (append-nil old) ∙ ap (λ xs. old ++ xs) (sym (row_by_member r d None none ∙ none_either (is_kept r.mark) [] refl)),
    )

abbrev first_or : Mentioned → List Mentioned → Mentioned
first_or x [] = x
first_or x (y ∷ ys) = y

abbrev later : List Mentioned → List Mentioned
later [] = []
later (y ∷ ys) = ys

one_there : (r : Row) (d e : Data) (ms more rest : List Mentioned) (x : Mentioned) (old new : Mentions) → Some e ≡ get r.name.now d → ms ≡ x ∷ more → RowFirst r d ms rest → new ≡ old ++ cond (is_kept r.mark) (under x.0 x.1) [] → (more ≡ rest) × (new ≡ old ++ row_mentions_at r d)
one_there r d e ms more rest x old new there top is put =
    let same : x ∷ more ≡ (at_name r.name.now, mentions (kind_of r.kind) e) ∷ rest = sym top ∙ is ∙ ap (λ o. all_mentioned (field_places r.name.now (kind_of r.kind) o) ++ rest) (sym there) in (
      ap later same,
      put ∙ ap (λ m. old ++ cond (is_kept r.mark) (under m.0 m.1) []) (ap (first_or x) same) ∙ ap (λ xs. old ++ xs) (sym (row_by_member r d (Some e) there)),
    )

-- where it is there, what is mentioned in it is the first of the stack; it is put to the rest if the row is kept
pub mentions_there : (r : Row) (d : Data) (ms more rest : List Mentioned) (x : Mentioned) (old new : Mentions) → is_some (get r.name.now d) ≡ true → ms ≡ x ∷ more → RowFirst r d ms rest → new ≡ old ++ cond (is_kept r.mark) (under x.0 x.1) []
    → (more ≡ rest) × (new ≡ old ++ row_mentions_at r d)
mentions_there r d ms more rest x old new there top is put =
    let found = some_of (get r.name.now d) there in
    one_there r d found.0 ms more rest x old new found.1 top is put

-- ---- rows

first_row : (m : Mark) (name : List ℕ) (k : kinds.Kind) (rs : List kinds.Row) (fs : Mentioners) → rows_mentions (and_row m name k rs) fs ≡ cond (is_kept m) (row_mentions name k (mentioner_at name fs)) [] ++ rows_mentions rs fs
first_row marks.Required name k rs fs = refl
first_row marks.Optional name k rs fs = refl
first_row marks.OrNull name k rs fs = refl
first_row marks.Defaulted name k rs fs = refl
first_row marks.NotKept name k rs fs = refl

mentioned_join : (ps qs : List Place) → all_mentioned (ps ++ qs) ≡ all_mentioned ps ++ all_mentioned qs
mentioned_join [] qs = refl
mentioned_join (p ∷ ps) qs = ap (λ ms. mentioned p ∷ ms) (mentioned_join ps qs)

-- what was mentioned by the rows from an index on is what was mentioned in the member of this row, and what was in those of the later ones
pub mentions_rows_from : (rs : List Row) (i : ℕ) (r : Row) (d : Data) (ms : List Mentioned) → i < length rs → ms ≡ all_mentioned (fields_places (members_of (drop i rs)) d)
    → RowFirst (get_or rs i r) d ms (all_mentioned (fields_places (members_of (drop (i + 1) rs)) d))
mentions_rows_from rs i r d ms within is =
    let this = get_or rs i r in
    is ∙ ap (λ xs. all_mentioned (fields_places (members_of xs) d)) (row_at rs i r within) ∙ mentioned_join (field_places this.name.now (kind_of this.kind) (get this.name.now d)) (fields_places (members_of (drop (i + 1) rs)) d)

pub mentions_rows_step : (rs : List Row) (i : ℕ) (r : Row) (d : Data) (found new : List Mention) (all : Mentions) → mentions_of found ++ rows_mentions (rows_of (drop i rs)) (mentioners (members_at d)) ≡ all → i < length rs
    → mentions_of new ≡ mentions_of found ++ row_mentions_at (get_or rs i r) d → mentions_of new ++ rows_mentions (rows_of (drop (i + 1) rs)) (mentioners (members_at d)) ≡ all
mentions_rows_step rs i r d found new all so_far within put =
    let fs = mentioners (members_at d) in
    let this = get_or rs i r in
    let rest = rows_mentions (rows_of (drop (i + 1) rs)) fs in
    ap (λ xs. xs ++ rest) put ∙ append_assoc (mentions_of found) (row_mentions_at this d) rest
    ∙ ap (λ xs. mentions_of found ++ xs) (sym (first_row this.mark this.name.now (kind_of this.kind) (rows_of (drop (i + 1) rs)) fs))
    ∙ ap (λ xs. mentions_of found ++ rows_mentions (rows_of xs) fs) (sym (row_at rs i r within)) ∙ so_far
