-- Each misfit is true: its steps lead to a tree, of which its cause holds.
use Rattle.std.proofs.Common.{◌≡◌, inl, inr, ℕ, zero, suc, ◌+◌, List, [], ◌∷◌, ◌++◌, Bool, true, false, cond, nat_cmp, codes, Option, Some, None, is_some, refl, sym, ap, subst, ◌∙◌, ◌||◌, ◌&&◌, not, Ordering, Less, Equal, Greater, arith, true≢false}
use Rattle.std.specs.List.{list_any}
use Rattle.std.specs.Str.{bytes_eq}
use Rattle.std.specs.Ordering.{match_ordering}
use Rattle.std.specs.Cmp.Lexicographic.{slice_cmp}
use Rattle.std.proofs.lemmas.Map.Lookups.{exact_bytes}
use Rattle.serde_json.specs.Data.{Num, Data, null, boolean, number, string, array, object, Items, no_items, item, Members, no_members, member}
use Rattle.serde_json.specs.Find.{as_integer, as_u64, get_member, get_item, is_float}
use Rattle.serde_json.specs.Written.{has_float, items_have_float, members_have_float}
use Rattle.utoipa_base.specs.Kinds.{ObjectType, one_of_schema, all_of_schema, any_of_schema, array_schema, object_schema, reference_object, type_word, Kind, text, flag, whole, numeral, any, word_of, version, list_of, map_of, ordered_map_of, entries_of, ref_or, named, schema, schema_type, schema_format, array_items, additional_properties, security_scheme, api_key, flows, Mark, required, optional, or_null, defaulted, Row}
use Rattle.utoipa_base.specs.Words.{words}
use Rattle.utoipa_base.specs.Version.{read_version}
use Rattle.utoipa_base.specs.Choices.{chosen, scheme_types, api_key_places, flow_keys, is_schema_type}
use Rattle.utoipa_base.specs.Docs.{Doc}
use Rattle.utoipa_base.specs.Tables.{table}
use Rattle.utoipa_base.specs.Extensions.{is_extension}
use Rattle.utoipa_base.specs.Reading.{is_null, is_named, reader, read}
use Rattle.utoipa_check.specs.IsDropped.{IsMember, StandsIn}
use Rattle.utoipa_check.specs.Misfits.{Step, at_name, at_index, Cause, absent, expected, unknown_word, no_alternative, unknown_name, fraction, Misfit, Misfits, here, under, is_fit, mismatch, expect, expect_of, unless_fit, Check, Checks, check_at, entry_checks, row_misfits, rows_misfits, table_misfits, items_misfits, entries_misfits, says_array, meant_schema, fits_schema, schema_misfits, ref_or_misfits, alternative_misfits, chosen_misfits, tagged_misfits, api_key_misfits, scheme_misfits, security_scheme_misfits, flow_misfits, flows_misfits, null_misfits, boolean_misfits, number_misfits, string_misfits, array_misfits, object_misfits, checker, item_checkers, checks, misfits, fractions, items_fractions, members_fractions, is_fraction, without_fractions, misfits_and_fractions}
use Rattle.utoipa_tables.specs.Tables.{words_of_choices, flow_kinds}
use Rattle.utoipa_check.specs.Truth.{Due, of_kind, of_any_flow, of_words, IsTakenAsReference, IsNoReference, Chooses, IsTakenAs, IsRow, HasToFit, flow_due, Stands, IsDueBehind, kind_at, Requires, IsNoneOf, is_container, sort, IsOfAnotherSort, words_at, Reaches, IsFraction, IsTrueAt, AllTrueAt, AllTrue}
use Rattle.utoipa_check.proofs.Exact.{misfits_exact, fractions_exact, join_fit, and_same, unless_fit-fit}
use Rattle.utoipa_check.proofs.Trues.{stands, as_wider, as_own, as_table, join_true, under_true, here_true, expected_true}

-- ---- results

or_first : (a b : Bool) → a ≡ true → a || b ≡ true
or_first true b e = refl
or_first false b e = absurd (true≢false (sym e))

or_second : (a b : Bool) → b ≡ true → a || b ≡ true
or_second true b e = refl
or_second false b e = e

abbrev float_or : Option Data → Bool → Bool
float_or None b = b
float_or (Some d) b = has_float d

none_there : (o : Option Doc) → is_some o ≡ false → o ≡ None
none_there None e = refl
none_there (Some d) e = absurd (true≢false e)

-- a tree with misfits reads as nothing
pub refused : (k : Kind) (t : Data) → is_fit (misfits k t) ≡ false → read k t ≡ None
refused k t e = none_there (read k t) (sym (misfits_exact k t) ∙ e)

or_no : (a b : Bool) → a || b ≡ false → (a ≡ false) × (b ≡ false)
or_no true b e = absurd (true≢false e)
or_no false b e = (refl, e)

unless_true : (e : Due) (d : Data) (b : Bool) (meant : Misfits) (ks : List Kind) → (b ≡ false → AllTrueAt e d (here (no_alternative ks))) → AllTrueAt e d meant → AllTrueAt e d (unless_fit b meant ks)
unless_true e d true meant ks f h = tt
unless_true e d false [] ks f h = f refl
unless_true e d false (m ∷ ms) ks f h = h

-- ---- trees that are neither arrays nor objects

expect_true : (d : Data) (b : Bool) (k : Kind) → (b ≡ false → IsOfAnotherSort k d) → AllTrue k d (expect b k)
expect_true d true k f = tt
expect_true d false k f = expected_true k d (f refl)

word_true : (b : Bool) (k : Kind) (ws : List (List ℕ)) (s : List ℕ) → words_at (of_kind k) ≡ Some ws → list_any (bytes_eq s) ws ≡ b → AllTrue k (string s) (cond b [] (here (unknown_word ws)))
word_true true k ws s is e = tt
word_true false k ws s is e = here_true (unknown_word ws) (of_kind k) (string s) (stands k (string s)) (is, (s, refl, e))

null_true : (k : Kind) → AllTrue k null (null_misfits k)
unfolding reader
null_true any = tt
null_true schema_type = tt
null_true (ref_or k) = as_own k null (inl refl) (null_misfits k) (null_true k)
null_true k = expected_true k null (refl, refl)

not_items : (b : Bool) → AllTrue array_items (boolean b) (boolean_misfits b array_items)
unfolding reader
not_items true = expected_true array_items (boolean true) (refl, refl)
not_items false = tt

boolean_true : (b : Bool) (k : Kind) → AllTrue k (boolean b) (boolean_misfits b k)
unfolding reader
boolean_true b flag = tt
boolean_true b any = tt
boolean_true b additional_properties = tt
boolean_true b array_items = not_items b
boolean_true b (ref_or k) = as_own k (boolean b) (inl refl) (boolean_misfits b k) (boolean_true b k)
boolean_true b k = expected_true k (boolean b) (refl, refl)

expect_refused : (b : Bool) (k : Kind) → b ≡ false → is_fit (expect b k) ≡ false
expect_refused true k e = absurd (true≢false e)
expect_refused false k e = refl

expect_of_refused : (b : Bool) (k : Kind) (d : Data) → b ≡ false → is_fit (expect_of b k d) ≡ false
expect_of_refused true k d e = absurd (true≢false e)
expect_of_refused false k d e = refl

-- a number of another sort than a place expects, by whether it is a fraction
mismatch_true : (e : Due) (k : Kind) (n : Num) → Stands e (number n) e → kind_at e ≡ Some k → IsOfAnotherSort k (number n) → (b : Bool) → is_float n ≡ b → AllTrueAt e (number n) (here (cond b fraction (expected k)))
mismatch_true e k n s is other true float = here_true fraction e (number n) s (n, refl, float)
mismatch_true e k n s is other false float = here_true (expected k) e (number n) s (is, other)

other_number : (n : Num) (k : Kind) → IsOfAnotherSort k (number n) → AllTrue k (number n) (here (mismatch k (number n)))
other_number n k other = mismatch_true (of_kind k) k n (stands k (number n)) refl other (is_float n) refl

expect_of_true : (n : Num) (b : Bool) (k : Kind) → (b ≡ false → IsOfAnotherSort k (number n)) → AllTrue k (number n) (expect_of b k (number n))
expect_of_true n true k f = tt
expect_of_true n false k f = other_number n k (f refl)

number_true : (n : Num) (k : Kind) → AllTrue k (number n) (number_misfits n k)
unfolding reader checker
number_true n whole = expect_of_true n (is_some (as_u64 n)) whole (λ e. (refused whole (number n) (expect_of_refused (is_some (as_u64 n)) whole (number n) e), refl))
number_true n numeral = expect_of_true n (is_some (as_integer n)) numeral (λ e. (refused numeral (number n) (expect_of_refused (is_some (as_integer n)) numeral (number n) e), refl))
number_true n any = tt
number_true n (ref_or k) = as_own k (number n) (inl refl) (number_misfits n k) (number_true n k)
number_true n k = other_number n k (refl, refl)

string_true : (s : List ℕ) (k : Kind) → AllTrue k (string s) (string_misfits s k)
unfolding reader checker
string_true s text = tt
string_true s any = tt
string_true s (word_of v) = word_true (list_any (bytes_eq s) (words v)) (word_of v) (words v) s refl refl
string_true s version = expect_true (string s) (is_some (read_version s)) version (λ e. (refused version (string s) (expect_refused (is_some (read_version s)) version e), refl))
string_true s schema_type = word_true (list_any (bytes_eq s) (words type_word)) schema_type (words type_word) s refl refl
string_true s schema_format = tt
string_true s (ref_or k) = as_own k (string s) (inl refl) (string_misfits s k) (string_true s k)
string_true s k = expected_true k (string s) (refl, refl)

-- ---- arrays

-- all misfits of a tree are true, of whatever kind it is asked
abbrev IsSound : Data → Type 0
IsSound d = (k : Kind) → AllTrue k d (checker d k)

abbrev ItemsSound : Items → Type 0
ItemsSound no_items = Unit {0}
ItemsSound (item d ds) = IsSound d × ItemsSound ds

items_true : (outer k : Kind) → ((i : ℕ) (t : Data) → IsDueBehind (at_index i) outer (of_kind k) t) → (all : Items) (i : ℕ) (ds : Items) → ((j : ℕ) (e : Data) → get_item j ds ≡ Some e → get_item (i + j) all ≡ Some e) → ItemsSound ds
    → AllTrue outer (array all) (items_misfits i k (item_checkers ds))
unfolding item_checkers
items_true outer k due all i no_items within h = tt
items_true outer k due all i (item d ds) within h =
    join_true (of_kind outer) (array all) (under (at_index i) (checker d k)) (items_misfits (suc i) k (item_checkers ds))
    (under_true (at_index i) outer (array all) (of_kind k) d (subst (λ n. get_item n all ≡ Some d) (omega arith) (within 0 d refl)) (due i d) (checker d k) (h.0 k))
    (items_true outer k due all (suc i) ds (λ j e there. subst (λ n. get_item n all ≡ Some e) (omega arith) (within (suc j) e there)) h.1)

array_true : (ds : Items) → ItemsSound ds → (k : Kind) → AllTrue k (array ds) (array_misfits (item_checkers ds) k)
unfolding reader
array_true ds h any = tt
array_true ds h (list_of k) = items_true (list_of k) k (λ i t. refl) ds 0 ds (λ j e there. subst (λ n. get_item n ds ≡ Some e) (omega arith) there) h
array_true ds h schema_type = items_true schema_type (word_of type_word) (λ i t. refl) ds 0 ds (λ j e there. subst (λ n. get_item n ds ≡ Some e) (omega arith) there) h
array_true ds h (ref_or k) = as_own k (array ds) (inl refl) (array_misfits (item_checkers ds) k) (array_true ds h k)
array_true ds h k = expected_true k (array ds) (refl, refl)

-- ---- members

abbrev MembersSound : Members → Type 0
MembersSound no_members = Unit {0}
MembersSound (member k d ms) = IsSound d × MembersSound ms

-- what a check says is true of a member of this name
abbrev CheckTrue : Members → List ℕ → Check → Type 0
CheckTrue all name c = (e : Data) × IsMember name e all × ((k : Kind) → AllTrue k e (c.1 k)) × ((k : Kind) → is_fit (c.1 k) ≡ false → read k e ≡ None) × (c.0 ≡ is_null e)

abbrev ChecksTrue : Members → Checks → Type 0
ChecksTrue all [] = Unit {0}
ChecksTrue all (c ∷ cs) = CheckTrue all c.0 c.1 × ChecksTrue all cs

-- what was found at a name, by the checks and by the members
abbrev Found : Members → List ℕ → Option Check → Option Data → Type 0
Found all name None None = Unit {0}
Found all name None (Some e) = ⊥
Found all name (Some c) None = ⊥
Found all name (Some c) (Some e) = CheckTrue all name c

members_checks : (all ms : Members) → ((n : List ℕ) (e : Data) → IsMember n e ms → IsMember n e all) → MembersSound ms → ChecksTrue all (checks ms)
unfolding checks
members_checks all no_members within h = tt
members_checks all (member k d ms) within h =
    ((d, within k d (inl (refl, refl)), h.0, λ l. refused l d, refl), members_checks all ms (λ n e there. within n e (inr there)) h.1)

found_by_order : (all : Members) (name : List ℕ) (o : Ordering) (x z : Option Check) (y : Check) (u w : Option Data) (v : Data) → Found all name x u → (o ≡ Equal → CheckTrue all name y) → Found all name z w
    → Found all name (match_ordering o x (Some y) z) (match_ordering o u (Some v) w)
found_by_order all name Less x z y u w v f g h = f
found_by_order all name Equal x z y u w v f g h = g refl
found_by_order all name Greater x z y u w v f g h = h

found_at : (all : Members) (name : List ℕ) (ms : Members) → ((n : List ℕ) (e : Data) → IsMember n e ms → IsMember n e all) → MembersSound ms → Found all name (check_at name (checks ms)) (get_member name ms)
unfolding checks
found_at all name no_members within h = tt
found_at all name (member k d ms) within h =
    let rest = found_at all name ms (λ n e there. within n e (inr there)) h.1 in
    found_by_order all name (slice_cmp nat_cmp name k) (check_at name (checks ms)) (check_at name (checks ms)) (is_null d, checker d) (get_member name ms) (get_member name ms) d rest
    (λ same. (d, within name d (inl (exact_bytes name k same, refl)), h.0, λ l. refused l d, refl)) rest

abbrev value_or : Option Data → Data → Data
value_or None d = d
value_or (Some e) d = e

-- a member that is found is there
got_by_order : (P : Type 0) (o : Ordering) (u w : Option Data) (d e : Data) → match_ordering o u (Some d) w ≡ Some e → (u ≡ Some e → P) → (o ≡ Equal → d ≡ e → P) → (w ≡ Some e → P) → P
got_by_order P Less u w d e q f g h = f q
got_by_order P Equal u w d e q f g h = g refl (ap (λ o. value_or o d) q)
got_by_order P Greater u w d e q f g h = h q

pub got_member : (name : List ℕ) (ms : Members) (e : Data) → get_member name ms ≡ Some e → IsMember name e ms
got_member name no_members e h = absurd (true≢false (sym (ap is_some h)))
got_member name (member k d ms) e h =
    got_by_order (IsMember name e (member k d ms)) (slice_cmp nat_cmp name k) (get_member name ms) (get_member name ms) d e h (λ q. inr (got_member name ms e q)) (λ same q. inl (exact_bytes name k same, sym q)) (λ q. inr (got_member name ms e q))

-- ---- rows

absent_true : (k : Kind) (name : List ℕ) (ms : Members) → Requires k name → get_member name ms ≡ None → AllTrue k (object ms) (here (absent name))
absent_true k name ms needs none = here_true (absent name) (of_kind k) (object ms) (stands k (object ms)) (needs, (ms, refl, none))

row_member : (n : ObjectType) (r : Row) → IsRow r (table n) → (all : Members) (c : Check) (h : CheckTrue all r.name c) → HasToFit r.mark h.0 → AllTrue (named n) (object all) (under (at_name r.name) (c.1 r.kind))
row_member n r there all c h fit = under_true (at_name r.name) (named n) (object all) (of_kind r.kind) h.0 h.1 (r, there, refl, refl, fit) (c.1 r.kind) (h.2 r.kind)

-- of a row whose member may be null
null_or_member : (n : ObjectType) (r : Row) → IsRow r (table n) → (all : Members) (c : Check) (h : CheckTrue all r.name c) → (is_null h.0 ≡ false → HasToFit r.mark h.0) → (b : Bool) → c.0 ≡ b
    → AllTrue (named n) (object all) (cond b [] (under (at_name r.name) (c.1 r.kind)))
null_or_member n r there all c h fit true is = tt
null_or_member n r there all c h fit false is = row_member n r there all c h (fit (sym h.4 ∙ is))

row_true : (n : ObjectType) (r : Row) → IsRow r (table n) → (m : Mark) → r.mark ≡ m → (all : Members) (o : Option Check) (p : Option Data) → get_member r.name all ≡ p → Found all r.name o p → AllTrue (named n) (object all) (row_misfits m r.name r.kind o)
row_true n r there required is all None None e h = absent_true (named n) r.name all (r, there, refl, is) e
row_true n r there optional is all None None e h = tt
row_true n r there or_null is all None None e h = tt
row_true n r there defaulted is all None None e h = tt
row_true n r there m is all None (Some d) e h = absurd h
row_true n r there m is all (Some c) None e h = absurd h
row_true n r there required is all (Some c) (Some d) e h = row_member n r there all c h (subst (λ m. HasToFit m h.0) (sym is) tt)
row_true n r there optional is all (Some c) (Some d) e h = null_or_member n r there all c h (λ other. subst (λ m. HasToFit m h.0) (sym is) other) c.0 refl
row_true n r there or_null is all (Some c) (Some d) e h = null_or_member n r there all c h (λ other. subst (λ m. HasToFit m h.0) (sym is) other) c.0 refl
row_true n r there defaulted is all (Some c) (Some d) e h = row_member n r there all c h (subst (λ m. HasToFit m h.0) (sym is) tt)

rows_true : (n : ObjectType) (rs : List Row) → ((r : Row) → IsRow r rs → IsRow r (table n)) → (ms : Members) → MembersSound ms → AllTrue (named n) (object ms) (rows_misfits rs (checks ms))
rows_true n [] within ms h = tt
rows_true n (r ∷ rs) within ms h =
    join_true (of_kind (named n)) (object ms) (row_misfits r.mark r.name r.kind (check_at r.name (checks ms))) (rows_misfits rs (checks ms))
    (row_true n r (within r (inl refl)) r.mark refl ms (check_at r.name (checks ms)) (get_member r.name ms) refl (found_at ms r.name ms (λ n e there. there) h))
    (rows_true n rs (λ q there. within q (inr there)) ms h)

table_true : (n : ObjectType) (ms : Members) → MembersSound ms → AllTrue (named n) (object ms) (table_misfits n (checks ms))
table_true n ms h = rows_true n (table n) (λ r there. there) ms h

-- ---- maps

-- the kind is due at each name
abbrev pub AllDue : Kind → Kind → Checks → Type 0
AllDue outer k [] = Unit {0}
AllDue outer k (c ∷ cs) = ((t : Data) → IsDueBehind (at_name c.0) outer (of_kind k) t) × AllDue outer k cs

pub all_due : (outer k : Kind) → ((name : List ℕ) (t : Data) → IsDueBehind (at_name name) outer (of_kind k) t) → (cs : Checks) → AllDue outer k cs
all_due outer k f [] = tt
all_due outer k f (c ∷ cs) = (f c.0, all_due outer k f cs)

kept_due : (k : Kind) (b : Bool) (c : List ℕ × Check) (cs : Checks) → is_extension c.0 ≡ b → AllDue (entries_of k) k cs → AllDue (entries_of k) k (cond b cs (c ∷ cs))
kept_due k true c cs e h = h
kept_due k false c cs e h = (λ t. (e, refl), h)

pub entries_due : (k : Kind) (cs : Checks) → AllDue (entries_of k) k (entry_checks cs)
entries_due k [] = tt
entries_due k (c ∷ cs) = kept_due k (is_extension c.0) c (entry_checks cs) refl (entries_due k cs)

entries_true : (outer k : Kind) (all : Members) (cs : Checks) → AllDue outer k cs → ChecksTrue all cs → AllTrue outer (object all) (entries_misfits k cs)
entries_true outer k all [] due h = tt
entries_true outer k all (c ∷ cs) due h =
    join_true (of_kind outer) (object all) (under (at_name c.0) (c.1.1 k)) (entries_misfits k cs)
    (under_true (at_name c.0) outer (object all) (of_kind k) h.0.0 h.0.1 (due.0 h.0.0) (c.1.1 k) (h.0.2 k))
    (entries_true outer k all cs due.1 h.1)

kept_true : (all : Members) (b : Bool) (c : List ℕ × Check) (cs : Checks) → CheckTrue all c.0 c.1 → ChecksTrue all cs → ChecksTrue all (cond b cs (c ∷ cs))
kept_true all true c cs g h = h
kept_true all false c cs g h = (g, h)

entry_checks_true : (all : Members) (cs : Checks) → ChecksTrue all cs → ChecksTrue all (entry_checks cs)
entry_checks_true all [] h = tt
entry_checks_true all (c ∷ cs) h = kept_true all (is_extension c.0) c (entry_checks cs) h.0 (entry_checks_true all cs h.1)

-- ---- schemas

-- the tables of schemas, by four tests
schema_by : (a b c d : Bool) → is_schema_type (cond a one_of_schema (cond b all_of_schema (cond c any_of_schema (cond d array_schema object_schema)))) ≡ true
schema_by true b c d = refl
schema_by false true c d = refl
schema_by false false true d = refl
schema_by false false false true = refl
schema_by false false false false = refl

pub meant_is : (ms : Members) → is_schema_type (meant_schema ms) ≡ true
meant_is ms = schema_by (is_named (codes "oneOf") ms) (is_named (codes "allOf") ms) (is_named (codes "anyOf") ms) (is_named (codes "items") ms || is_named (codes "prefixItems") ms || says_array (get_member (codes "type") ms))

pub as_meant : (ms : Members) (xs : Misfits) → AllTrue (named (meant_schema ms)) (object ms) xs → AllTrue schema (object ms) xs
as_meant ms xs h = as_table (meant_schema ms) (object ms) (meant_is ms, inl refl) xs h

schema_true : (ms : Members) → MembersSound ms → AllTrue schema (object ms) (schema_misfits ms (checks ms))
unfolding checker
schema_true ms h =
    let meant = table_misfits (meant_schema ms) (checks ms) in
    let b = fits_schema ms (checks ms) in
    unless_true (of_kind schema) (object ms) b meant (schema ∷ [])
    (λ e. here_true (no_alternative (schema ∷ [])) (of_kind schema) (object ms) (stands schema (object ms)) (refl, (refused schema (object ms) (unless_fit-fit b meant (schema ∷ []) ∙ e), tt)))
    (as_meant ms meant (table_true (meant_schema ms) ms h))

-- ---- references

-- of a reference and another choice, where neither fits: the one that was meant
meant_true : (e : Due) (d : Data) (b : Bool) (rs ms : Misfits) (ks : List Kind) → (b ≡ true → AllTrueAt e d rs) → (b ≡ false → AllTrueAt e d ms) → AllTrueAt e d (unless_fit (is_fit rs || is_fit ms) (cond b rs ms) ks)
meant_true e d b [] ms ks g h = tt
meant_true e d b (r ∷ rs) [] ks g h = tt
meant_true e d true (r ∷ rs) (m ∷ ms) ks g h = g refl
meant_true e d false (r ∷ rs) (m ∷ ms) ks g h = h refl

ref_or_true : (outer k own : Kind) (ms : Members) (xs : Misfits) → ((j : Kind) → IsTakenAsReference (object ms) j → IsTakenAs outer (object ms) j) → ((j : Kind) → IsNoReference (object ms) → IsTakenAs own (object ms) j → IsTakenAs outer (object ms) j)
    → MembersSound ms → AllTrue own (object ms) xs → AllTrue outer (object ms) (ref_or_misfits k xs ms (checks ms))
ref_or_true outer k own ms xs as_reference as_other h f =
    let reference = table_misfits reference_object (checks ms) in
    meant_true (of_kind outer) (object ms) (is_named (codes "$ref") ms) reference xs (ref_or k ∷ [])
    (λ e. as_wider (named reference_object) outer (object ms) (λ j is. as_reference j (is, e)) reference (table_true reference_object ms h))
    (λ e. as_wider own outer (object ms) (λ j taken. as_other j (inl e) taken) xs f)

-- ---- security schemes

-- the alternatives of security schemes
abbrev is_scheme_kind : Kind → Bool
is_scheme_kind (named n) = true
is_scheme_kind api_key = true
is_scheme_kind k = false

abbrev all_schemes : List (List ℕ × Kind) → Type 0
all_schemes [] = Unit {0}
all_schemes (c ∷ cs) = (is_scheme_kind c.1 ≡ true) × all_schemes cs

abbrev kind_or : Option Kind → Kind → Kind
kind_or None k = k
kind_or (Some l) k = l

chosen_by : (b : Bool) (l k : Kind) (o : Option Kind) → is_scheme_kind l ≡ true → (o ≡ Some k → is_scheme_kind k ≡ true) → cond b (Some l) o ≡ Some k → is_scheme_kind k ≡ true
chosen_by true l k o g h e = subst (λ x. is_scheme_kind x ≡ true) (ap (λ p. kind_or p l) e) g
chosen_by false l k o g h e = h e

chosen_scheme : (s : List ℕ) (cs : List (List ℕ × Kind)) → all_schemes cs → (k : Kind) → chosen s cs ≡ Some k → is_scheme_kind k ≡ true
chosen_scheme s [] h k e = absurd (true≢false (sym (ap is_some e)))
chosen_scheme s (c ∷ cs) h k e = chosen_by (bytes_eq s c.0) c.1 k (chosen s cs) h.0 (chosen_scheme s cs h.1 k) e

-- an alternative of an API key is an object of a type
abbrev is_key_kind : Kind → Bool
is_key_kind (named n) = true
is_key_kind k = false

abbrev all_keys : List (List ℕ × Kind) → Type 0
all_keys [] = Unit {0}
all_keys (c ∷ cs) = (is_key_kind c.1 ≡ true) × all_keys cs

key_by : (b : Bool) (l k : Kind) (o : Option Kind) → is_key_kind l ≡ true → (o ≡ Some k → is_key_kind k ≡ true) → cond b (Some l) o ≡ Some k → is_key_kind k ≡ true
key_by true l k o g h e = subst (λ x. is_key_kind x ≡ true) (ap (λ p. kind_or p l) e) g
key_by false l k o g h e = h e

chosen_key : (s : List ℕ) (cs : List (List ℕ × Kind)) → all_keys cs → (k : Kind) → chosen s cs ≡ Some k → is_key_kind k ≡ true
chosen_key s [] h k e = absurd (true≢false (sym (ap is_some e)))
chosen_key s (c ∷ cs) h k e = key_by (bytes_eq s c.0) c.1 k (chosen s cs) h.0 (chosen_key s cs h.1 k) e

pub chooses_as : (name : List ℕ) (choices : List (List ℕ × Kind)) (t : Data) (k j : Kind) → Chooses name choices t k → j ≡ k → Chooses name choices t j
chooses_as name choices t k j h is = subst (λ l. Chooses name choices t l) (sym is) h

by_test : (b : Bool) (k : Kind) (o : Option Kind) (r : Bool) → (o ≡ None → r ≡ false) → cond b (Some k) o ≡ None → b || r ≡ false
by_test true k o r f e = absurd (true≢false (ap is_some e))
by_test false k o r f e = f e

not_chosen : (s : List ℕ) (cs : List (List ℕ × Kind)) → chosen s cs ≡ None → list_any (bytes_eq s) (words_of_choices cs) ≡ false
not_chosen s [] e = refl
not_chosen s (c ∷ cs) e = by_test (bytes_eq s c.0) c.1 (chosen s cs) (list_any (bytes_eq s) (words_of_choices cs)) (not_chosen s cs) e

chosen_true : (outer : Kind) (name s : List ℕ) (choices : List (List ℕ × Kind)) (f : Kind → Misfits) (ms : Members) (o : Option Kind) → chosen s choices ≡ o → ((t : Data) → IsDueBehind (at_name name) outer (of_words (words_of_choices choices)) t) → get_member name ms ≡ Some (string s)
    → ((k : Kind) → Chooses name choices (object ms) k → AllTrue outer (object ms) (f k)) → AllTrue outer (object ms) (chosen_misfits name choices f o)
chosen_true outer name s choices f ms None e due there h =
    let ws = words_of_choices choices in
    under_true (at_name name) outer (object ms) (of_words ws) (string s) (got_member name ms (string s) there) (due (string s)) (here (unknown_word ws)) (here_true (unknown_word ws) (of_words ws) (string s) refl (refl, (s, refl, not_chosen s choices e)))
chosen_true outer name s choices f ms (Some k) e due there h = h k (s, there, e)

no_text : (outer : Kind) (name : List ℕ) (ws : List (List ℕ)) (ms : Members) (d : Data) → ((t : Data) → IsDueBehind (at_name name) outer (of_words ws) t) → get_member name ms ≡ Some d → read text d ≡ None → is_container (sort d) text ≡ false → AllTrue outer (object ms) (under (at_name name) (here (expected text)))
no_text outer name ws ms d due e g h = under_true (at_name name) outer (object ms) (of_words ws) d (got_member name ms d e) (due d) (here (expected text)) (here_true (expected text) (of_words ws) d refl (refl, (g, h)))

tagged_true : (outer : Kind) (name : List ℕ) (choices : List (List ℕ × Kind)) (f : Kind → Misfits) (ms : Members) (o : Option Data) → get_member name ms ≡ o → Requires outer name → ((t : Data) → IsDueBehind (at_name name) outer (of_words (words_of_choices choices)) t)
    → ((k : Kind) → Chooses name choices (object ms) k → AllTrue outer (object ms) (f k)) → AllTrue outer (object ms) (tagged_misfits name choices f o)
unfolding reader
tagged_true outer name choices f ms None e needs due h = absent_true outer name ms needs e
tagged_true outer name choices f ms (Some null) e needs due h = no_text outer name (words_of_choices choices) ms null due e refl refl
tagged_true outer name choices f ms (Some (boolean b)) e needs due h = no_text outer name (words_of_choices choices) ms (boolean b) due e refl refl
tagged_true outer name choices f ms (Some (number n)) e needs due h =
    let ws = words_of_choices choices in
    under_true (at_name name) outer (object ms) (of_words ws) (number n) (got_member name ms (number n) e) (due (number n)) (here (mismatch text (number n))) (mismatch_true (of_words ws) text n refl refl (refl, refl) (is_float n) refl)
tagged_true outer name choices f ms (Some (string s)) e needs due h = chosen_true outer name s choices f ms (chosen s choices) refl due e h
tagged_true outer name choices f ms (Some (array ds)) e needs due h = no_text outer name (words_of_choices choices) ms (array ds) due e refl refl
tagged_true outer name choices f ms (Some (object l)) e needs due h = no_text outer name (words_of_choices choices) ms (object l) due e refl refl

key_kind : (ms : Members) (k : Kind) → Chooses (codes "in") api_key_places (object ms) k → is_key_kind k ≡ true
key_kind ms k h = chosen_key h.0 api_key_places (refl, (refl, (refl, tt))) k h.2

key_alternative : (ms : Members) → MembersSound ms → (k : Kind) → Chooses (codes "in") api_key_places (object ms) k → AllTrue api_key (object ms) (alternative_misfits (checks ms) k)
key_alternative ms h (named n) c = as_wider (named n) api_key (object ms) (λ j is. inr (chooses_as (codes "in") api_key_places (object ms) (named n) j c is)) (table_misfits n (checks ms)) (table_true n ms h)
key_alternative ms h k c = absurd (true≢false (sym (key_kind ms k c)))

api_key_true : (ms : Members) → MembersSound ms → AllTrue api_key (object ms) (api_key_misfits ms (checks ms))
api_key_true ms h = tagged_true api_key (codes "in") api_key_places (alternative_misfits (checks ms)) ms (get_member (codes "in") ms) refl refl (λ t. (refl, refl)) (key_alternative ms h)

scheme_kind : (ms : Members) (k : Kind) → Chooses (codes "type") scheme_types (object ms) k → is_scheme_kind k ≡ true
scheme_kind ms k h = chosen_scheme h.0 scheme_types (refl, (refl, (refl, (refl, (refl, tt))))) k h.2

scheme_true : (ms : Members) → MembersSound ms → (k : Kind) → Chooses (codes "type") scheme_types (object ms) k → AllTrue security_scheme (object ms) (scheme_misfits ms (checks ms) k)
scheme_true ms h api_key c = as_wider api_key security_scheme (object ms) (λ j taken. inr (inr (c, taken))) (api_key_misfits ms (checks ms)) (api_key_true ms h)
scheme_true ms h (named n) c = as_wider (named n) security_scheme (object ms) (λ j is. inr (inl (chooses_as (codes "type") scheme_types (object ms) (named n) j c is))) (table_misfits n (checks ms)) (table_true n ms h)
scheme_true ms h k c = absurd (true≢false (sym (scheme_kind ms k c)))

security_scheme_true : (ms : Members) → MembersSound ms → AllTrue security_scheme (object ms) (security_scheme_misfits ms (checks ms))
security_scheme_true ms h = tagged_true security_scheme (codes "type") scheme_types (scheme_misfits ms (checks ms)) ms (get_member (codes "type") ms) refl refl (λ t. (refl, refl)) (scheme_true ms h)

-- ---- flows

none_of_flows : (e : Data) (f : Kind → Misfits) (fs : List (List ℕ × ObjectType)) → ((k : Kind) → is_fit (f k) ≡ false → read k e ≡ None) → list_any (λ k. is_fit (f k)) (flow_kinds fs) ≡ false → IsNoneOf (flow_kinds fs) e
none_of_flows e f [] h g = tt
none_of_flows e f (c ∷ fs) h g =
    let p = or_no (is_fit (f (named c.1))) (list_any (λ k. is_fit (f k)) (flow_kinds fs)) g in
    (h (named c.1) p.0, none_of_flows e f fs h p.1)

flow_true : (o : Option ObjectType) (e : Data) (f : Kind → Misfits) → ((k : Kind) → AllTrue k e (f k)) → ((k : Kind) → is_fit (f k) ≡ false → read k e ≡ None) → AllTrueAt (flow_due o) e (flow_misfits o f)
flow_true (Some n) e f g h = g (named n)
flow_true None e f g h = unless_true of_any_flow e (list_any (λ k. is_fit (f k)) (flow_kinds flow_keys)) [] (flow_kinds flow_keys) (λ q. here_true (no_alternative (flow_kinds flow_keys)) of_any_flow e refl (refl, none_of_flows e f flow_keys h q)) tt

flows_true : (all : Members) (cs : Checks) → ChecksTrue all cs → AllTrue flows (object all) (flows_misfits cs)
flows_true all [] h = tt
flows_true all (c ∷ cs) h =
    let n = chosen c.0 flow_keys in
    join_true (of_kind flows) (object all) (under (at_name c.0) (flow_misfits n c.1.1)) (flows_misfits cs)
    (under_true (at_name c.0) flows (object all) (flow_due n) h.0.0 h.0.1 refl (flow_misfits n c.1.1) (flow_true n h.0.0 c.1.1 h.0.2 h.0.3))
    (flows_true all cs h.1)

-- ---- objects

all_checks : (ms : Members) → MembersSound ms → ChecksTrue ms (checks ms)
all_checks ms h = members_checks ms ms (λ n e there. there) h

object_true : (ms : Members) → MembersSound ms → (k : Kind) → AllTrue k (object ms) (object_misfits ms (checks ms) k)
unfolding reader checker
object_true ms h any = tt
object_true ms h (map_of k) = entries_true (map_of k) k ms (checks ms) (all_due (map_of k) k (λ n t. refl) (checks ms)) (all_checks ms h)
object_true ms h (ordered_map_of k) = entries_true (ordered_map_of k) k ms (checks ms) (all_due (ordered_map_of k) k (λ n t. refl) (checks ms)) (all_checks ms h)
object_true ms h (entries_of k) = entries_true (entries_of k) k ms (entry_checks (checks ms)) (entries_due k (checks ms)) (entry_checks_true ms (checks ms) (all_checks ms h))
object_true ms h (ref_or k) = ref_or_true (ref_or k) k k ms (object_misfits ms (checks ms) k) (λ j is. inr (inl is)) (λ j other taken. inr (inr (other, taken))) h (object_true ms h k)
object_true ms h (named n) = table_true n ms h
object_true ms h schema = schema_true ms h
object_true ms h array_items = ref_or_true array_items schema schema ms (schema_misfits ms (checks ms)) (λ j is. inr (inl is)) (λ j other taken. inr (inr (other, taken))) h (schema_true ms h)
object_true ms h additional_properties = ref_or_true additional_properties schema schema ms (schema_misfits ms (checks ms)) (λ j is. inr (inl is)) (λ j other taken. inr (inr (other, taken))) h (schema_true ms h)
object_true ms h security_scheme = security_scheme_true ms h
object_true ms h api_key = api_key_true ms h
object_true ms h flows = flows_true ms (checks ms) (all_checks ms h)
object_true ms h k = expected_true k (object ms) (refl, refl)

mutual
  unfolding checker

  tree_sound : (t : Data) → IsSound t
  tree_sound null = null_true
  tree_sound (boolean b) = boolean_true b
  tree_sound (number n) = number_true n
  tree_sound (string s) = string_true s
  tree_sound (array ds) = array_true ds (items_sound ds)
  tree_sound (object ms) = object_true ms (members_sound ms)

  items_sound : (ds : Items) → ItemsSound ds
  items_sound no_items = tt
  items_sound (item d ds) = (tree_sound d, items_sound ds)

  members_sound : (ms : Members) → MembersSound ms
  members_sound no_members = tt
  members_sound (member k d ms) = (tree_sound d, members_sound ms)

-- what does not fit a table is true, whichever it is
pub table_sound : (n : ObjectType) (ms : Members) → AllTrue (named n) (object ms) (table_misfits n (checks ms))
table_sound n ms = table_true n ms (members_sound ms)

-- each misfit is true
pub misfits_sound : (k : Kind) (t : Data) → AllTrue k t (misfits k t)
misfits_sound k t = tree_sound t k

-- ---- fractions

-- each is a fraction, wherever it stands
abbrev AreFractions : Data → Misfits → Type 0
AreFractions d [] = Unit {0}
AreFractions d (m ∷ ms) = ((m.1 ≡ fraction) × ((t : Data) × Reaches m.0 d t × IsFraction t)) × AreFractions d ms

join_fractions : (d : Data) (xs ys : Misfits) → AreFractions d xs → AreFractions d ys → AreFractions d (xs ++ ys)
join_fractions d [] ys g h = h
join_fractions d (x ∷ xs) ys g h = (g.0, join_fractions d xs ys g.1 h)

fractions_under : (s : Step) (d e : Data) → StandsIn s e d → (xs : Misfits) → AreFractions e xs → AreFractions d (under s xs)
fractions_under s d e there [] h = tt
fractions_under s d e there (x ∷ xs) h = ((h.0.0, (h.0.1.0, (e, there, h.0.1.1), h.0.1.2)), fractions_under s d e there xs h.1)

one_fraction : (n : Num) (b : Bool) → is_float n ≡ b → AreFractions (number n) (cond b (here fraction) [])
one_fraction n true e = ((refl, (number n, refl, (n, refl, e))), tt)
one_fraction n false e = tt

mutual
  unfolding fractions items_fractions members_fractions

  are_fractions : (t : Data) → AreFractions t (fractions t)
  are_fractions null = tt
  are_fractions (boolean b) = tt
  are_fractions (number n) = one_fraction n (is_float n) refl
  are_fractions (string s) = tt
  are_fractions (array ds) = items_are_fractions ds 0 ds (λ j e there. subst (λ n. get_item n ds ≡ Some e) (omega arith) there)
  are_fractions (object ms) = members_are_fractions ms ms (λ n e there. there)

  items_are_fractions : (all : Items) (i : ℕ) (ds : Items) → ((j : ℕ) (e : Data) → get_item j ds ≡ Some e → get_item (i + j) all ≡ Some e) → AreFractions (array all) (items_fractions i ds)
  items_are_fractions all i no_items within = tt
  items_are_fractions all i (item d ds) within =
      join_fractions (array all) (under (at_index i) (fractions d)) (items_fractions (suc i) ds)
      (fractions_under (at_index i) (array all) d (subst (λ n. get_item n all ≡ Some d) (omega arith) (within 0 d refl)) (fractions d) (are_fractions d))
      (items_are_fractions all (suc i) ds (λ j e there. subst (λ n. get_item n all ≡ Some e) (omega arith) (within (suc j) e there)))

  members_are_fractions : (all ms : Members) → ((n : List ℕ) (e : Data) → IsMember n e ms → IsMember n e all) → AreFractions (object all) (members_fractions ms)
  members_are_fractions all no_members within = tt
  members_are_fractions all (member name d ms) within =
      join_fractions (object all) (under (at_name name) (fractions d)) (members_fractions ms)
      (fractions_under (at_name name) (object all) d (within name d (inl (refl, refl))) (fractions d) (are_fractions d))
      (members_are_fractions all ms (λ n e there. within n e (inr there)))

fractions_true : (e : Due) (d : Data) (xs : Misfits) → AreFractions d xs → AllTrueAt e d xs
fractions_true e d [] h = tt
fractions_true e d (x ∷ xs) h = (subst (λ c. IsTrueAt c x.0 e d) (sym h.0.0) h.0.1, fractions_true e d xs h.1)

others_by : (e : Due) (d : Data) (b : Bool) (x : Misfit) (xs : Misfits) → IsTrueAt x.1 x.0 e d → AllTrueAt e d xs → AllTrueAt e d (cond b xs (x ∷ xs))
others_by e d true x xs g h = h
others_by e d false x xs g h = (g, h)

others_true : (e : Due) (d : Data) (xs : Misfits) → AllTrueAt e d xs → AllTrueAt e d (without_fractions xs)
others_true e d [] h = tt
others_true e d (x ∷ xs) h = others_by e d (is_fraction x.1) x (without_fractions xs) h.0 (others_true e d xs h.1)

-- each misfit and each fraction is true
pub misfits_and_fractions_sound : (k : Kind) (t : Data) → AllTrue k t (misfits_and_fractions k t)
misfits_and_fractions_sound k t = join_true (of_kind k) t (without_fractions (misfits k t)) (fractions t) (others_true (of_kind k) t (misfits k t) (misfits_sound k t)) (fractions_true (of_kind k) t (fractions t) (are_fractions t))

-- ---- misfits of a tree without fractions

in_items : (i : ℕ) (ds : Items) (e : Data) → get_item i ds ≡ Some e → has_float e ≡ true → items_have_float ds ≡ true
in_items i no_items e there h = absurd (true≢false (sym (ap is_some there)))
in_items zero (item d ds) e there h = or_first (has_float d) (items_have_float ds) (ap (λ o. float_or o false) there ∙ h)
in_items (suc i) (item d ds) e there h = or_second (has_float d) (items_have_float ds) (in_items i ds e there h)

in_members : (name : List ℕ) (ms : Members) (e : Data) → IsMember name e ms → has_float e ≡ true → members_have_float ms ≡ true
in_members name no_members e there h = absurd there
in_members name (member l d ms) e there h = elim there [
  | inl same ↦ or_first (has_float d) (members_have_float ms) (ap has_float (sym same.1) ∙ h)
  | inr later ↦ or_second (has_float d) (members_have_float ms) (in_members name ms e later h)
]

inside : (s : Step) (d e : Data) → StandsIn s e d → has_float e ≡ true → has_float d ≡ true
inside (at_name name) (object ms) e there h = in_members name ms e there h
inside (at_index i) (array ds) e there h = in_items i ds e there h
inside s d e there h = absurd there

-- a tree in which a fraction is reached has one
reached : (p : List Step) (d t : Data) → Reaches p d t → IsFraction t → has_float d ≡ true
reached [] d t same is = ap has_float (same ∙ is.1) ∙ is.2
reached (s ∷ p) d t h is = inside s d h.0 h.1 (reached p h.0 t h.2 is)

no_fraction : (c : Cause) (p : List Step) (e : Due) (d : Data) → has_float d ≡ false → IsTrueAt c p e d → is_fraction c ≡ false
no_fraction (absent name) p e d plain h = refl
no_fraction (expected k) p e d plain h = refl
no_fraction (unknown_word ws) p e d plain h = refl
no_fraction (no_alternative ks) p e d plain h = refl
no_fraction (unknown_name ns) p e d plain h = refl
no_fraction fraction p e d plain h = absurd (true≢false (sym (reached p d h.0 h.1 h.2) ∙ plain))

pub all_kept : (e : Due) (d : Data) → has_float d ≡ false → (xs : Misfits) → AllTrueAt e d xs → without_fractions xs ≡ xs
all_kept e d plain [] h = refl
all_kept e d plain (x ∷ xs) h = ap (λ b. cond b (without_fractions xs) (x ∷ without_fractions xs)) (no_fraction x.1 x.0 e d plain h.0) ∙ ap (λ ys. x ∷ ys) (all_kept e d plain xs h.1)

pub plain_kept : (k : Kind) (d : Data) → has_float d ≡ false → without_fractions (misfits k d) ≡ misfits k d
plain_kept k d plain = all_kept (of_kind k) d plain (misfits k d) (misfits_sound k d)

and_false : (a : Bool) → a && false ≡ false
and_false true = refl
and_false false = refl

exact_by : (k : Kind) (t : Data) (b : Bool) → has_float t ≡ b → is_fit (misfits_and_fractions k t) ≡ is_some (read k t) && not b
exact_by k t true e = join_fit (without_fractions (misfits k t)) (fractions t) ∙ ap (λ x. is_fit (without_fractions (misfits k t)) && x) (fractions_exact t ∙ ap not e) ∙ and_false (is_fit (without_fractions (misfits k t))) ∙ sym (and_false (is_some (read k t)))
exact_by k t false e = join_fit (without_fractions (misfits k t)) (fractions t) ∙ and_same (ap is_fit (plain_kept k t e) ∙ misfits_exact k t) (fractions_exact t ∙ ap not e)

-- a tree has no misfit and no fraction exactly where it is plain and reads as a document
pub misfits_and_fractions_exact : (k : Kind) (t : Data) → is_fit (misfits_and_fractions k t) ≡ is_some (read k t) && not (has_float t)
misfits_and_fractions_exact k t = exact_by k t (has_float t) refl
