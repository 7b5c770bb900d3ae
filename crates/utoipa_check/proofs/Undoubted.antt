-- A document of which nothing is in doubt is unambiguous.
use Rattle.std.proofs.Common.{◌≡◌, ◌&&◌, ◌||◌, ℕ, suc, ℤ, pos, negsuc, List, [], ◌∷◌, ◌++◌, Bool, true, false, not, cond, nat_cmp, nat_lt, ◌^◌, codes, Option, Some, None, IfSome, option_map, option_and_then, is_some, refl, sym, ap, subst, ◌∙◌, true≢false, Ordering, Less, Equal, Greater}
use Rattle.std.proofs.lemmas.Option.{IfSome_then}
use Rattle.std.specs.Cmp.Lexicographic.{slice_cmp}
use Rattle.std.specs.List.{list_any}
use Rattle.std.specs.Ordering.{match_ordering}
use Rattle.serde_json.specs.Data.{Num, Data, null, boolean, number, string, array, object, Items, no_items, item, Members, no_members, member}
use Rattle.serde_json.specs.Find.{as_integer, as_u64}
use Rattle.utoipa_base.specs.Kinds.{ObjectType, reference_object, one_of_schema, all_of_schema, any_of_schema, array_schema, object_schema, type_word, known_format, Kind, text, flag, whole, numeral, any, word_of, version, list_of, map_of, ordered_map_of, entries_of, ref_or, named, schema, schema_type, schema_format, array_items, additional_properties, security_scheme, api_key, flows, Mark, required, optional, or_null, defaulted, Row}
use Rattle.utoipa_base.specs.Words.{is_word}
use Rattle.utoipa_base.specs.Version.{read_version}
use Rattle.utoipa_base.specs.Choices.{chosen, scheme_types, api_key_places, flow_keys, schema_keywords}
use Rattle.utoipa_base.specs.Docs.{Doc, int_doc, uint_doc, whole_doc, word_doc, types_doc, none_doc, some_doc, ref_doc, own_doc, schema_doc, tagged_doc, flow_doc, list_doc, map_doc, ordered_map_doc, entries_doc, table_doc, Docs, Entries, no_entries, entry}
use Rattle.utoipa_base.specs.ByName.{put_entry, put_entries, by_name}
use Rattle.utoipa_base.specs.Tables.{table, has_extensions}
use Rattle.utoipa_base.specs.Extensions.{is_extension, all_extensions, extension_members, extensions_of, some_if_any}
use Rattle.utoipa_base.specs.Reading.{both, both_entries, or_else, only_if, Part, Parts, part, entry_parts, empty_doc, fits, read_rows, read_table, read_items, read_entries, is_named, read_schema, read_ref_or, text_at, read_alternative, read_api_key, read_scheme, read_flow, read_flows, read_null, read_boolean, numeral_doc, read_number, read_word, read_format, read_string, read_array, read_object, reader, item_readers, parts, read}
use Rattle.utoipa_base.specs.Writing.{write}
use Rattle.utoipa_base.specs.WellFormed.{AllExtensions, names_no_extension, KeyOf, IsNoReference, IsUnambiguous, AreUnambiguous, AreUnambiguousEntries, ReadsAs, IsWellFormed}
use Rattle.utoipa_base.proofs.BoolFacts.{and_first, and_second}
use Rattle.utoipa_base.proofs.Plain.{read_plain}
use Rattle.utoipa_base.proofs.Results.{if_is, if_map, if_made, if_else, by_order}
use Rattle.utoipa_check.specs.Doubts.{row_doubts, rows_doubts, meant_doubts, reference_doubts, array_doubts, alternative_doubts, api_key_doubts, scheme_doubts, flow_doubts, flows_doubts, own_doubts, object_doubts, doubter, item_doubters, doubters, doubts}
use Rattle.utoipa_check.specs.Misfits.{Step, at_name, at_index, Cause, Misfits, here, under, is_fit, Check, Checks, check_at, entry_checks, items_misfits, entries_misfits, flow_misfits, table_misfits, object_misfits, meant_schema, checker, checks}
use Rattle.utoipa_check.specs.Taken.{taken_schema}
use Rattle.utoipa_check.specs.Views.{takes_references, object_kind}
use Rattle.utoipa_check.proofs.Exact.{Agree, ChecksAgree, flow_agrees, members_agree, misfits_exact}
use Rattle.utoipa_check.proofs.Unreferred.{NoTextAt, unreferred}

-- ---- no misfits

under_none : (s : Step) (xs : Misfits) → under s xs ≡ [] → xs ≡ []
under_none s [] e = refl
under_none s (x ∷ xs) e = absurd (true≢false (sym (ap is_fit e)))

join_none : (xs ys : Misfits) → xs ++ ys ≡ [] → (xs ≡ []) × (ys ≡ [])
join_none [] ys e = (refl, e)
join_none (x ∷ xs) ys e = absurd (true≢false (sym (ap is_fit e)))

joined_none : (xs ys : Misfits) → xs ≡ [] → ys ≡ [] → xs ++ ys ≡ []
joined_none xs ys e f = ap (λ zs. zs ++ ys) e ∙ f

-- ---- what is read

-- unambiguous, and under any name
abbrev Clear : Doc → Type 0
Clear d = IsUnambiguous d × ((key : List ℕ) → KeyOf key d)

-- and where a reference may stand
abbrev Own : Doc → Type 0
Own d = Clear d × IsNoReference (write d)

-- unambiguous as a flow of a type, under a name that chooses it
abbrev IsFlowOf : ObjectType → Doc → Type 0
IsFlowOf n d = (key : List ℕ) → chosen key flow_keys ≡ Some n → KeyOf key (flow_doc d)

clear_only : (o : Option Doc) → IfSome o Own → IfSome o Clear
clear_only o h = IfSome_then o h (λ d p. p.0)

unambiguous_only : (o : Option Doc) → IfSome o Clear → IfSome o IsUnambiguous
unambiguous_only o h = IfSome_then o h (λ d p. p.0)

both_if : {A : Type 0} (P Q : A → Type 0) (o : Option A) → IfSome o P → IfSome o Q → IfSome o (λ x. P x × Q x)
both_if P Q None g h = tt
both_if P Q (Some x) g h = (g, h)

none_if : {A : Type 0} (P : A → Type 0) (o : Option A) → is_some o ≡ false → IfSome o P
none_if P None e = tt
none_if P (Some x) e = absurd (true≢false e)

-- the kinds in whose trees nothing is in doubt
abbrev is_quiet : Kind → Bool
is_quiet text = true
is_quiet flag = true
is_quiet any = true
is_quiet (word_of v) = true
is_quiet k = false

-- what is in doubt in a tree, and what it reads as
abbrev Sure : (Kind → Misfits) → (Kind → Option Doc) → Type 0
Sure c r = ((k : Kind) → c k ≡ [] → IfSome (r k) Clear) × ((k : Kind) → is_quiet k ≡ true → c k ≡ []) × ((n : ObjectType) → IfSome (r (named n)) (IsFlowOf n))

abbrev AllSure : List (Kind → Misfits) → List (Kind → Option Doc) → Type 0
AllSure [] [] = Unit {0}
AllSure [] (r ∷ rs) = ⊥
AllSure (c ∷ cs) [] = ⊥
AllSure (c ∷ cs) (r ∷ rs) = Sure c r × AllSure cs rs

abbrev ChecksSure : Checks → Parts → Type 0
ChecksSure [] [] = Unit {0}
ChecksSure [] (p ∷ ps) = ⊥
ChecksSure (c ∷ cs) [] = ⊥
ChecksSure (c ∷ cs) (p ∷ ps) = (c.0 ≡ p.0) × Sure c.1.1 p.1.1 × ChecksSure cs ps

abbrev MaybeSure : Option Check → Option Part → Type 0
MaybeSure None None = Unit {0}
MaybeSure None (Some p) = ⊥
MaybeSure (Some c) None = ⊥
MaybeSure (Some c) (Some p) = Sure c.1 p.1

-- ---- trees that are neither arrays nor objects

own_made : (o : Option Doc) → IfSome o Own → IfSome (option_map own_doc o) Own
unfolding IsUnambiguous write
own_made o h = if_map Own Own own_doc (λ d p. (((p.0.0, p.1), λ key. tt), p.1)) o h

null_own : (k : Kind) → IfSome (read_null k) Own
unfolding IsUnambiguous write
null_own any = ((tt, λ key. tt), refl)
null_own schema_type = ((tt, λ key. tt), refl)
null_own (ref_or k) = own_made (read_null k) (null_own k)
null_own k = tt

boolean_own : (b : Bool) (k : Kind) → IfSome (read_boolean b k) Own
unfolding IsUnambiguous write
boolean_own b flag = ((tt, λ key. tt), refl)
boolean_own b any = ((tt, λ key. tt), refl)
boolean_own b additional_properties = ((tt, λ key. tt), refl)
boolean_own true array_items = tt
boolean_own false array_items = ((tt, λ key. tt), refl)
boolean_own b (ref_or k) = own_made (read_boolean b k) (boolean_own b k)
boolean_own b k = tt

numeral_by : (b : Bool) (z : ℤ) (n : ℕ) → Own (cond b (int_doc z) (uint_doc n))
unfolding IsUnambiguous write
numeral_by true z n = ((tt, λ key. tt), refl)
numeral_by false z n = ((tt, λ key. tt), refl)

numeral_own : (z : ℤ) → Own (numeral_doc z)
unfolding IsUnambiguous write
numeral_own (pos n) = numeral_by (nat_lt n (2 ^ 63)) (pos n) n
numeral_own (negsuc n) = ((tt, λ key. tt), refl)

number_own : (n : Num) (k : Kind) → IfSome (read_number n k) Own
unfolding IsUnambiguous write
number_own n whole = if_made Own whole_doc (λ m. ((tt, λ key. tt), refl)) (as_u64 n)
number_own n numeral = if_made Own numeral_doc numeral_own (as_integer n)
number_own n any = ((tt, λ key. tt), refl)
number_own n (ref_or k) = own_made (read_number n k) (number_own n k)
number_own n k = tt

word_own : (b : Bool) (s : List ℕ) → IfSome (read_word b s) Own
unfolding IsUnambiguous write
word_own true s = ((tt, λ key. tt), refl)
word_own false s = tt

format_own : (b : Bool) (s : List ℕ) → Own (read_format b s)
unfolding IsUnambiguous write
format_own true s = ((tt, λ key. tt), refl)
format_own false s = ((tt, λ key. tt), refl)

string_own : (s : List ℕ) (k : Kind) → IfSome (read_string s k) Own
unfolding IsUnambiguous write
string_own s text = ((tt, λ key. tt), refl)
string_own s any = ((tt, λ key. tt), refl)
string_own s (word_of v) = word_own (is_word v s) s
string_own s version = if_made Own word_doc (λ x. ((tt, λ key. tt), refl)) (read_version s)
string_own s schema_type = word_own (is_word type_word s) s
string_own s schema_format = format_own (is_word known_format s) s
string_own s (ref_or k) = own_made (read_string s k) (string_own s k)
string_own s k = tt

-- ---- arrays

both_clear : (o : Option Doc) (p : Option Docs) → IfSome o IsUnambiguous → IfSome p AreUnambiguous → IfSome (both o p) AreUnambiguous
unfolding AreUnambiguous
both_clear None p g h = tt
both_clear (Some d) None g h = tt
both_clear (Some d) (Some ds) g h = (g, h)

items_clear : (k : Kind) (i : ℕ) (cs : List (Kind → Misfits)) (rs : List (Kind → Option Doc)) → AllSure cs rs → items_misfits i k cs ≡ [] → IfSome (read_items k rs) AreUnambiguous
unfolding AreUnambiguous
items_clear k i [] [] h e = tt
items_clear k i [] (r ∷ rs) h e = absurd h
items_clear k i (c ∷ cs) [] h e = absurd h
items_clear k i (c ∷ cs) (r ∷ rs) h e =
    let none = join_none (under (at_index i) (c k)) (items_misfits (suc i) k cs) e in
    both_clear (r k) (read_items k rs) (unambiguous_only (r k) (h.0.0 k (under_none (at_index i) (c k) none.0))) (items_clear k (suc i) cs rs h.1 none.1)

items_quiet : (k : Kind) → is_quiet k ≡ true → (i : ℕ) (cs : List (Kind → Misfits)) (rs : List (Kind → Option Doc)) → AllSure cs rs → items_misfits i k cs ≡ []
items_quiet k q i [] [] h = refl
items_quiet k q i [] (r ∷ rs) h = absurd h
items_quiet k q i (c ∷ cs) [] h = absurd h
items_quiet k q i (c ∷ cs) (r ∷ rs) h = joined_none (under (at_index i) (c k)) (items_misfits (suc i) k cs) (ap (under (at_index i)) (h.0.1 k q)) (items_quiet k q (suc i) cs rs h.1)

array_own : (ds : Items) (cs : List (Kind → Misfits)) (rs : List (Kind → Option Doc)) → AllSure cs rs → (k : Kind) → array_doubts cs k ≡ [] → IfSome (read_array ds rs k) Own
unfolding IsUnambiguous write
array_own ds cs rs h any e = ((tt, λ key. tt), refl)
array_own ds cs rs h (list_of k) e = if_map AreUnambiguous Own list_doc (λ xs p. ((p, λ key. tt), refl)) (read_items k rs) (items_clear k 0 cs rs h e)
array_own ds cs rs h schema_type e =
    if_map AreUnambiguous Own (λ ws. types_doc (list_doc ws)) (λ ws p. ((p, λ key. tt), refl)) (read_items (word_of type_word) rs) (items_clear (word_of type_word) 0 cs rs h (items_quiet (word_of type_word) refl 0 cs rs h))
array_own ds cs rs h (ref_or k) e = own_made (read_array ds rs k) (array_own ds cs rs h k e)
array_own ds cs rs h k e = tt

array_quiet : (cs : List (Kind → Misfits)) (k : Kind) → is_quiet k ≡ true → array_doubts cs k ≡ []
array_quiet cs (list_of k) q = absurd (true≢false (sym q))
array_quiet cs (ref_or k) q = absurd (true≢false (sym q))
array_quiet cs k q = refl

-- ---- rows

by_order_sure : (o : Ordering) (x z : Option Check) (y : Check) (u w : Option Part) (v : Part) → MaybeSure x u → Sure y.1 v.1 → MaybeSure z w → MaybeSure (match_ordering o x (Some y) z) (match_ordering o u (Some v) w)
by_order_sure Less x z y u w v f g h = f
by_order_sure Equal x z y u w v f g h = g
by_order_sure Greater x z y u w v f g h = h

at_sure : (name : List ℕ) (cs : Checks) (ps : Parts) → ChecksSure cs ps → MaybeSure (check_at name cs) (part name ps)
at_sure name [] [] h = tt
at_sure name [] (p ∷ ps) h = absurd h
at_sure name (c ∷ cs) [] h = absurd h
at_sure name (c ∷ cs) (p ∷ ps) h =
    subst (λ l. MaybeSure (match_ordering (slice_cmp nat_cmp name l) (check_at name cs) (Some c.1) (check_at name cs)) (part name (p ∷ ps))) (sym h.0)
    (by_order_sure (slice_cmp nat_cmp name p.0) (check_at name cs) (check_at name cs) c.1 (part name ps) (part name ps) p.1 (at_sure name cs ps h.2) h.1 (at_sure name cs ps h.2))

empty_clear : (k : Kind) → IsUnambiguous (empty_doc k)
unfolding IsUnambiguous AreUnambiguous AreUnambiguousEntries
empty_clear text = tt
empty_clear flag = tt
empty_clear (list_of k) = tt
empty_clear (map_of k) = tt
empty_clear (ordered_map_of k) = tt
empty_clear schema_type = tt
empty_clear k = tt

some_clear : (b : Bool) (o : Option Doc) → IfSome o IsUnambiguous → IfSome (cond b (Some none_doc) (option_map some_doc o)) IsUnambiguous
unfolding IsUnambiguous
some_clear true o h = tt
some_clear false o h = if_map IsUnambiguous IsUnambiguous some_doc (λ d p. p) o h

-- the field of a row in whose member nothing is in doubt
field_clear : (m : Mark) (name : List ℕ) (k : Kind) (c : Option Check) (p : Option Part) → MaybeSure c p → row_doubts name k c ≡ [] → IfSome (fits m k p) IsUnambiguous
unfolding IsUnambiguous
field_clear required name k None None h e = tt
field_clear optional name k None None h e = tt
field_clear or_null name k None None h e = tt
field_clear defaulted name k None None h e = empty_clear k
field_clear m name k None (Some p) h e = absurd h
field_clear m name k (Some c) None h e = absurd h
field_clear required name k (Some c) (Some p) h e = unambiguous_only (p.1 k) (h.0 k (under_none (at_name name) (c.1 k) e))
field_clear optional name k (Some c) (Some p) h e = some_clear p.0 (p.1 k) (unambiguous_only (p.1 k) (h.0 k (under_none (at_name name) (c.1 k) e)))
field_clear or_null name k (Some c) (Some p) h e = some_clear p.0 (p.1 k) (unambiguous_only (p.1 k) (h.0 k (under_none (at_name name) (c.1 k) e)))
field_clear defaulted name k (Some c) (Some p) h e = unambiguous_only (p.1 k) (h.0 k (under_none (at_name name) (c.1 k) e))

rows_clear : (rs : List Row) (cs : Checks) (ps : Parts) → ChecksSure cs ps → rows_doubts rs cs ≡ [] → IfSome (read_rows rs ps) AreUnambiguous
unfolding AreUnambiguous
rows_clear [] cs ps h e = tt
rows_clear (r ∷ rs) cs ps h e =
    let none = join_none (row_doubts r.name r.kind (check_at r.name cs)) (rows_doubts rs cs) e in
    both_clear (fits r.mark r.kind (part r.name ps)) (read_rows rs ps) (field_clear r.mark r.name r.kind (check_at r.name cs) (part r.name ps) (at_sure r.name cs ps h) none.0) (rows_clear rs cs ps h none.1)

kept_all : (b : Bool) (k : List ℕ) (d : Data) (ms : Members) → is_extension k ≡ b → all_extensions ms ≡ true → all_extensions (cond b (member k d ms) ms) ≡ true
kept_all true k d ms is h = ap (λ b. b && all_extensions ms) is ∙ h
kept_all false k d ms is h = h

members_all : (ms : Members) → all_extensions (extension_members ms) ≡ true
members_all no_members = refl
members_all (member k d ms) = kept_all (is_extension k) k d (extension_members ms) refl (members_all ms)

some_all : (ms : Members) → all_extensions ms ≡ true → AllExtensions (some_if_any ms)
some_all no_members h = refl
some_all (member k d ms) h = h

extensions_all : (kept : Bool) (ms : Members) → AllExtensions (extensions_of kept ms)
extensions_all true ms = some_all (extension_members ms) (members_all ms)
extensions_all false ms = refl

table_clear : (n : ObjectType) (ms : Members) (cs : Checks) (ps : Parts) → ChecksSure cs ps → rows_doubts (table n) cs ≡ [] → IfSome (read_table n ms ps) Clear
unfolding IsUnambiguous
table_clear n ms cs ps h e =
    if_map AreUnambiguous Clear (λ ds. table_doc n ds (extensions_of (has_extensions n) ms)) (λ ds p. ((p, extensions_all (has_extensions n) ms), λ key. tt)) (read_rows (table n) ps) (rows_clear (table n) cs ps h e)

-- a reference has members in which nothing is in doubt
abbrev all_quiet : List Row → Bool
all_quiet [] = true
all_quiet (r ∷ rs) = is_quiet r.kind && all_quiet rs

row_quiet : (name : List ℕ) (k : Kind) (c : Option Check) (p : Option Part) → MaybeSure c p → is_quiet k ≡ true → row_doubts name k c ≡ []
row_quiet name k None p h q = refl
row_quiet name k (Some c) None h q = absurd h
row_quiet name k (Some c) (Some p) h q = ap (under (at_name name)) (h.1 k q)

rows_quiet : (rs : List Row) (cs : Checks) (ps : Parts) → ChecksSure cs ps → all_quiet rs ≡ true → rows_doubts rs cs ≡ []
rows_quiet [] cs ps h q = refl
rows_quiet (r ∷ rs) cs ps h q =
    joined_none (row_doubts r.name r.kind (check_at r.name cs)) (rows_doubts rs cs) (row_quiet r.name r.kind (check_at r.name cs) (part r.name ps) (at_sure r.name cs ps h) (and_first _ _ q)) (rows_quiet rs cs ps h (and_second _ _ q))

reference_clear : (ms : Members) (cs : Checks) (ps : Parts) → ChecksSure cs ps → IfSome (read_table reference_object ms ps) Clear
reference_clear ms cs ps h = table_clear reference_object ms cs ps h (rows_quiet (table reference_object) cs ps h refl)

-- ---- maps

abbrev EntriesClear : Entries → Type 0
EntriesClear no_entries = Unit {0}
EntriesClear (entry k d es) = Clear d × EntriesClear es

entries_unambiguous : (es : Entries) → EntriesClear es → AreUnambiguousEntries es
unfolding AreUnambiguousEntries
entries_unambiguous no_entries h = tt
entries_unambiguous (entry k d es) h = (h.0.0, h.0.1 k, entries_unambiguous es h.1)

put_clear : (k : List ℕ) (d : Doc) (es : Entries) → Clear d → EntriesClear es → EntriesClear (put_entry k d es)
put_clear k d no_entries g h = (g, tt)
put_clear k d (entry l e es) g h = by_order EntriesClear (slice_cmp nat_cmp k l) (entry k d (entry l e es)) (entry l d es) (entry l e (put_entry k d es)) (g, h) (g, h.1) (h.0, put_clear k d es g h.1)

puts_clear : (es fs : Entries) → EntriesClear es → EntriesClear fs → EntriesClear (put_entries es fs)
puts_clear no_entries fs g h = h
puts_clear (entry k d es) fs g h = puts_clear es (put_entry k d fs) g.1 (put_clear k d fs g.0 h)

both_entries_clear : (k : List ℕ) (o : Option Doc) (p : Option Entries) → IfSome o Clear → IfSome p EntriesClear → IfSome (both_entries k o p) EntriesClear
both_entries_clear k None p g h = tt
both_entries_clear k (Some d) None g h = tt
both_entries_clear k (Some d) (Some es) g h = (g, h)

entries_clear : (k : Kind) (cs : Checks) (ps : Parts) → ChecksSure cs ps → entries_misfits k cs ≡ [] → IfSome (read_entries k ps) EntriesClear
entries_clear k [] [] h e = tt
entries_clear k [] (p ∷ ps) h e = absurd h
entries_clear k (c ∷ cs) [] h e = absurd h
entries_clear k (c ∷ cs) (p ∷ ps) h e =
    let none = join_none (under (at_name c.0) (c.1.1 k)) (entries_misfits k cs) e in
    both_entries_clear p.0 (p.1.1 k) (read_entries k ps) (h.1.0 k (under_none (at_name c.0) (c.1.1 k) none.0)) (entries_clear k cs ps h.2 none.1)

kept_sure : (b : Bool) (c : List ℕ × Check) (p : List ℕ × Part) (cs : Checks) (ps : Parts) → c.0 ≡ p.0 → Sure c.1.1 p.1.1 → ChecksSure cs ps → ChecksSure (cond b cs (c ∷ cs)) (cond b ps (p ∷ ps))
kept_sure true c p cs ps e f h = h
kept_sure false c p cs ps e f h = (e, f, h)

entry_checks_sure : (cs : Checks) (ps : Parts) → ChecksSure cs ps → ChecksSure (entry_checks cs) (entry_parts ps)
entry_checks_sure [] [] h = tt
entry_checks_sure [] (p ∷ ps) h = absurd h
entry_checks_sure (c ∷ cs) [] h = absurd h
entry_checks_sure (c ∷ cs) (p ∷ ps) h =
    subst (λ b. ChecksSure (cond b (entry_checks cs) (c ∷ entry_checks cs)) (cond (is_extension p.0) (entry_parts ps) (p ∷ entry_parts ps))) (ap is_extension (sym h.0))
    (kept_sure (is_extension p.0) c p (entry_checks cs) (entry_parts ps) h.0 h.1 (entry_checks_sure cs ps h.2))

-- no part's name is an extension's
abbrev NamesNone : Parts → Type 0
NamesNone [] = Unit {0}
NamesNone (p ∷ ps) = (is_extension p.0 ≡ false) × NamesNone ps

kept_none : (b : Bool) (p : List ℕ × Part) (ps : Parts) → is_extension p.0 ≡ b → NamesNone ps → NamesNone (cond b ps (p ∷ ps))
kept_none true p ps is h = h
kept_none false p ps is h = (is, h)

entry_parts_none : (ps : Parts) → NamesNone (entry_parts ps)
entry_parts_none [] = tt
entry_parts_none (p ∷ ps) = kept_none (is_extension p.0) p (entry_parts ps) refl (entry_parts_none ps)

abbrev FreeOfExtensions : Entries → Type 0
FreeOfExtensions es = names_no_extension es ≡ true

both_free : (k : List ℕ) (o : Option Doc) (p : Option Entries) → is_extension k ≡ false → IfSome p FreeOfExtensions → IfSome (both_entries k o p) FreeOfExtensions
both_free k None p is h = tt
both_free k (Some d) None is h = tt
both_free k (Some d) (Some es) is h = ap (λ b. not b && names_no_extension es) is ∙ h

entries_free : (k : Kind) (ps : Parts) → NamesNone ps → IfSome (read_entries k ps) FreeOfExtensions
entries_free k [] h = refl
entries_free k (p ∷ ps) h = both_free p.0 (p.1.1 k) (read_entries k ps) h.0 (entries_free k ps h.1)

-- ---- schemas

-- the first table that fits is the one that is read
first_taken : (Q : ObjectType → Type 0) (n m : ObjectType) (a : Bool) (o rest : Option Doc) → a ≡ is_some o → (Q n → IfSome o Clear) → (Q m → IfSome rest Clear) → Q (cond a n m) → IfSome (or_else o rest) Clear
first_taken Q n m a None rest e f g q = g (subst (λ b. Q (cond b n m)) e q)
first_taken Q n m a (Some d) rest e f g q = f (subst (λ b. Q (cond b n m)) e q)

last_some : (Q : ObjectType → Type 0) (meant : ObjectType) (typed bare f : Bool) (d : Doc) → f ≡ true → (Q object_schema → Clear d) → Q (cond (typed || bare) (cond f object_schema meant) meant)
    → IfSome (or_else (only_if typed (Some d)) (only_if bare (Some d))) Clear
last_some Q meant true bare f d e h q = h (subst (λ b. Q (cond b object_schema meant)) e q)
last_some Q meant false true f d e h q = h (subst (λ b. Q (cond b object_schema meant)) e q)
last_some Q meant false false f d e h q = tt

last_none : (typed bare : Bool) → IfSome (or_else (only_if typed None) (only_if bare None)) Clear
last_none true true = tt
last_none true false = tt
last_none false true = tt
last_none false false = tt

last_taken : (Q : ObjectType → Type 0) (meant : ObjectType) (typed bare f : Bool) (own : Option Doc) → f ≡ is_some own → (Q object_schema → IfSome own Clear) → Q (cond (typed || bare) (cond f object_schema meant) meant)
    → IfSome (or_else (only_if typed own) (only_if bare own)) Clear
last_taken Q meant typed bare f None e h q = last_none typed bare
last_taken Q meant typed bare f (Some d) e h q = last_some Q meant typed bare f d e h q

-- what a tree does not fit it does not read as
agrees : (ms : Members) (k : Kind) → is_fit (object_misfits ms (checks ms) k) ≡ is_some (read_object ms (parts ms) k)
unfolding checker reader
agrees ms k = misfits_exact k (object ms)

schema_clear : (ms : Members) (ds : Checks) → ChecksSure ds (parts ms) → rows_doubts (table (taken_schema ms (checks ms))) ds ≡ [] → IfSome (read_schema ms (parts ms)) Clear
unfolding IsUnambiguous
schema_clear ms ds h e =
    let ps = parts ms in
    let meant = meant_schema ms in
    let Q : ObjectType → Type 0 = λ n. rows_doubts (table n) ds ≡ [] in
    let clear : (n : ObjectType) → Q n → IfSome (read_table n ms ps) Clear = λ n q. table_clear n ms ds ps h q in
    let typed = is_named (codes "type") ms in
    let bare = not (list_any (λ name. is_named name ms) schema_keywords) in
    if_map Clear Clear schema_doc (λ d p. (p.0, λ key. tt)) _
    (first_taken Q one_of_schema _ _ (read_table one_of_schema ms ps) _ (agrees ms (named one_of_schema)) (clear one_of_schema)
    (first_taken Q all_of_schema _ _ (read_table all_of_schema ms ps) _ (agrees ms (named all_of_schema)) (clear all_of_schema)
    (first_taken Q any_of_schema _ _ (read_table any_of_schema ms ps) _ (agrees ms (named any_of_schema)) (clear any_of_schema)
    (first_taken Q array_schema _ _ (read_table array_schema ms ps) _ (agrees ms (named array_schema)) (clear array_schema)
    (last_taken Q meant typed bare _ (read_table object_schema ms ps) (agrees ms (named object_schema)) (clear object_schema)))))
    e)

-- ---- security schemes and flows

alternative_clear : (ms : Members) (ds : Checks) → ChecksSure ds (parts ms) → (k : Kind) → alternative_doubts (Some k) ds ≡ [] → IfSome (read_alternative ms (parts ms) k) Clear
alternative_clear ms ds h (named n) e = table_clear n ms ds (parts ms) h e
alternative_clear ms ds h k e = tt

chosen_clear : (name word : List ℕ) (g : Option Kind → Misfits) (f : Kind → Option Doc) (o : Option Kind) → ((k : Kind) → g (Some k) ≡ [] → IfSome (f k) Clear) → g o ≡ []
    → IfSome (option_and_then (λ k. option_map (tagged_doc name word) (f k)) o) Clear
unfolding IsUnambiguous
chosen_clear name word g f None h e = tt
chosen_clear name word g f (Some k) h e = if_map Clear Clear (tagged_doc name word) (λ d p. (p.0, λ key. tt)) (f k) (h k e)

worded_clear : (name : List ℕ) (choices : List (List ℕ × Kind)) (g : Option Kind → Misfits) (f : Kind → Option Doc) (o : Option (List ℕ)) → ((k : Kind) → g (Some k) ≡ [] → IfSome (f k) Clear) → g (option_and_then (λ word. chosen word choices) o) ≡ []
    → IfSome (option_and_then (λ word. option_and_then (λ k. option_map (tagged_doc name word) (f k)) (chosen word choices)) o) Clear
worded_clear name choices g f None h e = tt
worded_clear name choices g f (Some word) h e = chosen_clear name word g f (chosen word choices) h e

api_key_clear : (ms : Members) (ds : Checks) → ChecksSure ds (parts ms) → api_key_doubts ms ds ≡ [] → IfSome (read_api_key ms (parts ms)) Clear
api_key_clear ms ds h e = worded_clear (codes "in") api_key_places (λ o. alternative_doubts o ds) (read_alternative ms (parts ms)) (text_at (codes "in") ms) (alternative_clear ms ds h) e

scheme_clear : (ms : Members) (ds : Checks) → ChecksSure ds (parts ms) → (k : Kind) → scheme_doubts (Some k) ms ds ≡ [] → IfSome (read_scheme ms (parts ms) k) Clear
scheme_clear ms ds h api_key e = api_key_clear ms ds h e
scheme_clear ms ds h (named n) e = table_clear n ms ds (parts ms) h e
scheme_clear ms ds h k e = tt

flow_made : (n : ObjectType) (key : List ℕ) → chosen key flow_keys ≡ Some n → (o : Option Doc) → IfSome o Clear → IfSome o (IsFlowOf n) → IfSome (option_map flow_doc o) (λ d. IsUnambiguous d × KeyOf key d)
unfolding IsUnambiguous
flow_made n key is None g h = tt
flow_made n key is (Some d) g h = (g.0, h key is)

unknown_none : (b : Bool) (c : Cause) → cond b (here c) [] ≡ [] → b ≡ false
unknown_none true c e = absurd (true≢false (sym (ap is_fit e)))
unknown_none false c e = refl

flow_clear : (key : List ℕ) (o : Option ObjectType) → chosen key flow_keys ≡ o → (c d : Kind → Misfits) (r : Kind → Option Doc) → Agree c r → Sure d r → flow_doubts o c d ≡ [] → IfSome (read_flow o r) (λ x. IsUnambiguous x × KeyOf key x)
flow_clear key (Some n) is c d r a h e = flow_made n key is (r (named n)) (h.0 (named n) e) (h.2 n)
flow_clear key None is c d r a h e = none_if (λ x. IsUnambiguous x × KeyOf key x) (read_flow None r) (sym (flow_agrees None c r a) ∙ unknown_none (is_fit (flow_misfits None c)) _ e)

both_flows : (k : List ℕ) (o : Option Doc) (p : Option Entries) → IfSome o (λ x. IsUnambiguous x × KeyOf k x) → IfSome p AreUnambiguousEntries → IfSome (both_entries k o p) AreUnambiguousEntries
unfolding AreUnambiguousEntries
both_flows k None p g h = tt
both_flows k (Some d) None g h = tt
both_flows k (Some d) (Some es) g h = (g.0, g.1, h)

flows_clear : (cs ds : Checks) (ps : Parts) → ChecksAgree cs ps → ChecksSure ds ps → flows_doubts cs ds ≡ [] → IfSome (read_flows ps) AreUnambiguousEntries
unfolding AreUnambiguousEntries
flows_clear [] ds [] a h e = tt
flows_clear [] ds (p ∷ ps) a h e = absurd a
flows_clear (c ∷ cs) ds [] a h e = absurd a
flows_clear (c ∷ cs) [] (p ∷ ps) a h e = absurd h
flows_clear (c ∷ cs) (d ∷ ds) (p ∷ ps) a h e =
    let none = join_none (under (at_name d.0) (flow_doubts (chosen d.0 flow_keys) c.1.1 d.1.1)) (flows_doubts cs ds) e in
    let first = ap (λ name. flow_doubts (chosen name flow_keys) c.1.1 d.1.1) (sym h.0) ∙ under_none (at_name d.0) (flow_doubts (chosen d.0 flow_keys) c.1.1 d.1.1) none.0 in
    both_flows p.0 (read_flow (chosen p.0 flow_keys) p.1.1) (read_flows ps) (flow_clear p.0 (chosen p.0 flow_keys) refl c.1.1 d.1.1 p.1.1 a.1.1 h.1 first) (flows_clear cs ds ps a.2 h.2 none.1)

-- ---- objects

own_read : (ms : Members) (ds : Checks) → ChecksSure ds (parts ms) → (k : Kind) → takes_references k ≡ false → own_doubts ms (checks ms) ds k ≡ [] → IfSome (read_object ms (parts ms) k) Clear
unfolding IsUnambiguous
own_read ms ds h any t e = (tt, λ key. tt)
own_read ms ds h (map_of k) t e = if_map EntriesClear Clear map_doc (λ es p. (entries_unambiguous es p, λ key. tt)) (read_entries k (parts ms)) (entries_clear k ds (parts ms) h e)
own_read ms ds h (ordered_map_of k) t e =
    if_map EntriesClear Clear (λ es. ordered_map_doc (by_name es)) (λ es p. (entries_unambiguous (by_name es) (puts_clear es no_entries p tt), λ key. tt)) (read_entries k (parts ms)) (entries_clear k ds (parts ms) h e)
own_read ms ds h (entries_of k) t e =
    let ps = entry_parts (parts ms) in
    if_map (λ es. EntriesClear es × FreeOfExtensions es) Clear (λ es. entries_doc es (extensions_of true ms)) (λ es p. ((entries_unambiguous es p.0, p.1, extensions_all true ms), λ key. tt)) (read_entries k ps)
    (both_if EntriesClear FreeOfExtensions (read_entries k ps) (entries_clear k (entry_checks ds) ps (entry_checks_sure ds (parts ms) h) e) (entries_free k ps (entry_parts_none (parts ms))))
own_read ms ds h (ref_or k) t e = absurd (true≢false t)
own_read ms ds h (named n) t e = table_clear n ms ds (parts ms) h e
own_read ms ds h schema t e = schema_clear ms ds h (join_none (meant_doubts ms (checks ms)) (rows_doubts (table (taken_schema ms (checks ms))) ds) e).1
own_read ms ds h array_items t e = absurd (true≢false t)
own_read ms ds h additional_properties t e = absurd (true≢false t)
own_read ms ds h security_scheme t e = worded_clear (codes "type") scheme_types (λ o. scheme_doubts o ms ds) (read_scheme ms (parts ms)) (text_at (codes "type") ms) (scheme_clear ms ds h) e
own_read ms ds h api_key t e = api_key_clear ms ds h e
own_read ms ds h flows t e = if_map AreUnambiguousEntries Clear map_doc (λ es p. (p, λ key. tt)) (read_flows (parts ms)) (flows_clear (checks ms) ds (parts ms) (members_agree ms) h e)
own_read ms ds h k t e = tt

-- ---- places where a reference may stand

ref_or_clear : (k : Kind) (own : Option Doc) (ms : Members) (ds : Checks) → ChecksSure ds (parts ms) → IfSome own Own → IfSome (read_ref_or k own ms (parts ms)) Clear
unfolding IsUnambiguous
ref_or_clear k own ms ds h o =
    if_else Clear _ _ (if_map Clear Clear (ref_doc k) (λ d p. (p.0, λ key. tt)) (read_table reference_object ms (parts ms)) (reference_clear ms ds (parts ms) h)) (if_map Own Clear own_doc (λ d p. ((p.0.0, p.1), λ key. tt)) own o)

-- where no reference is named
unnamed : (ms : Members) (ds : Checks) → ChecksSure ds (parts ms) → is_named (codes "$ref") ms ≡ false → (k : Kind) → own_doubts ms (checks ms) ds (object_kind k) ≡ [] → IfSome (read_object ms (parts ms) k) Clear
unnamed ms ds h none (ref_or k) e =
    let own = read_object ms (parts ms) k in
    ref_or_clear k own ms ds h (both_if Clear (NoTextAt (codes "$ref")) own (unnamed ms ds h none k e) (unreferred ms none k))
unnamed ms ds h none array_items e =
    let own = read_schema ms (parts ms) in
    ref_or_clear schema own ms ds h (both_if Clear (NoTextAt (codes "$ref")) own (own_read ms ds h schema refl e) (unreferred ms none schema))
unnamed ms ds h none additional_properties e =
    let own = read_schema ms (parts ms) in
    ref_or_clear schema own ms ds h (both_if Clear (NoTextAt (codes "$ref")) own (own_read ms ds h schema refl e) (unreferred ms none schema))
unnamed ms ds h none k e = own_read ms ds h k refl e

ref_first : (k : Kind) (o rest : Option Doc) → is_some o ≡ true → IfSome o Clear → IfSome (or_else (option_map (ref_doc k) o) rest) Clear
unfolding IsUnambiguous
ref_first k None rest there h = absurd (true≢false (sym there))
ref_first k (Some d) rest there h = (h.0, λ key. tt)

-- where it is the reference that was meant
as_reference : (ms : Members) (ds : Checks) → ChecksSure ds (parts ms) → is_some (read_table reference_object ms (parts ms)) ≡ true → (k : Kind) → takes_references k ≡ true → IfSome (read_object ms (parts ms) k) Clear
as_reference ms ds h there (ref_or k) t = ref_first k (read_table reference_object ms (parts ms)) _ there (reference_clear ms ds (parts ms) h)
as_reference ms ds h there array_items t = ref_first schema (read_table reference_object ms (parts ms)) _ there (reference_clear ms ds (parts ms) h)
as_reference ms ds h there additional_properties t = ref_first schema (read_table reference_object ms (parts ms)) _ there (reference_clear ms ds (parts ms) h)
as_reference ms ds h there k t = absurd (true≢false (sym t))

neither : (k : Kind) (o own : Option Doc) → is_some o ≡ false → is_some own ≡ false → is_some (or_else (option_map (ref_doc k) o) (option_map own_doc own)) ≡ false
neither k None None e f = refl
neither k None (Some d) e f = absurd (true≢false f)
neither k (Some d) own e f = absurd (true≢false e)

-- where it is neither a reference nor something else
refused : (ms : Members) → is_some (read_table reference_object ms (parts ms)) ≡ false → (k : Kind) → is_some (read_object ms (parts ms) (object_kind k)) ≡ false → is_some (read_object ms (parts ms) k) ≡ false
refused ms r (ref_or k) o = neither k (read_table reference_object ms (parts ms)) (read_object ms (parts ms) k) r (refused ms r k o)
refused ms r array_items o = neither schema (read_table reference_object ms (parts ms)) (read_schema ms (parts ms)) r o
refused ms r additional_properties o = neither schema (read_table reference_object ms (parts ms)) (read_schema ms (parts ms)) r o
refused ms r k o = o

place_clear : (ms : Members) (ds : Checks) → ChecksSure ds (parts ms) → (k : Kind) → takes_references k ≡ true → (b : Bool) → is_named (codes "$ref") ms ≡ b → (rs xs : Misfits) → table_misfits reference_object (checks ms) ≡ rs → object_misfits ms (checks ms) (object_kind k) ≡ xs
    → reference_doubts b rs xs (own_doubts ms (checks ms) ds (object_kind k)) ≡ [] → IfSome (read_object ms (parts ms) k) Clear
place_clear ms ds h k t false is_ref rs xs is own e = unnamed ms ds h is_ref k e
place_clear ms ds h k t true is_ref [] xs is own e = as_reference ms ds h (sym (agrees ms (named reference_object)) ∙ ap is_fit is) k t
place_clear ms ds h k t true is_ref (r ∷ rs) [] is own e = absurd (true≢false (sym (ap is_fit e)))
place_clear ms ds h k t true is_ref (r ∷ rs) (x ∷ xs) is own e =
    none_if Clear (read_object ms (parts ms) k) (refused ms (sym (agrees ms (named reference_object)) ∙ ap is_fit is) k (sym (agrees ms (object_kind k)) ∙ ap is_fit own))

object_clear : (ms : Members) (ds : Checks) → ChecksSure ds (parts ms) → (k : Kind) → object_doubts ms (checks ms) ds k ≡ [] → IfSome (read_object ms (parts ms) k) Clear
object_clear ms ds h (ref_or k) e = place_clear ms ds h (ref_or k) refl (is_named (codes "$ref") ms) refl (table_misfits reference_object (checks ms)) (object_misfits ms (checks ms) (object_kind k)) refl refl e
object_clear ms ds h array_items e = place_clear ms ds h array_items refl (is_named (codes "$ref") ms) refl (table_misfits reference_object (checks ms)) (object_misfits ms (checks ms) schema) refl refl e
object_clear ms ds h additional_properties e = place_clear ms ds h additional_properties refl (is_named (codes "$ref") ms) refl (table_misfits reference_object (checks ms)) (object_misfits ms (checks ms) schema) refl refl e
object_clear ms ds h k e = own_read ms ds h k refl e

object_quiet : (ms : Members) (cs ds : Checks) (k : Kind) → is_quiet k ≡ true → object_doubts ms cs ds k ≡ []
object_quiet ms cs ds text q = refl
object_quiet ms cs ds flag q = refl
object_quiet ms cs ds any q = refl
object_quiet ms cs ds (word_of v) q = refl
object_quiet ms cs ds k q = absurd (true≢false (sym q))

object_flow : (n : ObjectType) (ms : Members) (ps : Parts) → IfSome (read_table n ms ps) (IsFlowOf n)
object_flow n ms ps = if_made (IsFlowOf n) (λ ds. table_doc n ds (extensions_of (has_extensions n) ms)) (λ ds key is. is) (read_rows (table n) ps)

mutual
  unfolding doubter item_doubters doubters reader item_readers parts

  tree_sure : (t : Data) → Sure (doubter t) (reader t)
  tree_sure null = (λ k e. clear_only (read_null k) (null_own k), λ k q. refl, λ n. tt)
  tree_sure (boolean b) = (λ k e. clear_only (read_boolean b k) (boolean_own b k), λ k q. refl, λ n. tt)
  tree_sure (number n) = (λ k e. clear_only (read_number n k) (number_own n k), λ k q. refl, λ m. tt)
  tree_sure (string s) = (λ k e. clear_only (read_string s k) (string_own s k), λ k q. refl, λ n. tt)
  tree_sure (array ds) = (λ k e. clear_only (read_array ds (item_readers ds) k) (array_own ds (item_doubters ds) (item_readers ds) (items_sure ds) k e), array_quiet (item_doubters ds), λ n. tt)
  tree_sure (object ms) = (object_clear ms (doubters ms) (members_sure ms), object_quiet ms (checks ms) (doubters ms), λ n. object_flow n ms (parts ms))

  items_sure : (ds : Items) → AllSure (item_doubters ds) (item_readers ds)
  items_sure no_items = tt
  items_sure (item d ds) = (tree_sure d, items_sure ds)

  members_sure : (ms : Members) → ChecksSure (doubters ms) (parts ms)
  members_sure no_members = tt
  members_sure (member k d ms) = (refl, tree_sure d, members_sure ms)

-- what is read where nothing is in doubt is unambiguous
pub undoubted_unambiguous : (k : Kind) (t : Data) (d : Doc) → doubts k t ≡ [] → read k t ≡ Some d → IsUnambiguous d
undoubted_unambiguous k t d none is = (if_is Clear (reader t k) d ((tree_sure t).0 k none) is).0

-- of a plain tree it is well-formed
pub undoubted_well_formed : (k : Kind) (t : Data) (d : Doc) → doubts k t ≡ [] → ReadsAs k t d → IsWellFormed d
undoubted_well_formed k t d none is = (read_plain k t d is.0 is.1, undoubted_unambiguous k t d none is.1)
