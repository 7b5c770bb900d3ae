-- A tree has no misfit exactly where it reads as a document.
use Rattle.std.proofs.Common.{◌≡◌, ℕ, suc, List, [], ◌∷◌, ◌++◌, Bool, true, false, not, cond, nat_cmp, codes, Option, Some, None, option_map, option_and_then, is_some, refl, sym, ap, subst, ◌∙◌, ◌&&◌, ◌||◌, Ordering, Less, Equal, Greater}
use Rattle.std.specs.List.{list_any}
use Rattle.std.specs.Ordering.{match_ordering}
use Rattle.std.specs.Cmp.Lexicographic.{slice_cmp}
use Rattle.serde_json.specs.Data.{Num, Data, null, boolean, number, string, array, object, Items, no_items, item, Members, no_members, member}
use Rattle.serde_json.specs.Find.{as_integer, as_u64, as_str, get_member, is_float}
use Rattle.serde_json.specs.Written.{has_float, items_have_float, members_have_float}
use Rattle.utoipa_base.specs.Kinds.{ObjectType, reference_object, one_of_schema, all_of_schema, any_of_schema, array_schema, object_schema, type_word, Kind, text, flag, whole, numeral, any, word_of, version, list_of, map_of, ordered_map_of, entries_of, ref_or, named, schema, schema_type, schema_format, array_items, additional_properties, security_scheme, api_key, flows, Mark, required, optional, or_null, defaulted, Row}
use Rattle.utoipa_base.specs.Words.{words, is_word}
use Rattle.utoipa_base.specs.Version.{read_version}
use Rattle.utoipa_base.specs.Choices.{chosen, scheme_types, api_key_places, flow_keys, schema_keywords}
use Rattle.utoipa_base.specs.Docs.{Doc, none_doc, some_doc, ref_doc, own_doc, schema_doc, tagged_doc, flow_doc, list_doc, map_doc, ordered_map_doc, entries_doc, types_doc, table_doc, whole_doc, word_doc, Docs, Entries}
use Rattle.utoipa_base.specs.Tables.{table, has_extensions}
use Rattle.utoipa_base.specs.ByName.{by_name}
use Rattle.utoipa_base.specs.Extensions.{is_extension, extensions_of}
use Rattle.utoipa_base.specs.Reading.{both, both_entries, or_else, only_if, Part, Parts, part, entry_parts, fits, read_rows, read_table, read_items, read_entries, is_named, read_schema, read_ref_or, read_alternative, read_api_key, read_scheme, read_security_scheme, first_that_fits, read_flow, read_flows, read_null, read_boolean, numeral_doc, read_number, read_word, read_string, read_array, read_object, reader, item_readers, parts, read}
use Rattle.utoipa_check.specs.Misfits.{Step, at_name, at_index, Cause, unknown_word, fraction, Misfits, here, under, is_fit, expect, expect_of, unless_fit, Check, Checks, check_at, entry_checks, row_misfits, rows_misfits, table_misfits, items_misfits, entries_misfits, meant_schema, fits_table, fits_schema, schema_misfits, ref_or_misfits, alternative_misfits, chosen_misfits, tagged_misfits, api_key_misfits, scheme_misfits, security_scheme_misfits, flow_misfits, flows_misfits, null_misfits, boolean_misfits, number_misfits, string_misfits, array_misfits, object_misfits, checker, item_checkers, checks, misfits, fractions, items_fractions, members_fractions}
use Rattle.utoipa_tables.specs.Tables.{flow_kinds}

-- ---- results

map_some : {A B : Type 0} (f : A → B) (o : Option A) → is_some (option_map f o) ≡ is_some o
map_some f None = refl
map_some f (Some x) = refl

both_some : (o : Option Doc) (p : Option Docs) → is_some (both o p) ≡ is_some o && is_some p
both_some None p = refl
both_some (Some d) None = refl
both_some (Some d) (Some ds) = refl

both_entries_some : (k : List ℕ) (o : Option Doc) (p : Option Entries) → is_some (both_entries k o p) ≡ is_some o && is_some p
both_entries_some k None p = refl
both_entries_some k (Some d) None = refl
both_entries_some k (Some d) (Some es) = refl

else_some : (o p : Option Doc) → is_some (or_else o p) ≡ is_some o || is_some p
else_some None p = refl
else_some (Some d) p = refl

only_some : (b : Bool) (o : Option Doc) → is_some (only_if b o) ≡ b && is_some o
only_some true o = refl
only_some false o = refl

-- ---- misfits

under_fit : (s : Step) (ms : Misfits) → is_fit (under s ms) ≡ is_fit ms
under_fit s [] = refl
under_fit s (m ∷ ms) = refl

pub join_fit : (xs ys : Misfits) → is_fit (xs ++ ys) ≡ is_fit xs && is_fit ys
join_fit [] ys = refl
join_fit (x ∷ xs) ys = refl

expect_fit : (b : Bool) (k : Kind) → is_fit (expect b k) ≡ b
expect_fit true k = refl
expect_fit false k = refl

expect_of_fit : (b : Bool) (k : Kind) (d : Data) → is_fit (expect_of b k d) ≡ b
expect_of_fit true k d = refl
expect_of_fit false k d = refl

pub unless_fit-fit : (b : Bool) (meant : Misfits) (ks : List Kind) → is_fit (unless_fit b meant ks) ≡ b
unless_fit-fit true meant ks = refl
unless_fit-fit false [] ks = refl
unless_fit-fit false (m ∷ ms) ks = refl

-- two tests that are the same, and two more
pub and_same : {a b c d : Bool} → a ≡ b → c ≡ d → a && c ≡ b && d
and_same {b = b} {c = c} e f = ap (λ x. x && c) e ∙ ap (λ x. b && x) f

or_same : {a b c d : Bool} → a ≡ b → c ≡ d → a || c ≡ b || d
or_same {b = b} {c = c} e f = ap (λ x. x || c) e ∙ ap (λ x. b || x) f

-- ---- what a check and a reader agree on

abbrev pub Agree : (Kind → Misfits) → (Kind → Option Doc) → Type 0
Agree c r = (k : Kind) → is_fit (c k) ≡ is_some (r k)

abbrev AllAgree : List (Kind → Misfits) → List (Kind → Option Doc) → Type 0
AllAgree [] [] = Unit {0}
AllAgree [] (r ∷ rs) = ⊥
AllAgree (c ∷ cs) [] = ⊥
AllAgree (c ∷ cs) (r ∷ rs) = Agree c r × AllAgree cs rs

abbrev pub CheckAgrees : Check → Part → Type 0
CheckAgrees c p = (c.0 ≡ p.0) × Agree c.1 p.1

abbrev pub ChecksAgree : Checks → Parts → Type 0
ChecksAgree [] [] = Unit {0}
ChecksAgree [] (p ∷ ps) = ⊥
ChecksAgree (c ∷ cs) [] = ⊥
ChecksAgree (c ∷ cs) (p ∷ ps) = (c.0 ≡ p.0) × CheckAgrees c.1 p.1 × ChecksAgree cs ps

abbrev MaybeAgree : Option Check → Option Part → Type 0
MaybeAgree None None = Unit {0}
MaybeAgree None (Some p) = ⊥
MaybeAgree (Some c) None = ⊥
MaybeAgree (Some c) (Some p) = CheckAgrees c p

-- ---- trees that are neither arrays nor objects

null_agrees : Agree null_misfits read_null
null_agrees any = refl
null_agrees schema_type = refl
null_agrees (ref_or k) = null_agrees k ∙ sym (map_some own_doc (read_null k))
null_agrees k = refl

items_flag : (b : Bool) → is_fit (boolean_misfits b array_items) ≡ is_some (read_boolean b array_items)
items_flag true = refl
items_flag false = refl

boolean_agrees : (b : Bool) → Agree (boolean_misfits b) (read_boolean b)
boolean_agrees b flag = refl
boolean_agrees b any = refl
boolean_agrees b additional_properties = refl
boolean_agrees b array_items = items_flag b
boolean_agrees b (ref_or k) = boolean_agrees b k ∙ sym (map_some own_doc (read_boolean b k))
boolean_agrees b k = refl

number_agrees : (n : Num) → Agree (number_misfits n) (read_number n)
number_agrees n whole = expect_of_fit (is_some (as_u64 n)) whole (number n) ∙ sym (map_some whole_doc (as_u64 n))
number_agrees n numeral = expect_of_fit (is_some (as_integer n)) numeral (number n) ∙ sym (map_some numeral_doc (as_integer n))
number_agrees n any = refl
number_agrees n (ref_or k) = number_agrees n k ∙ sym (map_some own_doc (read_number n k))
number_agrees n k = refl

word_agrees : (b : Bool) (c : Cause) (s : List ℕ) → is_fit (cond b [] (here c)) ≡ is_some (read_word b s)
word_agrees true c s = refl
word_agrees false c s = refl

string_agrees : (s : List ℕ) → Agree (string_misfits s) (read_string s)
string_agrees s text = refl
string_agrees s any = refl
string_agrees s (word_of v) = word_agrees (is_word v s) (unknown_word (words v)) s
string_agrees s version = expect_fit (is_some (read_version s)) version ∙ sym (map_some word_doc (read_version s))
string_agrees s schema_type = word_agrees (is_word type_word s) (unknown_word (words type_word)) s
string_agrees s schema_format = refl
string_agrees s (ref_or k) = string_agrees s k ∙ sym (map_some own_doc (read_string s k))
string_agrees s k = refl

-- ---- lists and maps

items_agree : (i : ℕ) (k : Kind) (cs : List (Kind → Misfits)) (rs : List (Kind → Option Doc)) → AllAgree cs rs → is_fit (items_misfits i k cs) ≡ is_some (read_items k rs)
items_agree i k [] [] h = refl
items_agree i k [] (r ∷ rs) h = absurd h
items_agree i k (c ∷ cs) [] h = absurd h
items_agree i k (c ∷ cs) (r ∷ rs) h =
    join_fit (under (at_index i) (c k)) (items_misfits (suc i) k cs)
    ∙ and_same (under_fit (at_index i) (c k) ∙ h.0 k) (items_agree (suc i) k cs rs h.1)
    ∙ sym (both_some (r k) (read_items k rs))

entries_agree : (k : Kind) (cs : Checks) (ps : Parts) → ChecksAgree cs ps → is_fit (entries_misfits k cs) ≡ is_some (read_entries k ps)
entries_agree k [] [] h = refl
entries_agree k [] (p ∷ ps) h = absurd h
entries_agree k (c ∷ cs) [] h = absurd h
entries_agree k (c ∷ cs) (p ∷ ps) h =
    join_fit (under (at_name c.0) (c.1.1 k)) (entries_misfits k cs)
    ∙ and_same (under_fit (at_name c.0) (c.1.1 k) ∙ h.1.1 k) (entries_agree k cs ps h.2)
    ∙ sym (both_entries_some p.0 (p.1.1 k) (read_entries k ps))

kept_agree : (b : Bool) (c : List ℕ × Check) (p : List ℕ × Part) (cs : Checks) (ps : Parts) → c.0 ≡ p.0 → CheckAgrees c.1 p.1 → ChecksAgree cs ps → ChecksAgree (cond b cs (c ∷ cs)) (cond b ps (p ∷ ps))
kept_agree true c p cs ps e f h = h
kept_agree false c p cs ps e f h = (e, f, h)

entry_checks_agree : (cs : Checks) (ps : Parts) → ChecksAgree cs ps → ChecksAgree (entry_checks cs) (entry_parts ps)
entry_checks_agree [] [] h = tt
entry_checks_agree [] (p ∷ ps) h = absurd h
entry_checks_agree (c ∷ cs) [] h = absurd h
entry_checks_agree (c ∷ cs) (p ∷ ps) h =
    subst (λ b. ChecksAgree (cond b (entry_checks cs) (c ∷ entry_checks cs)) (cond (is_extension p.0) (entry_parts ps) (p ∷ entry_parts ps))) (ap is_extension (sym h.0))
    (kept_agree (is_extension p.0) c p (entry_checks cs) (entry_parts ps) h.0 h.1 (entry_checks_agree cs ps h.2))

-- ---- rows

by_order_agrees : (o : Ordering) (x z : Option Check) (y : Check) (u w : Option Part) (v : Part) → MaybeAgree x u → CheckAgrees y v → MaybeAgree z w → MaybeAgree (match_ordering o x (Some y) z) (match_ordering o u (Some v) w)
by_order_agrees Less x z y u w v f g h = f
by_order_agrees Equal x z y u w v f g h = g
by_order_agrees Greater x z y u w v f g h = h

at_agrees : (name : List ℕ) (cs : Checks) (ps : Parts) → ChecksAgree cs ps → MaybeAgree (check_at name cs) (part name ps)
at_agrees name [] [] h = tt
at_agrees name [] (p ∷ ps) h = absurd h
at_agrees name (c ∷ cs) [] h = absurd h
at_agrees name (c ∷ cs) (p ∷ ps) h =
    subst (λ l. MaybeAgree (match_ordering (slice_cmp nat_cmp name l) (check_at name cs) (Some c.1) (check_at name cs)) (part name (p ∷ ps))) (sym h.0)
    (by_order_agrees (slice_cmp nat_cmp name p.0) (check_at name cs) (check_at name cs) c.1 (part name ps) (part name ps) p.1 (at_agrees name cs ps h.2) h.1 (at_agrees name cs ps h.2))

null_or_agrees : (a b : Bool) (s : Step) (x : Misfits) (o : Option Doc) → a ≡ b → is_fit x ≡ is_some o → is_fit (cond a [] (under s x)) ≡ is_some (cond b (Some none_doc) (option_map some_doc o))
null_or_agrees a true s x o e h = ap (λ b. is_fit (cond b [] (under s x))) e
null_or_agrees a false s x o e h = ap (λ b. is_fit (cond b [] (under s x))) e ∙ under_fit s x ∙ h ∙ sym (map_some some_doc o)

row_agrees : (m : Mark) (name : List ℕ) (k : Kind) (c : Option Check) (p : Option Part) → MaybeAgree c p → is_fit (row_misfits m name k c) ≡ is_some (fits m k p)
row_agrees required name k None None h = refl
row_agrees optional name k None None h = refl
row_agrees or_null name k None None h = refl
row_agrees defaulted name k None None h = refl
row_agrees m name k None (Some p) h = absurd h
row_agrees m name k (Some c) None h = absurd h
row_agrees required name k (Some c) (Some p) h = under_fit (at_name name) (c.1 k) ∙ h.1 k
row_agrees optional name k (Some c) (Some p) h = null_or_agrees c.0 p.0 (at_name name) (c.1 k) (p.1 k) h.0 (h.1 k)
row_agrees or_null name k (Some c) (Some p) h = null_or_agrees c.0 p.0 (at_name name) (c.1 k) (p.1 k) h.0 (h.1 k)
row_agrees defaulted name k (Some c) (Some p) h = under_fit (at_name name) (c.1 k) ∙ h.1 k

rows_agree : (rs : List Row) (cs : Checks) (ps : Parts) → ChecksAgree cs ps → is_fit (rows_misfits rs cs) ≡ is_some (read_rows rs ps)
rows_agree [] cs ps h = refl
rows_agree (r ∷ rs) cs ps h =
    join_fit (row_misfits r.mark r.name r.kind (check_at r.name cs)) (rows_misfits rs cs)
    ∙ and_same (row_agrees r.mark r.name r.kind (check_at r.name cs) (part r.name ps) (at_agrees r.name cs ps h)) (rows_agree rs cs ps h)
    ∙ sym (both_some (fits r.mark r.kind (part r.name ps)) (read_rows rs ps))

table_agrees : (n : ObjectType) (ms : Members) (cs : Checks) (ps : Parts) → ChecksAgree cs ps → is_fit (table_misfits n cs) ≡ is_some (read_table n ms ps)
table_agrees n ms cs ps h = rows_agree (table n) cs ps h ∙ sym (map_some (λ ds. table_doc n ds (extensions_of (has_extensions n) ms)) (read_rows (table n) ps))

-- ---- choices

object_either : (a b c : Bool) → (a || b) && c ≡ (a && c) || (b && c)
object_either true true true = refl
object_either true true false = refl
object_either true false true = refl
object_either true false false = refl
object_either false b c = refl

schema_agrees : (ms : Members) (cs : Checks) (ps : Parts) → ChecksAgree cs ps → is_fit (schema_misfits ms cs) ≡ is_some (read_schema ms ps)
schema_agrees ms cs ps h =
    let one = read_table one_of_schema ms ps in
    let all = read_table all_of_schema ms ps in
    let some = read_table any_of_schema ms ps in
    let list = read_table array_schema ms ps in
    let own = read_table object_schema ms ps in
    let typed = is_named (codes "type") ms in
    let bare = not (list_any (λ name. is_named name ms) schema_keywords) in
    let typed_own = only_if typed own in
    let bare_own = only_if bare own in
    unless_fit-fit (fits_schema ms cs) (table_misfits (meant_schema ms) cs) (schema ∷ [])
    ∙ or_same (table_agrees one_of_schema ms cs ps h)
    (or_same (table_agrees all_of_schema ms cs ps h)
    (or_same (table_agrees any_of_schema ms cs ps h)
    (or_same (table_agrees array_schema ms cs ps h)
    (and_same refl (table_agrees object_schema ms cs ps h) ∙ object_either typed bare (is_some own) ∙ or_same (sym (only_some typed own)) (sym (only_some bare own)) ∙ sym (else_some typed_own bare_own))
    ∙ sym (else_some list (or_else typed_own bare_own)))
    ∙ sym (else_some some (or_else list (or_else typed_own bare_own))))
    ∙ sym (else_some all (or_else some (or_else list (or_else typed_own bare_own)))))
    ∙ sym (else_some one (or_else all (or_else some (or_else list (or_else typed_own bare_own)))))
    ∙ sym (map_some schema_doc (or_else one (or_else all (or_else some (or_else list (or_else typed_own bare_own))))))

ref_or_agrees : (k : Kind) (x : Misfits) (o : Option Doc) (ms : Members) (cs : Checks) (ps : Parts) → ChecksAgree cs ps → is_fit x ≡ is_some o → is_fit (ref_or_misfits k x ms cs) ≡ is_some (read_ref_or k o ms ps)
ref_or_agrees k x o ms cs ps h e =
    let r = read_table reference_object ms ps in
    unless_fit-fit (fits_table reference_object cs || is_fit x) (cond (is_named (codes "$ref") ms) (table_misfits reference_object cs) x) (ref_or k ∷ [])
    ∙ or_same (table_agrees reference_object ms cs ps h ∙ sym (map_some (ref_doc k) r)) (e ∙ sym (map_some own_doc o))
    ∙ sym (else_some (option_map (ref_doc k) r) (option_map own_doc o))

alternative_agrees : (ms : Members) (cs : Checks) (ps : Parts) → ChecksAgree cs ps → Agree (alternative_misfits cs) (read_alternative ms ps)
alternative_agrees ms cs ps h (named n) = table_agrees n ms cs ps h
alternative_agrees ms cs ps h k = refl

chosen_agrees : (name word : List ℕ) (choices : List (List ℕ × Kind)) (f : Kind → Misfits) (g : Kind → Option Doc) (o : Option Kind) → Agree f g
    → is_fit (chosen_misfits name choices f o) ≡ is_some (option_and_then (λ k. option_map (tagged_doc name word) (g k)) o)
chosen_agrees name word choices f g None h = refl
chosen_agrees name word choices f g (Some k) h = h k ∙ sym (map_some (tagged_doc name word) (g k))

tagged_agrees : (name : List ℕ) (choices : List (List ℕ × Kind)) (f : Kind → Misfits) (g : Kind → Option Doc) (o : Option Data) → Agree f g
    → is_fit (tagged_misfits name choices f o) ≡ is_some (option_and_then (λ word. option_and_then (λ k. option_map (tagged_doc name word) (g k)) (chosen word choices)) (option_and_then as_str o))
tagged_agrees name choices f g None h = refl
tagged_agrees name choices f g (Some null) h = refl
tagged_agrees name choices f g (Some (boolean b)) h = refl
tagged_agrees name choices f g (Some (number n)) h = refl
tagged_agrees name choices f g (Some (string s)) h = chosen_agrees name s choices f g (chosen s choices) h
tagged_agrees name choices f g (Some (array ds)) h = refl
tagged_agrees name choices f g (Some (object ms)) h = refl

api_key_agrees : (ms : Members) (cs : Checks) (ps : Parts) → ChecksAgree cs ps → is_fit (api_key_misfits ms cs) ≡ is_some (read_api_key ms ps)
api_key_agrees ms cs ps h = tagged_agrees (codes "in") api_key_places (alternative_misfits cs) (read_alternative ms ps) (get_member (codes "in") ms) (alternative_agrees ms cs ps h)

scheme_agrees : (ms : Members) (cs : Checks) (ps : Parts) → ChecksAgree cs ps → Agree (scheme_misfits ms cs) (read_scheme ms ps)
scheme_agrees ms cs ps h api_key = api_key_agrees ms cs ps h
scheme_agrees ms cs ps h k = alternative_agrees ms cs ps h k

security_scheme_agrees : (ms : Members) (cs : Checks) (ps : Parts) → ChecksAgree cs ps → is_fit (security_scheme_misfits ms cs) ≡ is_some (read_security_scheme ms ps)
security_scheme_agrees ms cs ps h = tagged_agrees (codes "type") scheme_types (scheme_misfits ms cs) (read_scheme ms ps) (get_member (codes "type") ms) (scheme_agrees ms cs ps h)

first_agrees : (fs : List (List ℕ × ObjectType)) (f : Kind → Misfits) (g : Kind → Option Doc) → Agree f g → list_any (λ k. is_fit (f k)) (flow_kinds fs) ≡ is_some (first_that_fits fs g)
first_agrees [] f g h = refl
first_agrees (c ∷ fs) f g h = or_same (h (named c.1)) (first_agrees fs f g h) ∙ sym (else_some (g (named c.1)) (first_that_fits fs g))

pub flow_agrees : (o : Option ObjectType) (f : Kind → Misfits) (g : Kind → Option Doc) → Agree f g → is_fit (flow_misfits o f) ≡ is_some (read_flow o g)
flow_agrees (Some n) f g h = h (named n) ∙ sym (map_some flow_doc (g (named n)))
flow_agrees None f g h =
    unless_fit-fit (list_any (λ k. is_fit (f k)) (flow_kinds flow_keys)) [] (flow_kinds flow_keys)
    ∙ first_agrees flow_keys f g h ∙ sym (map_some flow_doc (first_that_fits flow_keys g))

flows_agree : (cs : Checks) (ps : Parts) → ChecksAgree cs ps → is_fit (flows_misfits cs) ≡ is_some (read_flows ps)
flows_agree [] [] h = refl
flows_agree [] (p ∷ ps) h = absurd h
flows_agree (c ∷ cs) [] h = absurd h
flows_agree (c ∷ cs) (p ∷ ps) h =
    let n = chosen p.0 flow_keys in
    join_fit (under (at_name c.0) (flow_misfits (chosen c.0 flow_keys) c.1.1)) (flows_misfits cs)
    ∙ and_same (under_fit (at_name c.0) (flow_misfits (chosen c.0 flow_keys) c.1.1) ∙ ap (λ name. is_fit (flow_misfits (chosen name flow_keys) c.1.1)) h.0 ∙ flow_agrees n c.1.1 p.1.1 h.1.1) (flows_agree cs ps h.2)
    ∙ sym (both_entries_some p.0 (read_flow n p.1.1) (read_flows ps))

-- ---- arrays and objects

array_agrees : (ds : Items) (cs : List (Kind → Misfits)) (rs : List (Kind → Option Doc)) → AllAgree cs rs → Agree (array_misfits cs) (read_array ds rs)
array_agrees ds cs rs h any = refl
array_agrees ds cs rs h (list_of k) = items_agree 0 k cs rs h ∙ sym (map_some list_doc (read_items k rs))
array_agrees ds cs rs h schema_type = items_agree 0 (word_of type_word) cs rs h ∙ sym (map_some (λ ws. types_doc (list_doc ws)) (read_items (word_of type_word) rs))
array_agrees ds cs rs h (ref_or k) = array_agrees ds cs rs h k ∙ sym (map_some own_doc (read_array ds rs k))
array_agrees ds cs rs h k = refl

object_agrees : (ms : Members) (cs : Checks) (ps : Parts) → ChecksAgree cs ps → Agree (object_misfits ms cs) (read_object ms ps)
object_agrees ms cs ps h any = refl
object_agrees ms cs ps h (map_of k) = entries_agree k cs ps h ∙ sym (map_some map_doc (read_entries k ps))
object_agrees ms cs ps h (ordered_map_of k) = entries_agree k cs ps h ∙ sym (map_some (λ es. ordered_map_doc (by_name es)) (read_entries k ps))
object_agrees ms cs ps h (entries_of k) =
    entries_agree k (entry_checks cs) (entry_parts ps) (entry_checks_agree cs ps h) ∙ sym (map_some (λ es. entries_doc es (extensions_of true ms)) (read_entries k (entry_parts ps)))
object_agrees ms cs ps h (ref_or k) = ref_or_agrees k (object_misfits ms cs k) (read_object ms ps k) ms cs ps h (object_agrees ms cs ps h k)
object_agrees ms cs ps h (named n) = table_agrees n ms cs ps h
object_agrees ms cs ps h schema = schema_agrees ms cs ps h
object_agrees ms cs ps h array_items = ref_or_agrees schema (schema_misfits ms cs) (read_schema ms ps) ms cs ps h (schema_agrees ms cs ps h)
object_agrees ms cs ps h additional_properties = ref_or_agrees schema (schema_misfits ms cs) (read_schema ms ps) ms cs ps h (schema_agrees ms cs ps h)
object_agrees ms cs ps h security_scheme = security_scheme_agrees ms cs ps h
object_agrees ms cs ps h api_key = api_key_agrees ms cs ps h
object_agrees ms cs ps h flows = flows_agree cs ps h ∙ sym (map_some map_doc (read_flows ps))
object_agrees ms cs ps h k = refl

mutual
  unfolding checker item_checkers checks reader item_readers parts

  tree_agrees : (t : Data) → Agree (checker t) (reader t)
  tree_agrees null = null_agrees
  tree_agrees (boolean b) = boolean_agrees b
  tree_agrees (number n) = number_agrees n
  tree_agrees (string s) = string_agrees s
  tree_agrees (array ds) = array_agrees ds (item_checkers ds) (item_readers ds) (items_all_agree ds)
  tree_agrees (object ms) = object_agrees ms (checks ms) (parts ms) (members_agree ms)

  items_all_agree : (ds : Items) → AllAgree (item_checkers ds) (item_readers ds)
  items_all_agree no_items = tt
  items_all_agree (item d ds) = (tree_agrees d, items_all_agree ds)

  pub members_agree : (ms : Members) → ChecksAgree (checks ms) (parts ms)
  members_agree no_members = tt
  members_agree (member k d ms) = (refl, (refl, tree_agrees d), members_agree ms)

-- a tree has no misfit exactly where it reads as a document
pub misfits_exact : (k : Kind) (t : Data) → is_fit (misfits k t) ≡ is_some (read k t)
misfits_exact k t = tree_agrees t k

-- ---- fractions

one_fraction : (b : Bool) → is_fit (cond b (here fraction) []) ≡ not b
one_fraction true = refl
one_fraction false = refl

not_either : (a b : Bool) → not (a || b) ≡ not a && not b
not_either true b = refl
not_either false b = refl

mutual
  unfolding fractions items_fractions members_fractions

  pub fractions_exact : (t : Data) → is_fit (fractions t) ≡ not (has_float t)
  fractions_exact null = refl
  fractions_exact (boolean b) = refl
  fractions_exact (number n) = one_fraction (is_float n)
  fractions_exact (string s) = refl
  fractions_exact (array ds) = items_fractions_exact 0 ds
  fractions_exact (object ms) = members_fractions_exact ms

  items_fractions_exact : (i : ℕ) (ds : Items) → is_fit (items_fractions i ds) ≡ not (items_have_float ds)
  items_fractions_exact i no_items = refl
  items_fractions_exact i (item d ds) =
      join_fit (under (at_index i) (fractions d)) (items_fractions (suc i) ds)
      ∙ and_same (under_fit (at_index i) (fractions d) ∙ fractions_exact d) (items_fractions_exact (suc i) ds)
      ∙ sym (not_either (has_float d) (items_have_float ds))

  members_fractions_exact : (ms : Members) → is_fit (members_fractions ms) ≡ not (members_have_float ms)
  members_fractions_exact no_members = refl
  members_fractions_exact (member name d ms) =
      join_fit (under (at_name name) (fractions d)) (members_fractions ms)
      ∙ and_same (under_fit (at_name name) (fractions d) ∙ fractions_exact d) (members_fractions_exact ms)
      ∙ sym (not_either (has_float d) (members_have_float ms))
