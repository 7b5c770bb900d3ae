-- Members under distinct names have together fewer values than their object, and one more document at the end of a list adds its places.
use Rattle.std.proofs.Common.{◌≡◌, ℕ, ◌+◌, ◌<◌, ◌≤◌, suc, List, [], ◌∷◌, ◌++◌, Bool, true, false, not, ◌||◌, Option, Some, None, refl, sym, ap, ◌∙◌, subst, true≢false, nat_cmp, Ordering, Less, Equal, Greater, arith, drop, drop-cons, add-one, length, get_or}
use Rattle.std.proofs.lemmas.Slice.Eq.{bytes_eq-Decides}
use Rattle.std.proofs.lemmas.Cmp.{nat_list_cmp_total, tied_itself}
use Rattle.std.proofs.lemmas.Map.Text.{is_eq-slice_cmp}
use Rattle.std.specs.Ordering.{is_eq, match_ordering}
use Rattle.std.specs.Cmp.Lexicographic.{slice_cmp}
use Rattle.std.specs.Str.{bytes_eq}
use Rattle.serde_json.specs.Data.{Data, null, boolean, number, string, array, object, Items, Members, no_members, member}
use Rattle.serde_json.specs.Find.{get, get_member, as_array, as_object}
use Rattle.serde_json.specs.View.{view, items_view, members_view}
use Rattle.serde_json.specs.declared.value.Value.{Value}
use Rattle.serde_json.proofs.Views.{Entry}
use Rattle.utoipa_base.specs.Kinds.{ObjectType, Row}
use Rattle.utoipa_base.specs.Tables.{table}
use Rattle.utoipa_base.specs.Docs.{Doc, docs_of, entries_of_list}
use Rattle.utoipa_base.specs.Values.{values, items_values, members_values, values_of, names_values, is_one_of, are_distinct, schema_count, docs_schema_count, entries_schema_count}
use Rattle.utoipa_base.proofs.BoolFacts.{and_first, and_second, not_true, or_first, or_second, apart}
use Rattle.utoipa_base.proofs.TableNames.{is_row, are_apart, table_apart, first_once as first_row_once, others_apart}

-- ---- a member under another name, and under this one

-- what is not equal goes on with the rest
either : (o : Ordering) (a b : Option Data) → is_eq o ≡ false → match_ordering o a b a ≡ a
either Less a b e = refl
either Equal a b e = absurd (true≢false e)
either Greater a b e = refl

-- the test tells texts apart that are not one text
differ : (xs ys : List ℕ) (b : Bool) → bytes_eq xs ys ≡ b → (xs ≡ ys → ⊥) → b ≡ false
differ xs ys true e other = absurd (other ((bytes_eq-Decides xs ys).0 e))
differ xs ys false e other = refl

-- a member under another name is passed over
pub get_member-skip : (q k : List ℕ) (d : Data) (ms : Members) → (q ≡ k → ⊥) → get_member q (member k d ms) ≡ get_member q ms
get_member-skip q k d ms other = either (slice_cmp nat_cmp q k) _ _ (is_eq-slice_cmp q k ∙ differ q k _ refl other)

-- a member under this name is found
get_member-here : (q k : List ℕ) (d : Data) (ms : Members) → q ≡ k → get_member q (member k d ms) ≡ Some d
get_member-here q k d ms same = rw (same, tied_itself nat_list_cmp_total k)

-- ---- the members of names

-- the values of the names' members among members
abbrev sum_at : List (List ℕ) → Members → ℕ
sum_at [] ms = 0
sum_at (n ∷ ns) ms = values_of (get_member n ms) + sum_at ns ms

-- the first of distinct names is no other
first_once : (n : List ℕ) (ns : List (List ℕ)) → are_distinct (n ∷ ns) ≡ true → is_one_of n ns ≡ false
first_once n ns h = not_true _ (and_first (not (is_one_of n ns)) (are_distinct ns) h)

-- the others are distinct too
others_distinct : (n : List ℕ) (ns : List (List ℕ)) → are_distinct (n ∷ ns) ≡ true → are_distinct ns ≡ true
others_distinct n ns h = and_second (not (is_one_of n ns)) (are_distinct ns) h

-- a member under none of the names adds nothing
sum_at-skip : (ns : List (List ℕ)) (k : List ℕ) (d : Data) (ms : Members) → is_one_of k ns ≡ false → sum_at ns (member k d ms) ≡ sum_at ns ms
sum_at-skip [] k d ms h = refl
sum_at-skip (n ∷ ns) k d ms h =
    let other : n ≡ k → ⊥ = λ same. apart k n (or_first _ _ h) (sym same) in
    ap (λ o. values_of o + sum_at ns (member k d ms)) (get_member-skip n k d ms other) ∙ ap (λ m. values_of (get_member n ms) + m) (sum_at-skip ns k d ms (or_second _ _ h))

-- one more member adds no more than its values, by whether it has the first name
sum_at-member_by : (b : Bool) (n : List ℕ) (ns : List (List ℕ)) (k : List ℕ) (d : Data) (ms : Members) → bytes_eq n k ≡ b → is_one_of n ns ≡ false → sum_at ns (member k d ms) ≤ values d + sum_at ns ms
    → sum_at (n ∷ ns) (member k d ms) ≤ values d + sum_at (n ∷ ns) ms
unfolding values_of
sum_at-member_by true n ns k d ms is other later =
    let same : n ≡ k = (bytes_eq-Decides n k).0 is in
    let here : values_of (get_member n (member k d ms)) ≡ values d = ap values_of (get_member-here n k d ms same) in
    let rest : sum_at ns (member k d ms) ≡ sum_at ns ms = sum_at-skip ns k d ms (subst (λ m. is_one_of m ns ≡ false) same other) in
    omega (arith, here, rest)
sum_at-member_by false n ns k d ms is other later =
    let skip : values_of (get_member n (member k d ms)) ≡ values_of (get_member n ms) = ap values_of (get_member-skip n k d ms (apart n k is)) in
    omega (arith, skip, later)

-- one more member adds no more than its values
sum_at-member : (ns : List (List ℕ)) (k : List ℕ) (d : Data) (ms : Members) → are_distinct ns ≡ true → sum_at ns (member k d ms) ≤ values d + sum_at ns ms
sum_at-member [] k d ms h = omega arith
sum_at-member (n ∷ ns) k d ms h = sum_at-member_by _ n ns k d ms refl (first_once n ns h) (sum_at-member ns k d ms (others_distinct n ns h))

-- no members have no values
sum_at-none : (ns : List (List ℕ)) → sum_at ns no_members ≡ 0
unfolding values_of
sum_at-none [] = refl
sum_at-none (n ∷ ns) = omega (arith, sum_at-none ns)

-- the members of distinct names have no more values than all members
sum_at-le : (ns : List (List ℕ)) (ms : Members) → are_distinct ns ≡ true → sum_at ns ms ≤ members_values ms
unfolding members_values
sum_at-le ns no_members h = omega (arith, sum_at-none ns)
sum_at-le ns (member k d ms) h = omega (arith, sum_at-member ns k d ms h, sum_at-le ns ms h)

-- a tree with no members has no values under any names
names_values-none : (ns : List (List ℕ)) (d : Data) → ((k : List ℕ) → get k d ≡ None) → names_values ns d ≡ 0
unfolding values_of
names_values-none [] d h = refl
names_values-none (n ∷ ns) d h =
    let first : values_of (get n d) ≡ 0 = ap values_of (h n) in
    omega (arith, first, names_values-none ns d h)

-- the values of names in an object are those among its members
names_values-object : (ns : List (List ℕ)) (ms : Members) → names_values ns (object ms) ≡ sum_at ns ms
names_values-object [] ms = refl
names_values-object (n ∷ ns) ms = ap (λ m. values_of (get_member n ms) + m) (names_values-object ns ms)

-- members under distinct names have together fewer values than their object
pub names_fewer : (ns : List (List ℕ)) (d : Data) → are_distinct ns ≡ true → names_values ns d < values d
unfolding values
names_fewer ns null h = omega (arith, names_values-none ns null (λ k. refl))
names_fewer ns (boolean b) h = omega (arith, names_values-none ns (boolean b) (λ k. refl))
names_fewer ns (number x) h = omega (arith, names_values-none ns (number x) (λ k. refl))
names_fewer ns (string s) h = omega (arith, names_values-none ns (string s) (λ k. refl))
names_fewer ns (array ds) h = omega (arith, names_values-none ns (array ds) (λ k. refl))
names_fewer ns (object ms) h = omega (arith, names_values-object ns ms, sum_at-le ns ms h)

-- the names of rows
abbrev pub names_of : List Row → List (List ℕ)
names_of [] = []
names_of (r ∷ rs) = r.name ∷ names_of rs

-- a name of no row is none of their names
unnamed : (name : List ℕ) (rs : List Row) → is_one_of name (names_of rs) ≡ is_row name rs
unnamed name [] = refl
unnamed name (r ∷ rs) = ap (λ b. bytes_eq name r.name || b) (unnamed name rs)

-- the names of rows that are apart are distinct
distinct_names : (rs : List Row) → are_apart rs ≡ true → are_distinct (names_of rs) ≡ true
distinct_names [] h = refl
distinct_names (r ∷ rs) h = rw (unnamed r.name rs ∙ first_row_once r rs h) (distinct_names rs (others_apart r rs h))

-- the members of a table's rows have no more values than their object
pub table_values : (n : ObjectType) (d : Data) → names_values (names_of (table n)) d ≤ values d
table_values n d = omega (arith, names_fewer (names_of (table n)) d (distinct_names (table n) (table_apart n)))

-- ---- the items and members of a value

-- the values of a list are those of its first item and of the rest
pub items_values-cons : (v : Value) (vs : List Value) → items_values (items_view (v ∷ vs)) ≡ values (view v) + items_values (items_view vs)
unfolding items_values
items_values-cons v vs = refl

-- the values of the items that are left are those of the next and of the rest
pub items_values-drop : (xs : List Value) (i : ℕ) (x : Value) → i < length xs → x ≡ get_or xs i x
    → items_values (items_view (drop i xs)) ≡ values (view x) + items_values (items_view (drop (i + 1) xs))
items_values-drop xs i x within is =
    let here : drop i xs ≡ x ∷ drop (i + 1) xs = rw (add-one, drop-cons xs i x) (ap (λ y. y ∷ drop (suc i) xs) (sym is)) in
    ap (λ vs. items_values (items_view vs)) here ∙ items_values-cons x (drop (i + 1) xs)

-- an array has more values than its items
pub array_values : (d : Data) (ds : Items) → Some ds ≡ as_array d → items_values ds < values d
unfolding values
array_values null ds e = cc
array_values (boolean b) ds e = cc
array_values (number n) ds e = cc
array_values (string s) ds e = cc
array_values (array es) ds e = let same : items_values ds ≡ items_values es = (let q : ds ≡ es = cc in ap items_values q) in omega (arith, same)
array_values (object ms) ds e = cc

-- the values of an object are those of its first member and of the rest
pub members_values-cons : (e : Entry) (es : List Entry) → members_values (members_view (e ∷ es)) ≡ values (view e.1) + members_values (members_view es)
unfolding members_values
members_values-cons e es = refl

-- an object has more values than its members
pub object_values : (d : Data) (ms : Members) → Some ms ≡ as_object d → members_values ms < values d
unfolding values
object_values null ms e = cc
object_values (boolean b) ms e = cc
object_values (number n) ms e = cc
object_values (string s) ms e = cc
object_values (array es) ms e = cc
object_values (object ns) ms e = let same : members_values ms ≡ members_values ns = (let q : ms ≡ ns = cc in ap members_values q) in omega (arith, same)

-- the values of a member that is there are its own
pub values_of-some : (o : Option Data) (d : Data) → Some d ≡ o → values_of o ≡ values d
unfolding values_of
values_of-some o d e = ap values_of (sym e)

-- what counts the values of a member
pub ruleset counts = (values_of-some)

-- ---- the places of a list of documents

-- one more document at the end adds its places
pub docs_schema_count-last : (ds : List Doc) (d : Doc) → docs_schema_count (docs_of (ds ++ d ∷ [])) ≡ docs_schema_count (docs_of ds) + schema_count d
unfolding docs_schema_count
docs_schema_count-last [] d = omega arith
docs_schema_count-last (e ∷ ds) d = omega (arith, docs_schema_count-last ds d)

-- one more entry at the end adds its places
pub entries_schema_count-last : (es : List (List ℕ × Doc)) (e : List ℕ × Doc) → entries_schema_count (entries_of_list (es ++ e ∷ [])) ≡ entries_schema_count (entries_of_list es) + schema_count e.1
unfolding entries_schema_count
entries_schema_count-last [] e = omega arith
entries_schema_count-last (x ∷ es) e = omega (arith, entries_schema_count-last es e)
