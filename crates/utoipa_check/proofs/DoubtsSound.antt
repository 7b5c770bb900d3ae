-- Each doubt is true: its steps lead to a tree, of which its cause holds.
use Rattle.std.proofs.Common.{◌≡◌, inl, inr, ℕ, suc, ◌+◌, List, [], ◌∷◌, Bool, true, false, cond, nat_cmp, codes, Option, Some, None, option_and_then, is_some, refl, sym, ap, subst, ◌∙◌, Ordering, Less, Equal, Greater, arith, true≢false}
use Rattle.std.specs.Ordering.{match_ordering}
use Rattle.std.specs.Cmp.Lexicographic.{slice_cmp}
use Rattle.std.proofs.lemmas.Map.Lookups.{exact_bytes}
use Rattle.serde_json.specs.Data.{Data, null, boolean, number, string, array, object, Items, no_items, item, Members, no_members, member}
use Rattle.serde_json.specs.Find.{as_str, get_member, get_item}
use Rattle.serde_json.specs.Written.{has_float}
use Rattle.utoipa_base.specs.Choices.{chosen, scheme_types, api_key_places, flow_keys, is_schema_type}
use Rattle.utoipa_base.specs.Kinds.{ObjectType, reference_object, one_of_schema, all_of_schema, any_of_schema, array_schema, object_schema, Kind, list_of, map_of, ordered_map_of, entries_of, ref_or, named, schema, array_items, additional_properties, security_scheme, api_key, flows, Mark, required, optional, or_null, defaulted, Row}
use Rattle.utoipa_base.specs.Extensions.{is_extension}
use Rattle.utoipa_base.specs.Reading.{is_null, is_named}
use Rattle.utoipa_base.specs.Tables.{table}
use Rattle.utoipa_check.specs.Taken.{taken_schema}
use Rattle.utoipa_check.specs.Doubts.{row_doubts, rows_doubts, meant_doubts, schema_doubts, reference_doubts, array_doubts, alternative_doubts, api_key_doubts, scheme_doubts, flow_doubts, flows_doubts, own_doubts, object_doubts, doubter, item_doubters, doubters, doubts}
use Rattle.utoipa_check.specs.Misfits.{at_name, at_index, unknown_name, Misfits, flow_misfits, under, is_fit, Check, Checks, check_at, entry_checks, items_misfits, entries_misfits, table_misfits, object_misfits, fits_table, fits_schema, may_be_object, meant_schema, checker, checks, without_fractions}
use Rattle.utoipa_check.specs.IsDropped.{IsMember}
use Rattle.utoipa_check.specs.Truth.{Due, of_kind, of_any_flow, flow_due, Chooses, IsTakenAsTable, IsTakenAsReference, IsNoReference, IsTakenAs, IsRow, HasToFit, AllTrueAt, AllTrue}
use Rattle.utoipa_check.specs.Places.{chosen_at}
use Rattle.utoipa_check.specs.Views.{object_kind}
use Rattle.utoipa_check.proofs.Exact.{misfits_exact}
use Rattle.utoipa_check.proofs.Sound.{all_kept, refused, chooses_as, meant_is, as_meant, AllDue, all_due, entries_due, table_sound}
use Rattle.utoipa_check.proofs.Trues.{as_wider, as_own, as_table, join_true, either_true, under_true, here_true}

-- ---- arrays

-- all doubts of a tree are true, of whatever kind it is asked
abbrev IsSound : Data → Type 0
IsSound d = (k : Kind) → AllTrue k d (doubter d k)

abbrev ItemsSound : Items → Type 0
ItemsSound no_items = Unit {0}
ItemsSound (item d ds) = IsSound d × ItemsSound ds

items_true : (k : Kind) (all : Items) (i : ℕ) (ds : Items) → ((j : ℕ) (e : Data) → get_item j ds ≡ Some e → get_item (i + j) all ≡ Some e) → ItemsSound ds → AllTrue (list_of k) (array all) (items_misfits i k (item_doubters ds))
unfolding item_doubters
items_true k all i no_items within h = tt
items_true k all i (item d ds) within h =
    join_true (of_kind (list_of k)) (array all) (under (at_index i) (doubter d k)) (items_misfits (suc i) k (item_doubters ds))
    (under_true (at_index i) (list_of k) (array all) (of_kind k) d (subst (λ n. get_item n all ≡ Some d) (omega arith) (within 0 d refl)) refl (doubter d k) (h.0 k))
    (items_true k all (suc i) ds (λ j e there. subst (λ n. get_item n all ≡ Some e) (omega arith) (within (suc j) e there)) h.1)

array_true : (ds : Items) → ItemsSound ds → (k : Kind) → AllTrue k (array ds) (array_doubts (item_doubters ds) k)
array_true ds h (list_of k) = items_true k ds 0 ds (λ j e there. subst (λ n. get_item n ds ≡ Some e) (omega arith) there) h
array_true ds h (ref_or k) = as_own k (array ds) (inl refl) (array_doubts (item_doubters ds) k) (array_true ds h k)
array_true ds h k = tt

-- ---- members

abbrev MembersSound : Members → Type 0
MembersSound no_members = Unit {0}
MembersSound (member k d ms) = IsSound d × MembersSound ms

-- null is in no doubt
null_undoubted : (d : Data) → is_null d ≡ true → (k : Kind) → doubter d k ≡ []
unfolding doubter
null_undoubted null e k = refl
null_undoubted (boolean b) e k = absurd (true≢false (sym e))
null_undoubted (number n) e k = absurd (true≢false (sym e))
null_undoubted (string s) e k = absurd (true≢false (sym e))
null_undoubted (array ds) e k = absurd (true≢false (sym e))
null_undoubted (object ms) e k = absurd (true≢false (sym e))

-- what is in doubt is true of a member of this name
abbrev DoubtTrue : Members → List ℕ → Check → Type 0
DoubtTrue all name c = (e : Data) × IsMember name e all × ((k : Kind) → AllTrue k e (c.1 k)) × (is_null e ≡ true → (k : Kind) → c.1 k ≡ [])

abbrev DoubtsTrue : Members → Checks → Type 0
DoubtsTrue all [] = Unit {0}
DoubtsTrue all (c ∷ cs) = DoubtTrue all c.0 c.1 × DoubtsTrue all cs

members_doubters : (all ms : Members) → ((n : List ℕ) (e : Data) → IsMember n e ms → IsMember n e all) → MembersSound ms → DoubtsTrue all (doubters ms)
unfolding doubters
members_doubters all no_members within h = tt
members_doubters all (member k d ms) within h = ((d, within k d (inl (refl, refl)), h.0, null_undoubted d), members_doubters all ms (λ n e there. within n e (inr there)) h.1)

-- what was found at a name
abbrev Found : Members → List ℕ → Option Check → Type 0
Found all name None = Unit {0}
Found all name (Some c) = DoubtTrue all name c

found_by_order : (all : Members) (name : List ℕ) (o : Ordering) (x z : Option Check) (y : Check) → Found all name x → (o ≡ Equal → DoubtTrue all name y) → Found all name z → Found all name (match_ordering o x (Some y) z)
found_by_order all name Less x z y f g h = f
found_by_order all name Equal x z y f g h = g refl
found_by_order all name Greater x z y f g h = h

found_at : (all : Members) (name : List ℕ) (cs : Checks) → DoubtsTrue all cs → Found all name (check_at name cs)
found_at all name [] h = tt
found_at all name (c ∷ cs) h =
    let rest = found_at all name cs h.1 in
    found_by_order all name (slice_cmp nat_cmp name c.0) (check_at name cs) (check_at name cs) c.1 rest (λ same. subst (λ n. DoubtTrue all n c.1) (sym (exact_bytes name c.0 same)) h.0) rest

-- ---- rows and maps

row_member : (n : ObjectType) (r : Row) → IsRow r (table n) → (all : Members) (c : Check) (h : DoubtTrue all r.name c) → HasToFit r.mark h.0 → AllTrue (named n) (object all) (under (at_name r.name) (c.1 r.kind))
row_member n r there all c h fit = under_true (at_name r.name) (named n) (object all) (of_kind r.kind) h.0 h.1 (r, there, refl, refl, fit) (c.1 r.kind) (h.2 r.kind)

null_or_member : (n : ObjectType) (r : Row) → IsRow r (table n) → (all : Members) (c : Check) (h : DoubtTrue all r.name c) → (is_null h.0 ≡ false → HasToFit r.mark h.0) → (b : Bool) → is_null h.0 ≡ b → AllTrue (named n) (object all) (under (at_name r.name) (c.1 r.kind))
null_or_member n r there all c h fit true is = subst (λ xs. AllTrue (named n) (object all) (under (at_name r.name) xs)) (sym (h.3 is r.kind)) tt
null_or_member n r there all c h fit false is = row_member n r there all c h (fit is)

member_true : (n : ObjectType) (r : Row) → IsRow r (table n) → (m : Mark) → r.mark ≡ m → (all : Members) (c : Check) (h : DoubtTrue all r.name c) → AllTrue (named n) (object all) (under (at_name r.name) (c.1 r.kind))
member_true n r there required is all c h = row_member n r there all c h (subst (λ m. HasToFit m h.0) (sym is) tt)
member_true n r there optional is all c h = null_or_member n r there all c h (λ other. subst (λ m. HasToFit m h.0) (sym is) other) (is_null h.0) refl
member_true n r there or_null is all c h = null_or_member n r there all c h (λ other. subst (λ m. HasToFit m h.0) (sym is) other) (is_null h.0) refl
member_true n r there defaulted is all c h = row_member n r there all c h (subst (λ m. HasToFit m h.0) (sym is) tt)

row_true : (n : ObjectType) (r : Row) → IsRow r (table n) → (all : Members) (o : Option Check) → Found all r.name o → AllTrue (named n) (object all) (row_doubts r.name r.kind o)
row_true n r there all None h = tt
row_true n r there all (Some c) h = member_true n r there r.mark refl all c h

rows_true : (n : ObjectType) (rs : List Row) → ((r : Row) → IsRow r rs → IsRow r (table n)) → (all : Members) (cs : Checks) → DoubtsTrue all cs → AllTrue (named n) (object all) (rows_doubts rs cs)
rows_true n [] within all cs h = tt
rows_true n (r ∷ rs) within all cs h =
    join_true (of_kind (named n)) (object all) (row_doubts r.name r.kind (check_at r.name cs)) (rows_doubts rs cs) (row_true n r (within r (inl refl)) all (check_at r.name cs) (found_at all r.name cs h)) (rows_true n rs (λ q there. within q (inr there)) all cs h)

table_true : (n : ObjectType) (all : Members) (cs : Checks) → DoubtsTrue all cs → AllTrue (named n) (object all) (rows_doubts (table n) cs)
table_true n all cs h = rows_true n (table n) (λ r there. there) all cs h

entries_true : (outer k : Kind) (all : Members) (cs : Checks) → AllDue outer k cs → DoubtsTrue all cs → AllTrue outer (object all) (entries_misfits k cs)
entries_true outer k all [] due h = tt
entries_true outer k all (c ∷ cs) due h =
    join_true (of_kind outer) (object all) (under (at_name c.0) (c.1.1 k)) (entries_misfits k cs) (under_true (at_name c.0) outer (object all) (of_kind k) h.0.0 h.0.1 (due.0 h.0.0) (c.1.1 k) (h.0.2 k)) (entries_true outer k all cs due.1 h.1)

kept_true : (all : Members) (b : Bool) (c : List ℕ × Check) (cs : Checks) → DoubtTrue all c.0 c.1 → DoubtsTrue all cs → DoubtsTrue all (cond b cs (c ∷ cs))
kept_true all true c cs g h = h
kept_true all false c cs g h = (g, h)

entry_checks_true : (all : Members) (cs : Checks) → DoubtsTrue all cs → DoubtsTrue all (entry_checks cs)
entry_checks_true all [] h = tt
entry_checks_true all (c ∷ cs) h = kept_true all (is_extension c.0) c (entry_checks cs) h.0 (entry_checks_true all cs h.1)

-- ---- choices

-- the table by which a schema is read, by five tests of which fit
taken_by : (P : ObjectType → Type 0) (meant : ObjectType) (a b c d e f : Bool) → (a ≡ true → P one_of_schema) → (b ≡ true → P all_of_schema) → (c ≡ true → P any_of_schema) → (d ≡ true → P array_schema) → (f ≡ true → P object_schema) → P meant
    → P (cond a one_of_schema (cond b all_of_schema (cond c any_of_schema (cond d array_schema (cond e (cond f object_schema meant) meant)))))
taken_by P meant true b c d e f u v w x y h = u refl
taken_by P meant false true c d e f u v w x y h = v refl
taken_by P meant false false true d e f u v w x y h = w refl
taken_by P meant false false false true e f u v w x y h = x refl
taken_by P meant false false false false true true u v w x y h = y refl
taken_by P meant false false false false true false u v w x y h = h
taken_by P meant false false false false false f u v w x y h = h

reads_as : (n : ObjectType) (ms : Members) → is_schema_type n ≡ true → fits_table n (checks ms) ≡ true → IsTakenAsTable (object ms) n
unfolding checker
reads_as n ms is e = (is, inr (sym (misfits_exact (named n) (object ms)) ∙ e))

-- it is the one that was meant, or one that the object reads as
taken_is : (ms : Members) → IsTakenAsTable (object ms) (taken_schema ms (checks ms))
taken_is ms =
    let cs = checks ms in
    taken_by (λ n. IsTakenAsTable (object ms) n) (meant_schema ms) (fits_table one_of_schema cs) (fits_table all_of_schema cs) (fits_table any_of_schema cs) (fits_table array_schema cs) (may_be_object ms) (fits_table object_schema cs)
    (reads_as one_of_schema ms refl) (reads_as all_of_schema ms refl) (reads_as any_of_schema ms refl) (reads_as array_schema ms refl) (reads_as object_schema ms refl) (meant_is ms, inl refl)

schema_true : (ms : Members) (ds : Checks) → DoubtsTrue ms ds → AllTrue schema (object ms) (schema_doubts ms (checks ms) ds)
schema_true ms ds h =
    let meant = table_misfits (meant_schema ms) (checks ms) in
    let kept = rows_doubts (table (taken_schema ms (checks ms))) ds in
    join_true (of_kind schema) (object ms) (meant_doubts ms (checks ms)) kept
    (either_true (of_kind schema) (object ms) (fits_schema ms (checks ms)) meant [] (as_meant ms meant (table_sound (meant_schema ms) ms)) tt)
    (as_table (taken_schema ms (checks ms)) (object ms) (taken_is ms) kept (table_true (taken_schema ms (checks ms)) ms ds h))

-- ---- security schemes and flows

-- the word of a member that chooses a kind
text_chooses : (o : Option Data) (choices : List (List ℕ × Kind)) (k : Kind) → option_and_then (λ word. chosen word choices) (option_and_then as_str o) ≡ Some k → (word : List ℕ) × (o ≡ Some (string word)) × (chosen word choices ≡ Some k)
text_chooses None choices k e = absurd (true≢false (sym (ap is_some e)))
text_chooses (Some null) choices k e = absurd (true≢false (sym (ap is_some e)))
text_chooses (Some (boolean b)) choices k e = absurd (true≢false (sym (ap is_some e)))
text_chooses (Some (number n)) choices k e = absurd (true≢false (sym (ap is_some e)))
text_chooses (Some (string s)) choices k e = (s, refl, e)
text_chooses (Some (array ds)) choices k e = absurd (true≢false (sym (ap is_some e)))
text_chooses (Some (object ms)) choices k e = absurd (true≢false (sym (ap is_some e)))

chooses : (name : List ℕ) (choices : List (List ℕ × Kind)) (ms : Members) (k : Kind) → chosen_at name choices ms ≡ Some k → Chooses name choices (object ms) k
chooses name choices ms k e = text_chooses (get_member name ms) choices k e

key_true : (ms : Members) (ds : Checks) → DoubtsTrue ms ds → (o : Option Kind) → chosen_at (codes "in") api_key_places ms ≡ o → AllTrue api_key (object ms) (alternative_doubts o ds)
key_true ms ds h (Some (named n)) e =
    as_wider (named n) api_key (object ms) (λ j is. inr (chooses_as (codes "in") api_key_places (object ms) (named n) j (chooses (codes "in") api_key_places ms (named n) e) is)) (rows_doubts (table n) ds) (table_true n ms ds h)
key_true ms ds h o e = tt

api_key_true : (ms : Members) (ds : Checks) → DoubtsTrue ms ds → AllTrue api_key (object ms) (api_key_doubts ms ds)
api_key_true ms ds h = key_true ms ds h (chosen_at (codes "in") api_key_places ms) refl

scheme_true : (ms : Members) (ds : Checks) → DoubtsTrue ms ds → (o : Option Kind) → chosen_at (codes "type") scheme_types ms ≡ o → AllTrue security_scheme (object ms) (scheme_doubts o ms ds)
scheme_true ms ds h (Some api_key) e =
    as_wider api_key security_scheme (object ms) (λ j taken. inr (inr (chooses (codes "type") scheme_types ms api_key e, taken))) (api_key_doubts ms ds) (api_key_true ms ds h)
scheme_true ms ds h (Some (named n)) e =
    as_wider (named n) security_scheme (object ms) (λ j is. inr (inl (chooses_as (codes "type") scheme_types (object ms) (named n) j (chooses (codes "type") scheme_types ms (named n) e) is))) (rows_doubts (table n) ds) (table_true n ms ds h)
scheme_true ms ds h o e = tt

flow_true : (o : Option ObjectType) (e : Data) (c d : Kind → Misfits) → ((k : Kind) → AllTrue k e (d k)) → AllTrueAt (flow_due o) e (flow_doubts o c d)
flow_true (Some n) e c d h = h (named n)
flow_true None e c d h = either_true of_any_flow e (is_fit (flow_misfits None c)) _ [] (here_true (unknown_name _) of_any_flow e refl (refl, refl)) tt

flows_true : (all : Members) (cs ds : Checks) → DoubtsTrue all ds → AllTrue flows (object all) (flows_doubts cs ds)
flows_true all [] ds h = tt
flows_true all (c ∷ cs) [] h = tt
flows_true all (c ∷ cs) (d ∷ ds) h =
    let n = chosen d.0 flow_keys in
    join_true (of_kind flows) (object all) (under (at_name d.0) (flow_doubts n c.1.1 d.1.1)) (flows_doubts cs ds)
    (under_true (at_name d.0) flows (object all) (flow_due n) h.0.0 h.0.1 refl (flow_doubts n c.1.1 d.1.1) (flow_true n h.0.0 c.1.1 d.1.1 h.0.2))
    (flows_true all cs ds h.1)

reference_true : (e : Due) (d : Data) (b : Bool) (rs ms ds : Misfits) → (b ≡ true → AllTrueAt e d rs) → (b ≡ false → AllTrueAt e d ds) → (is_fit rs ≡ false → AllTrueAt e d ds) → AllTrueAt e d (reference_doubts b rs ms ds)
reference_true e d false rs ms ds f g h = g refl
reference_true e d true [] ms ds f g h = tt
reference_true e d true (r ∷ rs) [] ds f g h = join_true e d (r ∷ rs) ds (f refl) (h refl)
reference_true e d true (r ∷ rs) (m ∷ ms) ds f g h = h refl

-- ---- objects

own_true : (ms : Members) (ds : Checks) → DoubtsTrue ms ds → (k : Kind) → AllTrue k (object ms) (own_doubts ms (checks ms) ds k)
own_true ms ds h (map_of k) = entries_true (map_of k) k ms ds (all_due (map_of k) k (λ n t. refl) ds) h
own_true ms ds h (ordered_map_of k) = entries_true (ordered_map_of k) k ms ds (all_due (ordered_map_of k) k (λ n t. refl) ds) h
own_true ms ds h (entries_of k) = entries_true (entries_of k) k ms (entry_checks ds) (entries_due k ds) (entry_checks_true ms ds h)
own_true ms ds h (named n) = table_true n ms ds h
own_true ms ds h schema = schema_true ms ds h
own_true ms ds h security_scheme = scheme_true ms ds h (chosen_at (codes "type") scheme_types ms) refl
own_true ms ds h api_key = api_key_true ms ds h
own_true ms ds h flows = flows_true ms (checks ms) ds h
own_true ms ds h k = tt

-- where no reference stands, what an object of the kind is taken as otherwise
as_object : (k : Kind) (ms : Members) → IsNoReference (object ms) → (j : Kind) → IsTakenAs (object_kind k) (object ms) j → IsTakenAs k (object ms) j
as_object (ref_or k) ms other j h = inr (inr (other, as_object k ms other j h))
as_object array_items ms other j h = inr (inr (other, h))
as_object additional_properties ms other j h = inr (inr (other, h))
as_object k ms other j h = h

reference_or_true : (k : Kind) (ms : Members) (ds : Checks) → ((j : Kind) → IsTakenAsReference (object ms) j → IsTakenAs k (object ms) j) → DoubtsTrue ms ds
    → AllTrue k (object ms) (reference_doubts (is_named (codes "$ref") ms) (table_misfits reference_object (checks ms)) (object_misfits ms (checks ms) (object_kind k)) (own_doubts ms (checks ms) ds (object_kind k)))
unfolding checker
reference_or_true k ms ds as_reference h =
    let reference = table_misfits reference_object (checks ms) in
    let own = own_doubts ms (checks ms) ds (object_kind k) in
    let otherwise : IsNoReference (object ms) → AllTrue k (object ms) own = λ other. as_wider (object_kind k) k (object ms) (as_object k ms other) own (own_true ms ds h (object_kind k)) in
    reference_true (of_kind k) (object ms) (is_named (codes "$ref") ms) reference (object_misfits ms (checks ms) (object_kind k)) own
    (λ e. as_wider (named reference_object) k (object ms) (λ j is. as_reference j (is, e)) reference (table_sound reference_object ms))
    (λ e. otherwise (inl e))
    (λ e. otherwise (inr (refused (named reference_object) (object ms) e)))

object_true : (ms : Members) (ds : Checks) → DoubtsTrue ms ds → (k : Kind) → AllTrue k (object ms) (object_doubts ms (checks ms) ds k)
object_true ms ds h (ref_or k) = reference_or_true (ref_or k) ms ds (λ j is. inr (inl is)) h
object_true ms ds h array_items = reference_or_true array_items ms ds (λ j is. inr (inl is)) h
object_true ms ds h additional_properties = reference_or_true additional_properties ms ds (λ j is. inr (inl is)) h
object_true ms ds h k = own_true ms ds h k

mutual
  unfolding doubter

  tree_sound : (t : Data) → IsSound t
  tree_sound null = λ k. tt
  tree_sound (boolean b) = λ k. tt
  tree_sound (number n) = λ k. tt
  tree_sound (string s) = λ k. tt
  tree_sound (array ds) = array_true ds (items_sound ds)
  tree_sound (object ms) = object_true ms (doubters ms) (members_doubters ms ms (λ n e there. there) (members_sound ms))

  items_sound : (ds : Items) → ItemsSound ds
  items_sound no_items = tt
  items_sound (item d ds) = (tree_sound d, items_sound ds)

  members_sound : (ms : Members) → MembersSound ms
  members_sound no_members = tt
  members_sound (member k d ms) = (tree_sound d, members_sound ms)

-- each doubt is true
pub doubts_sound : (k : Kind) (t : Data) → AllTrue k t (doubts k t)
doubts_sound k t = tree_sound t k

-- of a plain tree none is a fraction
pub doubts_kept : (k : Kind) (t : Data) → has_float t ≡ false → without_fractions (doubts k t) ≡ doubts k t
doubts_kept k t plain = all_kept (of_kind k) t plain (doubts k t) (doubts_sound k t)
