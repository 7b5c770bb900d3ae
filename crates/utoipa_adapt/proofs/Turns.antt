-- Turns of the loops that tell what a set of rules changes, and of those that change it.
use Rattle.std.proofs.Common.{◌≡◌, ◌∙◌, refl, sym, ap, append_assoc, arith, ℕ, suc, ◌+◌, List, [], ◌∷◌, ◌++◌, map, drop, Option, Some, None, option_map, Bool, true, false, String, Global, BTreeMap, length, codes, ◌≤◌, is_some, is_eq, cond, nat_cmp, string_bytes, string_cmp, Ordering, Less, Equal, Greater}
use Rattle.std.proofs.Math.Dec.{leb}
use Rattle.std.proofs.lemmas.Bool.{le-leb, lt-leb}
use Rattle.std.proofs.lemmas.List.{append-nil, map-append}
use Rattle.std.specs.BTreeMap.{insert_entry, is_at}
use Rattle.std.specs.Cmp.Lexicographic.{slice_cmp}
use Rattle.std.specs.List.Sorted.{IsStrictlySortedBy}
use Rattle.std.specs.Map.{keys_of, lookup, remove_entry}
use Rattle.std.specs.Ordering.{match_ordering}
use Rattle.serde_json.specs.Data.{Data, object, item, Members, no_members, member, put}
use Rattle.serde_json.specs.Find.{get_member}
use Rattle.serde_json.specs.View.{view, items_of, items_view, members_view}
use Rattle.serde_json.specs.declared.value.Value.{Value, Object}
use Rattle.serde_json.proofs.Views.{Entry, view-Object, put_last, members_view-insert_entry, view-lookup}
use Rattle.utoipa_base.specs.Kinds.{Kind}
use Rattle.utoipa_check.proofs.Steps.{outwards_last}
use Rattle.utoipa_check.specs.Misfits as places
use Rattle.utoipa_check.specs.Views.{step_of, outwards}
use Rattle.utoipa_check.specs.declared.misfit.Step.{Step}
use Rattle.utoipa_adapt.specs.Adapted.{Told, member_kind, made, made_items, made_members, under, items_told, members_told, changes}
use Rattle.utoipa_adapt.specs.Rules.{RuleSet, combination}
use Rattle.utoipa_adapt.specs.Trees.{without, then_item, has_two, two_or_more, is_only_reference, only_one}
use Rattle.utoipa_adapt.specs.Views.{rule_of, told_of, all_told}
use Rattle.utoipa_adapt.specs.declared.telling.AdaptedPlace.{AdaptedPlace}
use Rattle.utoipa_adapt.proofs.Edited.{same_name, all_other}

-- ---- places behind a step

under_join : (s : places.Step) (xs ys : List Told) → under s (xs ++ ys) ≡ under s xs ++ under s ys
under_join s [] ys = refl
under_join s (x ∷ xs) ys = ap (λ ts. (s ∷ x.0, x.1) ∷ ts) (under_join s xs ys)

-- one more place, with a step more
pub put_one : (xs ys start yielded : List AdaptedPlace) (m n : AdaptedPlace) (s : Step) → all_told xs ≡ all_told start ++ under (step_of s) (all_told yielded) → n.pointer.steps.items ≡ m.pointer.steps.items ++ s ∷ []
    → n.rule ≡ m.rule → ys ≡ xs ++ n ∷ [] → all_told ys ≡ all_told start ++ under (step_of s) (all_told (yielded ++ m ∷ []))
put_one xs ys start yielded m n s before stepped same pushed =
    let moved : told_of n ≡ (step_of s ∷ outwards m.pointer.steps.items [], rule_of m.rule) =
    ap (λ r. (outwards r [], rule_of n.rule)) stepped ∙ ap (λ a. (outwards (m.pointer.steps.items ++ s ∷ []) [], rule_of a)) same ∙ ap (λ r. (r, rule_of m.rule)) (outwards_last m.pointer.steps.items s []) in
    ap all_told pushed ∙ map-append told_of xs (n ∷ []) ∙ ap (λ r. r ++ told_of n ∷ []) before ∙ append_assoc (all_told start) (under (step_of s) (all_told yielded)) (told_of n ∷ [])
    ∙ ap (λ r. all_told start ++ (under (step_of s) (all_told yielded) ++ r ∷ [])) moved
    ∙ ap (λ r. all_told start ++ r) (sym (ap (under (step_of s)) (map-append told_of yielded (m ∷ [])) ∙ under_join (step_of s) (all_told yielded) (all_told (m ∷ []))))

-- ---- turns of the loops that tell

pub item_step : (set : RuleSet) (k : Kind) (xs : List Value) (i : ℕ) (v : Value) (found new inner : List AdaptedPlace) (all : List Told) → drop i xs ≡ v ∷ drop (i + 1) xs → all_told found ++ items_told set i (items_view (drop i xs)) k ≡ all
    → all_told inner ≡ changes set k (view v) → all_told new ≡ all_told found ++ under (places.at_index i) (all_told inner) → all_told new ++ items_told set (i + 1) (items_view (drop (i + 1) xs)) k ≡ all
item_step set k xs i v found new inner all here so_far inside put =
    let rest = items_told set (i + 1) (items_view (drop (i + 1) xs)) k in
    let next : suc i ≡ i + 1 = omega arith in
    ap (λ r. r ++ rest) put ∙ append_assoc (all_told found) (under (places.at_index i) (all_told inner)) rest ∙ ap (λ r. all_told found ++ (under (places.at_index i) r ++ rest)) inside
    ∙ ap (λ n. all_told found ++ (under (places.at_index i) (changes set k (view v)) ++ items_told set n (items_view (drop (i + 1) xs)) k)) (sym next)
    ∙ ap (λ ys. all_told found ++ items_told set i (items_view ys) k) (sym here) ∙ so_far

pub items_end : (set : RuleSet) (k : Kind) (xs : List Value) (i : ℕ) (found : List AdaptedPlace) (all : List Told) → drop i xs ≡ [] → all_told found ++ items_told set i (items_view (drop i xs)) k ≡ all → all_told found ≡ all
items_end set k xs i found all none so_far = sym (append-nil (all_told found)) ∙ ap (λ ys. all_told found ++ items_told set i (items_view ys) k) (sym none) ∙ so_far

pub member_step : (set : RuleSet) (k : Kind) (es left : List Entry) (e : Entry) (found new inner : List AdaptedPlace) (all : List Told) → es ≡ e ∷ left → all_told found ++ members_told set (members_view es) k ≡ all
    → all_told inner ≡ changes set (member_kind k (string_bytes e.0)) (view e.1) → all_told new ≡ all_told found ++ under (places.at_name (string_bytes e.0)) (all_told inner) → all_told new ++ members_told set (members_view left) k ≡ all
member_step set k es left e found new inner all here so_far inside put =
    let rest = members_told set (members_view left) k in
    let at = under (places.at_name (string_bytes e.0)) in
    ap (λ r. r ++ rest) put ∙ append_assoc (all_told found) (at (all_told inner)) rest ∙ ap (λ r. all_told found ++ (at r ++ rest)) inside ∙ ap (λ r. all_told found ++ members_told set (members_view r) k) (sym here) ∙ so_far

pub members_end : (set : RuleSet) (k : Kind) (es : List Entry) (found : List AdaptedPlace) (all : List Told) → es ≡ [] → all_told found ++ members_told set (members_view es) k ≡ all → all_told found ≡ all
members_end set k es found all none so_far = sym (append-nil (all_told found)) ∙ ap (λ r. all_told found ++ members_told set (members_view r) k) (sym none) ∙ so_far

-- ---- turns of the loops that change

-- what the rules make of values
abbrev pub each_made : RuleSet → Kind → List Value → List Data
each_made set k vs = map (λ v. made set k (view v)) vs

pub items_made : (set : RuleSet) (k : Kind) (vs : List Value) → made_items set (items_view vs) k ≡ items_of (each_made set k vs)
items_made set k [] = refl
items_made set k (v ∷ vs) = ap (item (made set k (view v))) (items_made set k vs)

pub one_made : (set : RuleSet) (k : Kind) (done new passed : List Value) (v w : Value) → map view done ≡ each_made set k passed → new ≡ done ++ w ∷ [] → view w ≡ made set k (view v) → map view new ≡ each_made set k (passed ++ v ∷ [])
one_made set k done new passed v w before pushed is =
    ap (map view) pushed ∙ map-append view done (w ∷ []) ∙ ap (λ r. r ++ view w ∷ []) before ∙ ap (λ d. each_made set k passed ++ d ∷ []) is ∙ sym (map-append (λ x. made set k (view x)) passed (v ∷ []))

made_put_at : (set : RuleSet) (o : Ordering) (k : Kind) (name l : List ℕ) (v d : Data) (ms : Members) → slice_cmp nat_cmp name l ≡ o → put name (made set (member_kind k name) v) (made_members set ms k) ≡ made_members set (put name v ms) k
    → match_ordering o (member name (made set (member_kind k name) v) (member l (made set (member_kind k l) d) (made_members set ms k))) (member l (made set (member_kind k name) v) (made_members set ms k))
    (member l (made set (member_kind k l) d) (put name (made set (member_kind k name) v) (made_members set ms k))) ≡ made_members set (match_ordering o (member name v (member l d ms)) (member l v ms) (member l d (put name v ms))) k
made_put_at set Less k name l v d ms is later = refl
made_put_at set Equal k name l v d ms is later = ap (λ n. member l (made set (member_kind k n) v) (made_members set ms k)) (same_name name l is)
made_put_at set Greater k name l v d ms is later = ap (member l (made set (member_kind k l) d)) later

made_put : (set : RuleSet) (k : Kind) (name : List ℕ) (v : Data) (ms : Members) → put name (made set (member_kind k name) v) (made_members set ms k) ≡ made_members set (put name v ms) k
made_put set k name v no_members = refl
made_put set k name v (member l d ms) = made_put_at set _ k name l v d ms refl (made_put set k name v ms)

-- one more member, put after those before it
pub member_made : (set : RuleSet) (k : Kind) (done : List Entry) (e : Entry) (more so_far new : List Entry) (w : Value) → IsStrictlySortedBy string_cmp (keys_of (done ++ e ∷ more)) → members_view so_far ≡ made_members set (members_view done) k
    → view w ≡ made set (member_kind k (string_bytes e.0)) (view e.1) → new ≡ insert_entry string_cmp so_far e.0 w → members_view new ≡ made_members set (members_view (done ++ e ∷ [])) k
member_made set k done e more so_far new w sorted before is inserted =
    let name = string_bytes e.0 in
    ap members_view inserted ∙ members_view-insert_entry so_far e.0 w ∙ ap (put name (view w)) before ∙ ap (λ d. put name d (made_members set (members_view done) k)) is
    ∙ made_put set k name (view e.1) (members_view done) ∙ ap (λ ms. made_members set ms k) (put_last done e more sorted)

-- ---- whether a name is there

some_view : (o : Option Value) → is_some (option_map view o) ≡ is_some o
some_view None = refl
some_view (Some v) = refl

pub named_there : (name : List ℕ) (es : List Entry) → is_some (lookup (is_at (λ k. slice_cmp nat_cmp name (string_bytes k))) es) ≡ is_some (get_member name (members_view es))
named_there name es = sym (some_view _) ∙ ap is_some (view-lookup name es)

-- ---- a member taken away

without_absent_at : (o : Ordering) (l : List ℕ) (d : Data) (ms less : Members) (rest : Option Data) → match_ordering o rest (Some d) rest ≡ None → (rest ≡ None → less ≡ ms)
    → match_ordering o (member l d less) less (member l d less) ≡ member l d ms
without_absent_at Less l d ms less rest h later = ap (member l d) (later h)
without_absent_at Equal l d ms less rest h later = cc
without_absent_at Greater l d ms less rest h later = ap (member l d) (later h)

without_absent : (name : List ℕ) (ms : Members) → get_member name ms ≡ None → without name ms ≡ ms
without_absent name no_members h = refl
without_absent name (member l d ms) h = without_absent_at (slice_cmp nat_cmp name l) l d ms (without name ms) (get_member name ms) h (without_absent name ms)

lookup_cond : (test : String Global → Bool) (b : Bool) (xs ys : List Entry) → lookup test (cond b xs ys) ≡ cond b (lookup test xs) (lookup test ys)
lookup_cond test true xs ys = refl
lookup_cond test false xs ys = refl

removed_at : (o : Ordering) (e : Entry) (es less : List Entry) (ms : Members) (here later : Option Value) → cond (is_eq o) here (cond (is_eq o) (Some e.1) later) ≡ None → (here ≡ None → ms ≡ members_view es) → (later ≡ None → members_view less ≡ ms)
    → members_view (cond (is_eq o) es (e ∷ less)) ≡ match_ordering o (member (string_bytes e.0) (view e.1) ms) ms (member (string_bytes e.0) (view e.1) ms)
removed_at Less e es less ms here later h stays goes = ap (member (string_bytes e.0) (view e.1)) (goes h)
removed_at Equal e es less ms here later h stays goes = sym (stays h)
removed_at Greater e es less ms here later h stays goes = ap (member (string_bytes e.0) (view e.1)) (goes h)

abbrev pub is_named : List ℕ → String Global → Bool
is_named name = is_at (λ k. slice_cmp nat_cmp name (string_bytes k))

-- where no other entry of the name is left
pub removed : (name : List ℕ) (es : List Entry) → lookup (is_named name) (remove_entry (is_named name) es) ≡ None → members_view (remove_entry (is_named name) es) ≡ without name (members_view es)
removed name [] h = refl
removed name (e ∷ es) h =
    let less = remove_entry (is_named name) es in
    removed_at (slice_cmp nat_cmp name (string_bytes e.0)) e es less (without name (members_view es)) (lookup (is_named name) es) (lookup (is_named name) less)
    (sym (lookup_cond (is_named name) (is_named name e.0) es (e ∷ less)) ∙ h) (λ none. without_absent name (members_view es) (sym (view-lookup name es) ∙ ap (option_map view) none)) (removed name es)

-- ---- lists of trees

pub pushed_view : (xs : List Value) (v : Value) → items_view (xs ++ v ∷ []) ≡ then_item (items_view xs) (view v)
pushed_view [] v = refl
pushed_view (x ∷ xs) v = ap (item (view x)) (pushed_view xs v)

two_there : (es : List Entry) → leb 2 (length es) ≡ two_or_more (members_view es)
two_there [] = lt-leb 2 0 (omega arith)
two_there (e ∷ []) = lt-leb 2 1 (omega arith)
two_there (e ∷ f ∷ es) = le-leb 2 (length (e ∷ f ∷ es)) (omega arith)

pub object_of_two : (m : BTreeMap (String Global) Value) → leb 2 (length m.entries) ≡ has_two (view (Object m))
object_of_two m = two_there m.entries ∙ ap has_two (sym (view-Object m))

pub not_only : (vs : List Value) → 2 ≤ length vs → false ≡ is_only_reference (items_view vs)
not_only [] h = refl
not_only (v ∷ []) h = absurd (omega (arith, h))
not_only (v ∷ w ∷ vs) h = refl

-- ---- the only combination, once each was taken away

only_viewed : (x y z : Option Value) → option_map view (only_one x y z) ≡ only_one (option_map view x) (option_map view y) (option_map view z)
only_viewed (Some x) None None = refl
only_viewed None (Some y) None = refl
only_viewed None None (Some z) = refl
only_viewed None None None = refl
only_viewed (Some x) (Some y) None = refl
only_viewed (Some x) (Some y) (Some z) = refl
only_viewed (Some x) None (Some z) = refl
only_viewed None (Some y) (Some z) = refl

pub combined_left : (ms : Members) (x y z : Option Value) (a b : Members) → option_map view x ≡ get_member (codes "allOf") ms → a ≡ without (codes "allOf") ms → option_map view y ≡ get_member (codes "oneOf") a → b ≡ without (codes "oneOf") a
    → option_map view z ≡ get_member (codes "anyOf") b → option_map view (only_one x y z) ≡ combination (object ms)
combined_left ms x y z a b all_of a_is first b_is second =
    let one_of = first ∙ ap (get_member (codes "oneOf")) a_is ∙ all_other (codes "oneOf") (codes "allOf" ∷ []) ms refl in
    let any_of = second ∙ ap (get_member (codes "anyOf")) (b_is ∙ ap (without (codes "oneOf")) a_is) ∙ all_other (codes "anyOf") (codes "allOf" ∷ codes "oneOf" ∷ []) ms refl in
    only_viewed x y z ∙ ap (λ o. only_one o (option_map view y) (option_map view z)) all_of ∙ ap (λ o. only_one (get_member (codes "allOf") ms) o (option_map view z)) one_of
    ∙ ap (only_one (get_member (codes "allOf") ms) (get_member (codes "oneOf") ms)) any_of
