-- The walk over two trees.
use Rattle.std.proofs.Common.{◌≡◌, ◌==◌, ℕ, suc, ◌+◌, ◌*◌, ◌<◌, ◌≤◌, List, [], ◌∷◌, ◌++◌, length, drop, reverse, map, Bool, true, false, Option, Some, refl, sym, ap, ◌∙◌, arith, append_assoc, ◌↔◌, IsTrue, rules, Global, Vec, String}
use Rattle.std.proofs.lemmas.List.{reverse-append, map-append, append-nil, drop_all}
use Rattle.std.proofs.lemmas.Grind.{reverse_onto}
use Rattle.std.specs.BTreeMap.{BTreeMap}
use Rattle.serde_json.specs.Data.{Data, null, boolean, number, string, array, object, Items, no_items, item, Members, no_members, member}
use Rattle.serde_json.specs.Find.{get, at}
use Rattle.serde_json.specs.View.{view, items_view, members_view}
use Rattle.serde_json.specs.declared.value.Value.{Value, Array, Object}
use Rattle.serde_json.proofs.Views.{Entry, view-Array, view-Object}
use Rattle.utoipa_base.specs.Values.{values, items_values, members_values}
use Rattle.utoipa_check.specs.Dropped as specs
use Rattle.utoipa_check.specs.Dropped.{changed, here, under, behind, absence, is_alike, is_empty, unless_alike, dropped, items_dropped, members_dropped}
use Rattle.utoipa_check.specs.Moves.{Move, enter, leave, items_moves, members_moves, inner_moves, outward, along, left, work_left}
use Rattle.utoipa_check.specs.DroppedViews.{loss_of, dropped_of, all_dropped, move_of, moves_of, stacked, path_of}
use Rattle.utoipa_check.specs.Misfits.{Step, at_name, at_index}
use Rattle.utoipa_check.specs.Views.{step_of, outwards}
use Rattle.utoipa_check.specs.declared.dropped.Dropped as program_dropped
use Rattle.utoipa_check.specs.declared.misfit.Step as program_step
use Rattle.utoipa_check.specs.declared.moves.Move as program_moves

-- ---- empty trees

counted_items : (vs : List Value) (n : ℕ) → n ≡ length vs → (n == 0) ≡ is_empty (array (items_view vs))
counted_items [] n e = ap (λ m. m == 0) e
counted_items (v ∷ vs) n e = ap (λ m. m == 0) e ∙ search rules

pub empty_items : (v : Value) (items : Vec Value Global) (b : Bool) → v ≡ Array items → b ≡ (items.len == 0) → b ≡ is_empty (view v)
empty_items v items b is e = e ∙ counted_items items.items items.len items.ok.0 ∙ ap is_empty (sym (view-Array items) ∙ ap view (sym is))

counted_members : (es : List Entry) (b : Bool) → (IsTrue b ↔ (length es ≡ 0)) → b ≡ is_empty (object (members_view es))
counted_members [] true h = refl
counted_members [] false h = h.1 refl
counted_members (e ∷ es) true h = absurd (let n : length (e ∷ es) ≡ 0 = h.0 refl in omega arith)
counted_members (e ∷ es) false h = refl

pub empty_members : (v : Value) (m : BTreeMap (String Global) Value) (b : Bool) → v ≡ Object m → (IsTrue b ↔ (length m.entries ≡ 0)) → b ≡ is_empty (view v)
empty_members v m b is h = counted_members m.entries b h ∙ ap is_empty (sym (view-Object m) ∙ ap view (sym is))

-- ---- lists

pub map_reverse : {X Y : Type 0} (f : X → Y) (xs : List X) → map f (reverse xs) ≡ reverse (map f xs)
map_reverse f [] = refl
map_reverse f (x ∷ xs) = ap (map f) (reverse_onto xs x []) ∙ map-append f (reverse xs) (x ∷ []) ∙ ap (λ ys. ys ++ f x ∷ []) (map_reverse f xs) ∙ sym (reverse_onto (map f xs) (f x) [])

-- what was copied up to the end is all
pub all_copied : {X : Type 0} (done xs : List X) (i : ℕ) → done ++ drop i xs ≡ xs → length xs ≤ i → done ≡ xs
all_copied done xs i e past = sym (append-nil done) ∙ ap (λ ys. done ++ ys) (sym (drop_all i xs past)) ∙ e

pub none_there : {X : Type 0} (xs : List X) (n : ℕ) → n ≡ length xs → n ≡ 0 → xs ≡ []
none_there [] n e z = refl
none_there (x ∷ xs) n e z = absurd (omega arith)

-- the first of some moves is done last
onto : (t : Move) (ts us : List Move) → reverse (t ∷ ts) ++ us ≡ reverse ts ++ t ∷ us
onto t ts us = ap (λ xs. xs ++ us) (reverse_onto ts t []) ∙ append_assoc (reverse ts) (t ∷ []) us

-- ---- places

pub along_join : (path : List Step) (xs ys : List specs.Dropped) → along path (xs ++ ys) ≡ along path xs ++ along path ys
along_join path [] ys = refl
along_join path (x ∷ xs) ys = ap (λ ps. (outward path x.0, x.1) ∷ ps) (along_join path xs ys)

pub along_none : (xs : List specs.Dropped) → along [] xs ≡ xs
along_none [] = refl
along_none (x ∷ xs) = ap (λ ps. x ∷ ps) (along_none xs)

pub along_under : (path : List Step) (s : Step) (xs : List specs.Dropped) → along path (under s xs) ≡ along (s ∷ path) xs
along_under path s [] = refl
along_under path s (x ∷ xs) = ap (λ ps. (outward path (s ∷ x.0), x.1) ∷ ps) (along_under path s xs)

-- ---- what some moves find

items_left : (path : List Step) (i : ℕ) (ds : Items) (e : Data) (ts : List Move) → left path (reverse (items_moves i ds e) ++ ts) ≡ left path ts ++ along path (items_dropped i ds e)
items_left path i no_items e ts = sym (append-nil (left path ts))
items_left path i (item d ds) e ts =
    let first = behind (at_index i) (absence (at_index i) d) (dropped d) (at i e) in
    ap (left path) (onto (enter (at_index i) d (at i e)) (items_moves (suc i) ds e) ts) ∙ items_left path (suc i) ds e (enter (at_index i) d (at i e) ∷ ts)
    ∙ append_assoc (left path ts) (along path first) (along path (items_dropped (suc i) ds e)) ∙ ap (λ ps. left path ts ++ ps) (sym (along_join path first (items_dropped (suc i) ds e)))

members_left : (path : List Step) (ms : Members) (e : Data) (ts : List Move) → left path (reverse (members_moves ms e) ++ ts) ≡ left path ts ++ along path (members_dropped ms e)
members_left path no_members e ts = sym (append-nil (left path ts))
members_left path (member k d ms) e ts =
    let first = behind (at_name k) (absence (at_name k) d) (dropped d) (get k e) in
    ap (left path) (onto (enter (at_name k) d (get k e)) (members_moves ms e) ts) ∙ members_left path ms e (enter (at_name k) d (get k e) ∷ ts)
    ∙ append_assoc (left path ts) (along path first) (along path (members_dropped ms e)) ∙ ap (λ ps. left path ts ++ ps) (sym (along_join path first (members_dropped ms e)))

one_alike : (b : Bool) (ps : List specs.Dropped) → b ≡ true → unless_alike b ps ≡ ps
one_alike true ps h = refl
one_alike false ps h = cc

one_unlike : (b : Bool) (ps : List specs.Dropped) → b ≡ false → unless_alike b ps ≡ here changed
one_unlike true ps h = cc
one_unlike false ps h = refl

pub dropped_unlike : (d e : Data) → is_alike d e ≡ false → dropped d e ≡ here changed
dropped_unlike null e h = one_unlike (is_alike null e) [] h
dropped_unlike (boolean b) e h = one_unlike (is_alike (boolean b) e) [] h
dropped_unlike (number n) e h = one_unlike (is_alike (number n) e) [] h
dropped_unlike (string s) e h = one_unlike (is_alike (string s) e) [] h
dropped_unlike (array ds) e h = one_unlike (is_alike (array ds) e) (items_dropped 0 ds e) h
dropped_unlike (object ms) e h = one_unlike (is_alike (object ms) e) (members_dropped ms e) h

inner_left : (path : List Step) (d e : Data) (ts : List Move) → is_alike d e ≡ true → left path (reverse (inner_moves d e) ++ ts) ≡ left path ts ++ along path (dropped d e)
inner_left path null e ts h = sym (append-nil (left path ts)) ∙ ap (λ ps. left path ts ++ along path ps) (sym (one_alike (is_alike null e) [] h))
inner_left path (boolean b) e ts h = sym (append-nil (left path ts)) ∙ ap (λ ps. left path ts ++ along path ps) (sym (one_alike (is_alike (boolean b) e) [] h))
inner_left path (number n) e ts h = sym (append-nil (left path ts)) ∙ ap (λ ps. left path ts ++ along path ps) (sym (one_alike (is_alike (number n) e) [] h))
inner_left path (string s) e ts h = sym (append-nil (left path ts)) ∙ ap (λ ps. left path ts ++ along path ps) (sym (one_alike (is_alike (string s) e) [] h))
inner_left path (array ds) e ts h = items_left path 0 ds e ts ∙ ap (λ ps. left path ts ++ along path ps) (sym (one_alike (is_alike (array ds) e) (items_dropped 0 ds e) h))
inner_left path (object ms) e ts h = members_left path ms e ts ∙ ap (λ ps. left path ts ++ along path ps) (sym (one_alike (is_alike (object ms) e) (members_dropped ms e) h))

-- ---- how much is to be done

work_left_join : (xs ys : List Move) → work_left (xs ++ ys) ≡ work_left xs + work_left ys
work_left_join [] ys = omega arith
work_left_join (enter s d o ∷ xs) ys = omega (arith, work_left_join xs ys)
work_left_join (leave ∷ xs) ys = omega (arith, work_left_join xs ys)

items_work : (i : ℕ) (ds : Items) (e : Data) → work_left (items_moves i ds e) ≡ 2 * items_values ds
unfolding items_values
items_work i no_items e = refl
items_work i (item d ds) e = omega (arith, items_work (suc i) ds e)

members_work : (ms : Members) (e : Data) → work_left (members_moves ms e) ≡ 2 * members_values ms
unfolding members_values
members_work no_members e = refl
members_work (member k d ms) e = omega (arith, members_work ms e)

inner_work : (d e : Data) → 2 + work_left (inner_moves d e) ≤ 2 * values d
unfolding values
inner_work null e = omega arith
inner_work (boolean b) e = omega arith
inner_work (number n) e = omega arith
inner_work (string s) e = omega arith
inner_work (array ds) e = omega (arith, items_work 0 ds e)
inner_work (object ms) e = omega (arith, members_work ms e)

-- ---- the walk of the program

outwards_mapped : (steps : List program_step.Step) (rest : List Step) → outwards steps rest ≡ outward (map step_of steps) rest
outwards_mapped [] rest = refl
outwards_mapped (s ∷ ss) rest = outwards_mapped ss (step_of s ∷ rest)

outward_place : (path steps : List program_step.Step) → steps ≡ reverse path → outwards steps [] ≡ outward (path_of path) []
outward_place path steps e = outwards_mapped steps [] ∙ ap (λ ss. outward (map step_of ss) []) e ∙ ap (λ ss. outward ss []) (map_reverse step_of path)

pub place_put : (path : List program_step.Step) (old new : List program_dropped.Dropped) (p : program_dropped.Dropped) (copied : List program_step.Step) → copied ≡ path → p.pointer.steps.items ≡ reverse copied → new ≡ old ++ p ∷ []
    → all_dropped new ≡ all_dropped old ++ along (path_of path) (here (loss_of p.loss))
place_put path old new p copied same turned put =
    ap all_dropped put ∙ map-append dropped_of old (p ∷ []) ∙ ap (λ ss. all_dropped old ++ (ss, loss_of p.loss) ∷ []) (outward_place path p.pointer.steps.items (turned ∙ ap reverse same))

-- what was pushed on a list of moves comes first
stacked_inner : (old new : List program_moves.Move) (more : List Move) → moves_of new ≡ moves_of old ++ more → stacked new ≡ reverse more ++ stacked old
stacked_inner old new more e = ap reverse e ∙ reverse-append (moves_of old) more

pub compared_left : (path : List Step) (d e : Data) (old new : List program_moves.Move) (found : List specs.Dropped) → is_alike d e ≡ true → moves_of new ≡ moves_of old ++ inner_moves d e
    → left path (stacked new) ++ found ≡ (left path (stacked old) ++ along path (dropped d e)) ++ found
compared_left path d e old new found alike pushed = ap (λ ts. left path ts ++ found) (stacked_inner old new (inner_moves d e) pushed) ∙ ap (λ ps. ps ++ found) (inner_left path d e (stacked old) alike)

pub changed_left : (path : List Step) (d e : Data) (ts : List Move) (old new : List specs.Dropped) → is_alike d e ≡ false → new ≡ old ++ along path (here changed)
    → left path ts ++ reverse new ≡ (left path ts ++ along path (dropped d e)) ++ reverse old
changed_left path d e ts old new unlike put =
    ap (λ ps. left path ts ++ ps) (ap reverse put ∙ reverse-append old (along path (here changed))) ∙ sym (append_assoc (left path ts) (along path (here changed)) (reverse old))
    ∙ ap (λ ps. (left path ts ++ along path ps) ++ reverse old) (sym (dropped_unlike d e unlike))

pub compared_fewer : (d e : Data) (old new : List Move) → new ≡ old ++ inner_moves d e → 2 + work_left new ≤ work_left old + 2 * values d
compared_fewer d e old new pushed = omega (arith, ap work_left pushed, work_left_join old (inner_moves d e), inner_work d e)

pub some_work : (d : Data) → 2 ≤ 2 * values d
some_work d = omega (arith, inner_work d null)

-- a step is gone, and noted to be gone back
pub stepped : (old new : List program_step.Step) (s : program_step.Step) → new ≡ old ++ s ∷ [] → path_of new ≡ step_of s ∷ path_of old
stepped old new s e = ap path_of e ∙ ap reverse (map-append step_of old (s ∷ [])) ∙ reverse-append (map step_of old) (step_of s ∷ [])

pub to_leave : (old new : List program_moves.Move) (t : program_moves.Move) → new ≡ old ++ t ∷ [] → stacked new ≡ move_of t ∷ stacked old
to_leave old new t e = stacked_inner old new (move_of t ∷ []) (ap moves_of e ∙ map-append move_of old (t ∷ []))

-- a tree is compared with what was written at its place, one step further
pub tree_compared : (all path : List Step) (s : Step) (d e : Data) (before : Option Data) (ts us new : List Move) (x y : List specs.Dropped) → before ≡ Some e → all ≡ s ∷ path → us ≡ leave ∷ ts
    → left all new ++ y ≡ (left all us ++ along all (dropped d e)) ++ x → left all new ++ y ≡ left path (enter s d before ∷ ts) ++ x
tree_compared all path s d e before ts us new x y some longer put h =
    h ∙ ap (λ ps. (left ps us ++ along ps (dropped d e)) ++ x) longer ∙ ap (λ vs. (left (s ∷ path) vs ++ along (s ∷ path) (dropped d e)) ++ x) put
    ∙ ap (λ ps. (left path ts ++ ps) ++ x) (sym (along_under path s (dropped d e))) ∙ ap (λ o. left path (enter s d o ∷ ts) ++ x) (sym some)

-- the comparison is taken off the list
pub compared_work : (d : Data) (before : Option Data) (s : Step) (rest old new : ℕ) → old ≡ rest + work_left (leave ∷ []) → 2 + new ≤ old + 2 * values d → new < rest + work_left (enter s d before ∷ [])
compared_work d before s rest old new put h = omega arith

pub absent_work : (d : Data) (before : Option Data) (s : Step) (rest new : ℕ) → new ≡ rest + work_left (leave ∷ []) → new < rest + work_left (enter s d before ∷ [])
absent_work d before s rest new put = omega (arith, some_work d)

-- ---- the end of the walk

pub begun : (d e : Data) (path : List Step) (ts new : List Move) (x y : List specs.Dropped) → path ≡ [] → ts ≡ [] → x ≡ [] → left path new ++ y ≡ (left path ts ++ along path (dropped d e)) ++ x → left path new ++ y ≡ dropped d e
begun d e path ts new x y at_root no_moves nothing h =
    h ∙ ap (λ p. (left p ts ++ along p (dropped d e)) ++ x) at_root ∙ ap (λ us. (left [] us ++ along [] (dropped d e)) ++ x) no_moves ∙ ap (λ z. along [] (dropped d e) ++ z) nothing ∙ append-nil (along [] (dropped d e)) ∙ along_none (dropped d e)

-- the last move of a list is part of the work
pub taken_work : (all rest : List program_moves.Move) (t : program_moves.Move) → all ≡ rest ++ t ∷ [] → work_left (moves_of all) ≡ work_left (moves_of rest) + work_left (move_of t ∷ [])
taken_work all rest t e = ap (λ ts. work_left (moves_of ts)) e ∙ ap work_left (map-append move_of rest (t ∷ [])) ∙ work_left_join (moves_of rest) (move_of t ∷ [])

pub ended : (found turned : List program_dropped.Dropped) (path : List Step) (ts : List program_moves.Move) (all : List specs.Dropped) → left path (stacked ts) ++ reverse (all_dropped found) ≡ all → ts ≡ [] → turned ≡ reverse found → all_dropped turned ≡ all
ended found turned path ts all so_far none turn = ap all_dropped turn ∙ map_reverse dropped_of found ∙ ap (λ us. left path (stacked us) ++ reverse (all_dropped found)) (sym none) ∙ so_far

pub nothing_listed : (ps : List program_dropped.Dropped) → all_dropped ps ≡ [] → ps ≡ []
nothing_listed [] e = refl
nothing_listed (p ∷ ps) e = cc
