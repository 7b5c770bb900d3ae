-- The walk by a list of tasks.
use Rattle.std.proofs.Common.{◌≡◌, ℕ, ◌+◌, ◌-◌, ◌*◌, ◌<◌, ◌≤◌, List, [], ◌∷◌, ◌++◌, length, reverse, map, take, drop, None, Some, refl, sym, ap, ◌∙◌, subst, arith, append_assoc}
use Rattle.std.proofs.lemmas.List.{reverse-append, map-append, length-append, length-map, length-reverse, length-take-le, length-drop, take_all, take-append-drop}
use Rattle.std.proofs.Math.Seq.{take-append_seam, drop-append_seam}
use Rattle.utoipa_base.specs.Values.{values}
use Rattle.utoipa_check.specs.Mentioned.{Mentioned, mentioned, all_mentioned}
use Rattle.utoipa_check.specs.Places.{Place, places_values, Outcome, outcome, outcomes, inner_places, Task, visit, join, visits, Reaches, values_left, work_left}
use Rattle.utoipa_check.specs.Views.{tasks_of, task_of, task_by, place_of}
use Rattle.utoipa_check.specs.declared.task.Task as program_task
use Rattle.utoipa_check.proofs.Fewer.{inner_fewer}

-- ---- lists

reverse_last : (ts : List Task) (t : Task) → reverse (ts ++ t ∷ []) ≡ t ∷ reverse ts
reverse_last ts t = reverse-append ts (t ∷ [])

values_left_join : (xs ys : List Task) → values_left (xs ++ ys) ≡ values_left xs + values_left ys
values_left_join [] ys = omega arith
values_left_join (visit p ∷ xs) ys = omega (arith, values_left_join xs ys)
values_left_join (join p n ∷ xs) ys = values_left_join xs ys

work_left_join : (xs ys : List Task) → work_left (xs ++ ys) ≡ work_left xs + work_left ys
work_left_join [] ys = omega arith
work_left_join (visit p ∷ xs) ys = omega (arith, work_left_join xs ys)
work_left_join (join p n ∷ xs) ys = omega (arith, work_left_join xs ys)

values_left_visits : (ps : List Place) → values_left (visits ps) ≡ places_values ps
values_left_visits [] = refl
values_left_visits (p ∷ ps) = ap (λ n. values p.tree + n) (values_left_visits ps)

work_left_visits : (ps : List Place) → work_left (visits ps) ≡ 2 * places_values ps
work_left_visits [] = refl
work_left_visits (p ∷ ps) = omega (arith, work_left_visits ps)

-- ---- steps

-- some places are looked at one after the other, the last one first
visits_reach : {X : Type 0} (f : Place → X) (end : List X) (ps : List Place) (ts : List Task) (xs : List X) → Reaches f end ts (map f ps ++ xs) → Reaches f end (reverse (visits ps) ++ ts) xs
visits_reach f end [] ts xs h = h
visits_reach f end (p ∷ ps) ts xs h =
    let now : Reaches f end (reverse (visits ps) ++ visit p ∷ ts) xs = visits_reach f end ps (visit p ∷ ts) xs h in
    let same : reverse (visits ps) ++ visit p ∷ ts ≡ reverse (visit p ∷ visits ps) ++ ts = sym (append_assoc (reverse (visits ps)) (visit p ∷ []) ts) ∙ ap (λ us. us ++ ts) (sym (reverse-append (visit p ∷ []) (visits ps))) in
    subst (λ us. Reaches f end us xs) same now

-- what was put on the list in place of a place that was looked at leads where that did
pub visited : {X : Type 0} (f : Place → X) (end : List X) (all rest new : List Task) (p : Place) (n : ℕ) (xs : List X) → all ≡ rest ++ visit p ∷ [] → new ≡ (rest ++ join p n ∷ []) ++ visits (inner_places p.target p.tree) → n ≡ length xs
    → Reaches f end (reverse all) xs → Reaches f end (reverse new) xs
visited f end all rest new p n xs before after count h =
    let inner = inner_places p.target p.tree in
    let this : Reaches f end (visit p ∷ reverse rest) xs = subst (λ us. Reaches f end us xs) (ap reverse before ∙ reverse_last rest (visit p)) h in
    let joining : Reaches f end (join p n ∷ reverse rest) (map f inner ++ xs) = (xs, refl, count, this) in
    let same : reverse (visits inner) ++ join p n ∷ reverse rest ≡ reverse new =
    sym (ap reverse after ∙ reverse-append (rest ++ join p n ∷ []) (visits inner) ∙ ap (λ us. reverse (visits inner) ++ us) (reverse_last rest (join p n)))
    in
    subst (λ us. Reaches f end us xs) same (visits_reach f end inner (join p n ∷ reverse rest) xs joining)

-- a place whose inner places have been looked at: their results are on the stack
pub to_join : {X : Type 0} (f : Place → X) (end : List X) (all rest : List Task) (p : Place) (n : ℕ) (xs : List X) → all ≡ rest ++ join p n ∷ [] → Reaches f end (reverse all) xs
    → (below : List X) × (xs ≡ map f (inner_places p.target p.tree) ++ below) × (n ≡ length below) × Reaches f end (reverse rest) (f p ∷ below)
to_join f end all rest p n xs before h = subst (λ us. Reaches f end us xs) (ap reverse before ∙ reverse_last rest (join p n)) h

each_outcome : (ps : List Place) → map outcome ps ≡ outcomes ps
each_outcome [] = refl
each_outcome (p ∷ ps) = ap (λ os. outcome p ∷ os) (each_outcome ps)

each_mentioned : (ps : List Place) → map mentioned ps ≡ all_mentioned ps
each_mentioned [] = refl
each_mentioned (p ∷ ps) = ap (λ ms. mentioned p ∷ ms) (each_mentioned ps)

-- the same of what was found, and of what was mentioned
pub to_join_outcomes : (end : List Outcome) (all rest : List Task) (p : Place) (n : ℕ) (os : List Outcome) → all ≡ rest ++ join p n ∷ [] → Reaches outcome end (reverse all) os
    → (below : List Outcome) × (os ≡ outcomes (inner_places p.target p.tree) ++ below) × (n ≡ length below) × Reaches outcome end (reverse rest) (outcome p ∷ below)
to_join_outcomes end all rest p n os before h =
    let j = to_join outcome end all rest p n os before h in
    (j.0, j.1 ∙ ap (λ xs. xs ++ j.0) (each_outcome (inner_places p.target p.tree)), j.2, j.3)

pub to_join_mentioned : (end : List Mentioned) (all rest : List Task) (p : Place) (n : ℕ) (ms : List Mentioned) → all ≡ rest ++ join p n ∷ [] → Reaches mentioned end (reverse all) ms
    → (below : List Mentioned) × (ms ≡ all_mentioned (inner_places p.target p.tree) ++ below) × (n ≡ length below) × Reaches mentioned end (reverse rest) (mentioned p ∷ below)
to_join_mentioned end all rest p n ms before h =
    let j = to_join mentioned end all rest p n ms before h in
    (j.0, j.1 ∙ ap (λ xs. xs ++ j.0) (each_mentioned (inner_places p.target p.tree)), j.2, j.3)

-- ---- what is left

pub fewer_left_visited : (rest all new : List Task) (p : Place) (n : ℕ) → all ≡ rest ++ visit p ∷ [] → new ≡ (rest ++ join p n ∷ []) ++ visits (inner_places p.target p.tree) → (values_left new < values_left all) × (work_left new < work_left all)
fewer_left_visited rest all new p n before after =
    let inner = inner_places p.target p.tree in
    let now : values_left all ≡ values_left rest + values p.tree = ap values_left before ∙ values_left_join rest (visit p ∷ []) ∙ omega arith in
    let more : values_left new ≡ values_left rest + places_values inner = ap values_left after ∙ values_left_join (rest ++ join p n ∷ []) (visits inner) ∙ omega (arith, values_left_join rest (join p n ∷ []), values_left_visits inner) in
    let now_work : work_left all ≡ work_left rest + 2 * values p.tree = ap work_left before ∙ work_left_join rest (visit p ∷ []) ∙ omega arith in
    let more_work : work_left new ≡ work_left rest + 1 + 2 * places_values inner = ap work_left after ∙ work_left_join (rest ++ join p n ∷ []) (visits inner) ∙ omega (arith, work_left_join rest (join p n ∷ []), work_left_visits inner) in
    (omega (arith, now, more, inner_fewer p.target p.tree), omega (arith, now_work, more_work, inner_fewer p.target p.tree))

pub fewer_left_joined : (rest all : List Task) (p : Place) (n : ℕ) → all ≡ rest ++ join p n ∷ [] → (values_left rest ≡ values_left all) × (work_left rest < work_left all)
fewer_left_joined rest all p n before =
    let now : values_left all ≡ values_left rest = ap values_left before ∙ values_left_join rest (join p n ∷ []) ∙ omega arith in
    let now_work : work_left all ≡ work_left rest + 1 = ap work_left before ∙ work_left_join rest (join p n ∷ []) ∙ omega arith in
    (sym now, omega (arith, now_work))

pub some_left : (rest all : List Task) (p : Place) → all ≡ rest ++ visit p ∷ [] → 1 ≤ values_left all
some_left rest all p before = omega (arith, ap values_left before, values_left_join rest (visit p ∷ []), inner_fewer p.target p.tree)

-- ---- stacks

same_split : {X : Type 0} (ls rs bs ss : List X) → ls ++ rs ≡ bs ++ ss → length rs ≡ length ss → (ls ≡ bs) × (rs ≡ ss)
same_split ls rs bs ss e same =
    let count : length ls ≡ length bs = omega (arith, length-append ls rs, length-append bs ss, ap length e) in
    (sym (take-append_seam ls rs) ∙ ap (take (length ls)) e ∙ ap (λ n. take n (bs ++ ss)) count ∙ take-append_seam bs ss, sym (drop-append_seam ls rs) ∙ ap (drop (length ls)) e ∙ ap (λ n. drop n (bs ++ ss)) count ∙ drop-append_seam bs ss)

-- what some values stand for, the last one first
abbrev pub stack_by : {X Y : Type 0} → (X → Y) → List X → List Y
stack_by f xs = reverse (map f xs)

pub stack_length : {X Y : Type 0} (f : X → Y) (xs : List X) → length (stack_by f xs) ≡ length xs
stack_length f xs = length-reverse (map f xs) ∙ length-map xs f

stack_join : {X Y : Type 0} (f : X → Y) (xs ys : List X) → stack_by f (xs ++ ys) ≡ stack_by f ys ++ stack_by f xs
stack_join f xs ys = ap reverse (map-append f xs ys) ∙ reverse-append (map f xs) (map f ys)

-- the values above some are those that the stack has before these
pub split_stack : {X Y : Type 0} (f : X → Y) (xs : List X) (n : ℕ) (above rest : List Y) → stack_by f xs ≡ above ++ rest → n ≡ length rest → (stack_by f (drop n xs) ≡ above) × (stack_by f (take n xs) ≡ rest)
split_stack f xs n above rest e count =
    let whole : stack_by f (drop n xs) ++ stack_by f (take n xs) ≡ above ++ rest = sym (stack_join f (take n xs) (drop n xs)) ∙ ap (stack_by f) (take-append-drop n xs) ∙ e in
    let all : length xs ≡ length above + length rest = sym (stack_length f xs) ∙ ap length e ∙ length-append above rest in
    let within : n ≤ length xs = omega arith in
    same_split (stack_by f (drop n xs)) (stack_by f (take n xs)) above rest whole (stack_length f (take n xs) ∙ length-take-le n xs within ∙ count)

-- the same of a slice that begins there
pub split_slice : {X Y : Type 0} (f : X → Y) (xs ys : List X) (n : ℕ) (above rest : List Y) → ys ≡ xs → stack_by f xs ≡ above ++ rest → n ≡ length rest → stack_by f (take (length ys - n) (drop n ys)) ≡ above
split_slice f xs ys n above rest same e count =
    let whole : take (length ys - n) (drop n ys) ≡ drop n ys = take_all (length ys - n) (drop n ys) (omega (arith, length-drop n ys)) in
    ap (stack_by f) (whole ∙ ap (drop n) same) ∙ (split_stack f xs n above rest e count).0

-- the result of a place is put in place of those of the places inside it
pub result_put : {X Y : Type 0} (f : X → Y) (old new : List X) (x : X) (n : ℕ) (above rest : List Y) (y : Y) → stack_by f old ≡ above ++ rest → n ≡ length rest → new ≡ take n old ++ x ∷ [] → f x ≡ y → stack_by f new ≡ y ∷ rest
result_put f old new x n above rest y before count put is =
    ap (stack_by f) put ∙ stack_join f (take n old) (x ∷ []) ∙ ap (λ z. z ∷ stack_by f (take n old)) is ∙ ap (λ ys. y ∷ ys) (split_stack f old n above rest before count).1

-- ---- the tasks of the program

pub to_visit : (all rest : List program_task.Task) (t : program_task.Task) → all ≡ rest ++ t ∷ [] → t.below ≡ None → tasks_of all ≡ tasks_of rest ++ visit (place_of t) ∷ []
to_visit all rest t last is = ap tasks_of last ∙ map-append task_of rest (t ∷ []) ∙ ap (λ o. tasks_of rest ++ task_by (place_of t) o ∷ []) is

pub to_be_joined : (all rest : List program_task.Task) (t : program_task.Task) (n : ℕ) → all ≡ rest ++ t ∷ [] → t.below ≡ Some n → tasks_of all ≡ tasks_of rest ++ join (place_of t) n ∷ []
to_be_joined all rest t n last is = ap tasks_of last ∙ map-append task_of rest (t ∷ []) ∙ ap (λ o. tasks_of rest ++ task_by (place_of t) o ∷ []) is
