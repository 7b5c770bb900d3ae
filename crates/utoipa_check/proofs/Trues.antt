-- Misfits that are true stay so where they are joined, put behind a step, or seen from where another kind is due.
use Rattle.std.proofs.Common.{inl, inr, List, [], ◌∷◌, ◌++◌, Bool, true, false, cond, refl}
use Rattle.serde_json.specs.Data.{Data}
use Rattle.utoipa_base.specs.Kinds.{ObjectType, Kind, ref_or, named, schema, array_items, additional_properties, security_scheme, api_key}
use Rattle.utoipa_check.specs.IsDropped.{StandsIn}
use Rattle.utoipa_check.specs.Misfits.{Step, Cause, absent, expected, unknown_word, no_alternative, unknown_name, fraction, Misfits, here, under}
use Rattle.utoipa_check.specs.Truth.{Due, of_kind, IsTakenAsTable, IsNoReference, IsTakenAs, Stands, IsDueBehind, Leads, IsOfAnotherSort, Holds, IsTrueAt, AllTrueAt, AllTrue}

-- ---- as which kind a tree is taken

-- a tree is taken as the kind that is due
pub itself : (k : Kind) (t : Data) → IsTakenAs k t k
itself (ref_or k) t = inl refl
itself array_items t = inl refl
itself additional_properties t = inl refl
itself schema t = inl refl
itself security_scheme t = inl refl
itself api_key t = inl refl
itself k t = refl

pub stands : (k : Kind) (t : Data) → Stands (of_kind k) t (of_kind k)
stands k t = (k, itself k t, refl)

-- ---- where another kind is due

abbrev pub Wider : Due → Due → Data → Type 0
Wider e f d = (g : Due) → Stands e d g → Stands f d g

leads_wider : (p : List Step) (e f : Due) (d : Data) → Wider e f d → (g : Due) (t : Data) → Leads p e d g t → Leads p f d g t
leads_wider [] e f d w g t h = (w g h.0, h.1)
leads_wider (s ∷ p) e f d w g t h = (h.0, w (of_kind h.0) h.1, h.2)

true_wider : (c : Cause) (p : List Step) (e f : Due) (d : Data) → Wider e f d → IsTrueAt c p e d → IsTrueAt c p f d
true_wider fraction p e f d w h = h
true_wider (absent name) p e f d w h = (h.0, h.1, leads_wider p e f d w h.0 h.1 h.2, h.3)
true_wider (expected k) p e f d w h = (h.0, h.1, leads_wider p e f d w h.0 h.1 h.2, h.3)
true_wider (unknown_word ws) p e f d w h = (h.0, h.1, leads_wider p e f d w h.0 h.1 h.2, h.3)
true_wider (unknown_name ns) p e f d w h = (h.0, h.1, leads_wider p e f d w h.0 h.1 h.2, h.3)
true_wider (no_alternative ks) p e f d w h = (h.0, h.1, leads_wider p e f d w h.0 h.1 h.2, h.3)

wider : (e f : Due) (d : Data) → Wider e f d → (xs : Misfits) → AllTrueAt e d xs → AllTrueAt f d xs
wider e f d w [] h = tt
wider e f d w (x ∷ xs) h = (true_wider x.1 x.0 e f d w h.0, wider e f d w xs h.1)

-- each kind that a tree is taken as where the first is due, it is taken as where the second is
pub as_wider : (k l : Kind) (d : Data) → ((j : Kind) → IsTakenAs k d j → IsTakenAs l d j) → (xs : Misfits) → AllTrue k d xs → AllTrue l d xs
as_wider k l d f xs h = wider (of_kind k) (of_kind l) d (λ g s. (s.0, f s.0 s.1, s.2)) xs h

pub as_own : (k : Kind) (d : Data) → IsNoReference d → (xs : Misfits) → AllTrue k d xs → AllTrue (ref_or k) d xs
as_own k d other xs h = as_wider k (ref_or k) d (λ j taken. inr (inr (other, taken))) xs h

-- what is true of the alternative of a schema is true of the schema
pub as_table : (n : ObjectType) (d : Data) → IsTakenAsTable d n → (xs : Misfits) → AllTrue (named n) d xs → AllTrue schema d xs
as_table n d taken xs h = as_wider (named n) schema d (λ j is. inr (n, is, taken)) xs h

-- ---- lists of misfits

pub join_true : (e : Due) (d : Data) (xs ys : Misfits) → AllTrueAt e d xs → AllTrueAt e d ys → AllTrueAt e d (xs ++ ys)
join_true e d [] ys g h = h
join_true e d (x ∷ xs) ys g h = (g.0, join_true e d xs ys g.1 h)

pub either_true : (e : Due) (d : Data) (b : Bool) (xs ys : Misfits) → AllTrueAt e d xs → AllTrueAt e d ys → AllTrueAt e d (cond b xs ys)
either_true e d true xs ys g h = g
either_true e d false xs ys g h = h

-- ---- steps

step_true : (c : Cause) (p : List Step) (s : Step) (k : Kind) (d : Data) (g : Due) (i : Data) → StandsIn s i d → IsDueBehind s k g i → IsTrueAt c p g i → IsTrueAt c (s ∷ p) (of_kind k) d
step_true fraction p s k d g i there due h = (h.0, (i, there, h.1), h.2)
step_true (absent n) p s k d g i there due h = (h.0, h.1, (k, stands k d, (g, i, (there, due), h.2)), h.3)
step_true (expected l) p s k d g i there due h = (h.0, h.1, (k, stands k d, (g, i, (there, due), h.2)), h.3)
step_true (unknown_word ws) p s k d g i there due h = (h.0, h.1, (k, stands k d, (g, i, (there, due), h.2)), h.3)
step_true (unknown_name ns) p s k d g i there due h = (h.0, h.1, (k, stands k d, (g, i, (there, due), h.2)), h.3)
step_true (no_alternative ks) p s k d g i there due h = (h.0, h.1, (k, stands k d, (g, i, (there, due), h.2)), h.3)

-- what is true of a tree that stands in another is true of it there
pub under_true : (s : Step) (k : Kind) (d : Data) (g : Due) (i : Data) → StandsIn s i d → IsDueBehind s k g i → (xs : Misfits) → AllTrueAt g i xs → AllTrue k d (under s xs)
under_true s k d g i there due [] h = tt
under_true s k d g i there due (x ∷ xs) h = (step_true x.1 x.0 s k d g i there due h.0, under_true s k d g i there due xs h.1)

-- ---- misfits of the tree itself

pub here_true : (c : Cause) (e : Due) (d : Data) → Stands e d e → Holds c e d → AllTrueAt e d (here c)
here_true fraction e d s h = ((d, refl, h), tt)
here_true (absent name) e d s h = ((e, d, (s, refl), h), tt)
here_true (expected k) e d s h = ((e, d, (s, refl), h), tt)
here_true (unknown_word ws) e d s h = ((e, d, (s, refl), h), tt)
here_true (unknown_name ns) e d s h = ((e, d, (s, refl), h), tt)
here_true (no_alternative ks) e d s h = ((e, d, (s, refl), h), tt)

pub expected_true : (k : Kind) (d : Data) → IsOfAnotherSort k d → AllTrue k d (here (expected k))
expected_true k d h = here_true (expected k) (of_kind k) d (stands k d) (refl, h)
