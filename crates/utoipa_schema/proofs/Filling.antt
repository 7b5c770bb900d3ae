-- The table filled from its end: what the loop has come to, and how a row goes on.
use Rattle.std.proofs.Common.{◌≡◌, ◌∙◌, ◌≤◌, ◌<◌, ◌+◌, ℕ, List, [], ◌∷◌, ◌++◌, length, take, reverse, Option, None, option_map, refl, sym, ap, subst, arith, nat_lt, if◌then◌else◌}
use Rattle.std.proofs.lemmas.List.{length-append, take_at}
use Rattle.serde_json.specs.Data.{Data, null, boolean, number, string, array, object}
use Rattle.utoipa_base.specs.Docs.{Doc, own_doc, ref_doc}
use Rattle.utoipa_base.specs.Kinds.{schema, ref_or, named, reference_object}
use Rattle.utoipa_base.specs.Reading.{read, reader, or_else}
use Rattle.utoipa_base.proofs.Places.{ticked_least, ticked_grows, ticked_most}
use Rattle.utoipa_schema.specs.Outcomes.{Outcomes, grouped, put, count_of, counts, AreInner, counts_of_inner}
use Rattle.utoipa_schema.specs.Places.{Place, read_place, members_of, inner, Reached, Walked}
use Rattle.utoipa_schema.specs.declared.outcomes.InnerOutcomes.{InnerOutcomes}
use Rattle.utoipa_schema.proofs.Groups.{grouped-none, grouped-last, counts-none, put_count}
use Rattle.utoipa_schema.proofs.Walks.{unvisit, end}

-- ---- the roots of a table

cancel : {X : Type 0} (xs ys zs : List X) → xs ++ zs ≡ ys ++ zs → xs ≡ ys
cancel xs ys zs e =
    let many : length ys ≡ length xs = omega (arith, ap length e, length-append xs zs, length-append ys zs) in
    sym (take_at xs zs (length xs) refl) ∙ ap (take (length xs)) e ∙ take_at ys zs (length xs) many

same_last : {X : Type 0} (xs ys : List X) (x : X) → xs ≡ ys → xs ++ x ∷ [] ≡ ys ++ x ∷ []
same_last xs ys x e = ap (λ l. l ++ x ∷ []) e

same_roots : (rows : List Place) (r q stack other : List Place) → stack ≡ other → Reached r rows stack → Reached q rows other → r ≡ q
unfolding Reached
same_roots [] r q stack other e a b = sym a ∙ e ∙ b
same_roots (p ∷ rows) r q stack other e a b =
    same_roots rows r q (a.0 ++ p ∷ []) (b.0 ++ p ∷ []) (same_last a.0 b.0 p (cancel a.0 b.0 (inner p.tree) (sym a.1 ∙ e ∙ b.1))) a.2 b.2

-- a table has one list of roots
pub roots_once : (table r q : List Place) → Walked r table [] → Walked q table [] → r ≡ q
roots_once table r q a b = same_roots (reverse table) r q [] [] refl a b

-- ---- the loop

-- the rows of `table` are left of `all`. What is filled is what the stack of the walk held when its rows were those that are left.
pub record Filling (all table : List Place) (filled : List Outcomes) (start now : ℕ) : Type 0 where
  pub roots : List Place
  pub whole : Walked roots all []
  pub stack : List Place
  pub here : Walked roots table stack
  pub read : filled ≡ grouped stack
  pub grows : start ≤ now
  pub at_most : now + length table ≤ start + length all
  pub at_least : now < 18446744073709551615 → start + counts filled ≤ now

pub filling_begun : (all : List Place) (filled : List Outcomes) (start : ℕ) → (roots : List Place) × Walked roots all [] → filled ≡ [] → Filling all all filled start start
filling_begun all filled start from none =
    record {
      roots = from.0;
      whole = from.1;
      stack = [];
      here = from.1;
      read = none ∙ sym (grouped-none []);
      grows = omega arith;
      at_most = omega arith;
      at_least = λ below. omega (arith, ap counts none, counts-none);
    }

-- the last row's inner places are the last that are filled
pub filling_row : (all table rows : List Place) (p : Place) (filled : List Outcomes) (start now : ℕ) (so_far : Filling all table filled start now) → table ≡ rows ++ p ∷ []
    → (rest : List Place) × (filled ≡ grouped (rest ++ inner p.tree)) × Walked so_far.roots rows (rest ++ p ∷ [])
filling_row all table rows p filled start now so_far row =
    let was = subst (λ t. Walked so_far.roots t so_far.stack) row so_far.here in
    let back = unvisit so_far.roots p rows so_far.stack was in
    (back.0, so_far.read ∙ ap grouped back.1, back.2)

-- a row that has been read: those inside are taken off, and its outcome is put
pub filling_step : (all table rows : List Place) (p : Place) (filled left more : List Outcomes) (start now new : ℕ) (i : InnerOutcomes) (o : Option Doc) → Filling all table filled start now → table ≡ rows ++ p ∷ []
    → ((rest : List Place) → filled ≡ grouped (rest ++ inner p.tree) → AreInner (members_of p.tree) i × (left ≡ grouped rest)) → counts left + counts_of_inner i ≤ counts filled
    → o ≡ read_place p → new ≡ (if nat_lt now 18446744073709551615 then now + 1 else now) → count_of o ≤ 1 + counts_of_inner i
    → more ≡ put left p.stands o → Filling all rows more start new
filling_step all table rows p filled left more start now new i o so_far row takes kept one ticked counted put_there =
    let back = filling_row all table rows p filled start now so_far row in
    let rest = back.0 in
    let taken = takes rest back.1 in
    let fewer : length table ≡ length rows + 1 = ap length row ∙ length-append rows (p ∷ []) in
    record {
      roots = so_far.roots;
      whole = so_far.whole;
      stack = rest ++ p ∷ [];
      here = back.2;
      read = put_there ∙ ap (λ l. put l p.stands o) taken.1 ∙ ap (put (grouped rest) p.stands) one ∙ sym (grouped-last rest p);
      grows = omega (arith, so_far.grows, ticked_grows now new 18446744073709551615 ticked);
      at_most = omega (arith, so_far.at_most, fewer, ticked_most now new 18446744073709551615 ticked);
      at_least = λ below.
          let risen = ticked_least now new 18446744073709551615 ticked below in
          omega (arith, risen, so_far.at_least (omega (arith, risen, below)), kept, put_count left p.stands o, ap counts put_there, counted);
    }

-- after the first row the outcomes are those of the roots
pub filling_end : (all table : List Place) (filled : List Outcomes) (start now : ℕ) (roots : List Place) → Filling all table filled start now → table ≡ [] → Walked roots all [] → filled ≡ grouped roots
filling_end all table filled start now roots so_far none whole =
    let last = subst (λ t. Walked so_far.roots t so_far.stack) none so_far.here in
    so_far.read ∙ ap grouped (end so_far.roots so_far.stack last ∙ roots_once all so_far.roots roots so_far.whole whole)

-- ---- a place that is no reference

pub unreferenced : (d : Data) → read (named reference_object) d ≡ None → read (ref_or schema) d ≡ option_map own_doc (read schema d)
unfolding reader
unreferenced null n = refl
unreferenced (boolean b) n = refl
unreferenced (number m) n = refl
unreferenced (string s) n = refl
unreferenced (array ds) n = refl
unreferenced (object ms) n = ap (λ r. or_else (option_map (ref_doc schema) r) (option_map own_doc (read schema (object ms)))) n
