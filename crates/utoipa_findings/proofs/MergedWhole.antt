-- Files of which nothing is lost stand whole in what they are merged into, where merging drops nothing.
use Rattle.std.proofs.Common.{◌≡◌, ◌∙◌, ◌⊎◌, inl, inr, ℕ, zero, suc, List, [], ◌∷◌, ◌||◌, map, Bool, true, false, Option, None, Some, is_some, option_and_then, refl, sym, ap, subst, true≢false, arith}
use Rattle.std.proofs.lemmas.List.Elements.{All-from_recursion, recursion_from_All, Contains-append_left, Contains-append_right}
use Rattle.std.proofs.lemmas.Option.{none-some, same_Some}
use Rattle.std.specs.List.{AllByRecursion, slice_get, list_any}
use Rattle.std.specs.Option.{option_or}
use Rattle.std.specs.Prelude.{Contains}
use Rattle.serde_json.specs.Data.{Data}
use Rattle.serde_json.specs.Written.{has_float}
use Rattle.utoipa_base.specs.Docs.{Doc}
use Rattle.utoipa_base.specs.Kinds.{open_api_object, named}
use Rattle.utoipa_base.specs.WellFormed.{IsUnambiguous}
use Rattle.utoipa_base.specs.Writing.{write}
use Rattle.utoipa_base.proofs.Plain.{read_plain, write_plain}
use Rattle.utoipa_check.proofs.DoubtsSound.{doubts_kept}
use Rattle.utoipa_check.proofs.Undoubted.{undoubted_unambiguous}
use Rattle.utoipa_conflicts.specs.Conflicts.{Slot, slots, place}
use Rattle.utoipa_conflicts.specs.Holders.{IsNamedOnce}
use Rattle.utoipa_conflicts.specs.IsConflict.{IsOneOf}
use Rattle.utoipa_conflicts.specs.Merged.{IsAllThere, written}
use Rattle.utoipa_conflicts.specs.Trees.{at_place}
use Rattle.utoipa_conflicts.specs.Undoubted.{IsRead, AreRead, AreReadAndMerged}
use Rattle.utoipa_conflicts.proofs.NamedOnce.{slot_stands}
use Rattle.utoipa_conflicts.proofs.Undoubted.{nothing_of_read}
use Rattle.utoipa_conflicts.proofs.Written.{IsTable, clear_table}
use Rattle.utoipa_merging.specs.Merged.{IsOpenApi}
use Rattle.utoipa_merging.specs.Rules.{first_of}
use Rattle.utoipa_merging.specs.Slots.{base, path_slot, item_slot, entry_at, items_in, is_there, joined_of, paths_of, components_of, parts, base_members}
use Rattle.utoipa_merging.proofs.JoinedLists.{all_in, joined_or_earlier}
use Rattle.utoipa_merging.proofs.UnambiguousMerged.{merged_unambiguous}
use Rattle.utoipa_findings.specs.Findings.{losses, repeated_names}
use Rattle.utoipa_findings.specs.Sources.{File}
use Rattle.utoipa_findings.specs.Standing.{seen_of, IsUnlost, AreUnlost, AllStandIn, AreMergedWhole}
use Rattle.utoipa_findings.proofs.ComesBack.{second_none, undoubted_where_unlost}
use Rattle.utoipa_findings.proofs.InText.{unlost_text}
use Rattle.utoipa_findings.proofs.SortedAdapted.{seen_sorted}
use Rattle.utoipa_findings.proofs.SortedWritten.{text_tree_sorted, written_once}
use Rattle.utoipa_findings.proofs.Standing.{plain_place, value_is}
use Rattle.utoipa_findings.proofs.TakenIn.{TakesIn, stands_in}

-- ---- one file

pub unlost_read : (x : File) (t : Data) (d : Doc) → IsUnlost x t d → IsRead (seen_of x t) d
unlost_read x t d u =
    let k = named open_api_object in
    let looked_at = seen_of x t in
    (sym (doubts_kept k looked_at u.reads.0) ∙ undoubted_where_unlost k looked_at (second_none (repeated_names x.1) (losses k looked_at) u.nothing), u.reads.1)

pub unlost_plain : (x : File) (t : Data) (d : Doc) → IsUnlost x t d → has_float (write d) ≡ false
unlost_plain x t d u = write_plain d (read_plain (named open_api_object) (seen_of x t) d u.reads.0 u.reads.1)

pub unlost_unambiguous : (x : File) (t : Data) (d : Doc) → IsUnlost x t d → IsUnambiguous d
unlost_unambiguous x t d u = let r = unlost_read x t d u in undoubted_unambiguous (named open_api_object) (seen_of x t) d r.0 r.1

pub unlost_table : (x : File) (t : Data) (d : Doc) → IsUnlost x t d → IsOpenApi d → IsTable open_api_object d
unlost_table x t d u is = clear_table open_api_object d is (unlost_unambiguous x t d u)

-- each name stands once in an object of what a file's document is written as
pub unlost_once : (x : File) (t : Data) (d : Doc) → IsUnlost x t d → IsNamedOnce (write d)
unlost_once x t d u = written_once (named open_api_object) (seen_of x t) d (seen_sorted x.2 (named open_api_object) t (text_tree_sorted x.1 t u.has)) u.reads.1

-- ---- files

-- the trees of files, as they are looked at
abbrev all_seen : List File → List Data → List Data
all_seen [] ts = []
all_seen (x ∷ xs) [] = []
all_seen (x ∷ xs) (t ∷ ts) = seen_of x t ∷ all_seen xs ts

all_read : (xs : List File) (ts : List Data) (ds : List Doc) → AreUnlost xs ts ds → AreRead (all_seen xs ts) ds
all_read [] [] [] h = tt
all_read (x ∷ xs) (t ∷ ts) (d ∷ ds) h = (unlost_read x t d h.0, all_read xs ts ds h.1)
all_read [] [] (d ∷ ds) h = absurd h
all_read [] (t ∷ ts) ds h = absurd h
all_read (x ∷ xs) [] ds h = absurd h
all_read (x ∷ xs) (t ∷ ts) [] h = absurd h

all_clear : (xs : List File) (ts : List Data) (ds : List Doc) → AreUnlost xs ts ds → AllByRecursion IsUnambiguous ds
all_clear [] [] [] h = tt
all_clear (x ∷ xs) (t ∷ ts) (d ∷ ds) h = (unlost_unambiguous x t d h.0, all_clear xs ts ds h.1)
all_clear [] [] (d ∷ ds) h = absurd h
all_clear [] (t ∷ ts) ds h = absurd h
all_clear (x ∷ xs) [] ds h = absurd h
all_clear (x ∷ xs) (t ∷ ts) [] h = absurd h

all_once : (xs : List File) (ts : List Data) (ds : List Doc) → AreUnlost xs ts ds → AllByRecursion IsNamedOnce (written ds)
all_once [] [] [] h = tt
all_once (x ∷ xs) (t ∷ ts) (d ∷ ds) h = (unlost_once x t d h.0, all_once xs ts ds h.1)
all_once [] [] (d ∷ ds) h = absurd h
all_once [] (t ∷ ts) ds h = absurd h
all_once (x ∷ xs) [] ds h = absurd h
all_once (x ∷ xs) (t ∷ ts) [] h = absurd h

-- ---- one of the documents

some_or : {A : Type 0} (o p : Option A) → is_some p ≡ true → is_some (option_or o p) ≡ true
some_or None p h = h
some_or (Some x) p h = refl

-- what one has in a slot, some document has
first_some : {A : Type 0} (f : Doc → Option A) (ds : List Doc) (j : ℕ) (c : Doc) (x : A) → slice_get ds j ≡ Some c → f c ≡ Some x → is_some (first_of (map f ds)) ≡ true
first_some f [] j c x at is = absurd (none-some c at)
first_some f (d ∷ ds) zero c x at is = ap (λ o. is_some (option_or o (first_of (map f ds)))) (ap f (same_Some d c at) ∙ is)
first_some f (d ∷ ds) (suc j) c x at is = some_or (f d) (first_of (map f ds)) (first_some f ds j c x at is)

pub some_any : (f : Doc → Bool) (ds : List Doc) (j : ℕ) (c : Doc) → slice_get ds j ≡ Some c → f c ≡ true → list_any f ds ≡ true
some_any f [] j c at is = absurd (none-some c at)
some_any f (d ∷ ds) zero c at is = ap (λ b. b || list_any f ds) (ap f (same_Some d c at) ∙ is)
some_any f (d ∷ ds) (suc j) c at is = or_true (f d) (list_any f ds) (some_any f ds j c at is)
  where
    or_true : (a b : Bool) → b ≡ true → a || b ≡ true
    or_true true b h = refl
    or_true false b h = h

pub map_at : (f : Doc → Doc) (ds : List Doc) (j : ℕ) (c : Doc) → slice_get ds j ≡ Some c → slice_get (map f ds) j ≡ Some (f c)
map_at f [] j c at = absurd (none-some c at)
map_at f (d ∷ ds) zero c at = ap (λ x. Some (f x)) (same_Some d c at)
map_at f (d ∷ ds) (suc j) c at = map_at f ds j c at

tree_at : (ds : List Doc) (j : ℕ) (c : Doc) → slice_get ds j ≡ Some c → slice_get (written ds) j ≡ Some (write c)
tree_at [] j c at = absurd (none-some c at)
tree_at (d ∷ ds) zero c at = ap (λ x. Some (write x)) (same_Some d c at)
tree_at (d ∷ ds) (suc j) c at = tree_at ds j c at

pub in_all : (f : Doc → List Doc) (ds : List Doc) (j : ℕ) (c x : Doc) → slice_get ds j ≡ Some c → Contains (f c) x → Contains (all_in (map f ds)) x
in_all f [] j c x at h = absurd (none-some c at)
in_all f (d ∷ ds) zero c x at h = Contains-append_left (f d) (all_in (map f ds)) x (subst (λ y. Contains (f y) x) (sym (same_Some d c at)) h)
in_all f (d ∷ ds) (suc j) c x at h = Contains-append_right (f d) (all_in (map f ds)) x (in_all f ds j c x at h)

which : {A : Type 0} (o : Option A) → is_some o ≡ true → (x : A) × (o ≡ Some x)
which None h = absurd (true≢false (sym h))
which (Some x) h = (x, refl)

entry_of_slot : (path : List ℕ) (o : Option Doc) (y : Doc) → option_and_then (item_slot base) o ≡ Some y → (j : Doc) × (o ≡ Some j)
entry_of_slot path None y h = absurd (none-some y h)
entry_of_slot path (Some j) y h = (j, refl)

pub not_none : {A : Type 0} (xs : List A) (x : A) (B : Type 0) → Contains [] x ⊎ B → B
not_none xs x B (inl h) = absurd (omega (arith, h.1))
not_none xs x B (inr h) = h

taken_in : (files : List File) (trees : List Data) (ds : List Doc) (d : Doc) → AreMergedWhole files trees ds d → (j : ℕ) (x : File) (tree : Data) (c : Doc) → slice_get ds j ≡ Some c → IsUnlost x tree c
    → IsOpenApi c → IsNamedOnce (write c) → TakesIn c d
taken_in files trees ds d m j x tree c at u kind once =
    let read : AreReadAndMerged (all_seen files trees) ds d = record { each = m.each; were_read = all_read files trees ds m.unlost; merged = m.merged; ordered = m.ordered } in
    let there : IsAllThere ds d = (nothing_of_read (all_seen files trees) ds d read (All-from_recursion IsNamedOnce (written ds) (all_once files trees ds m.unlost))).0 m.nothing in
    let clear = All-from_recursion IsUnambiguous ds (all_clear files trees ds m.unlost) in
    let values : (s : Slot) (v : Data) → IsOneOf (s, v) (slots (write c)) → at_place (place s) (write d) ≡ Some v =
    λ s v h. value_is v (at_place (place s) (write d)) (plain_place (place s) (write c) v (slot_stands (write c) (s, v) once h) (unlost_plain x tree c u)) (there j s v (write c, tree_at ds j c at, h))
    in
    record {
      rest = record {
        own = unlost_table x tree c u kind;
        all = clear_table open_api_object d m.merged.of_kind (merged_unambiguous ds d m.merged m.each clear m.ordered);
        values = λ s v h rest. values s v h;
        components = λ is. m.merged.components.there ∙ some_any is_there (map components_of ds) j (components_of c) (map_at components_of ds j c at) is;
        lists = λ l is. (m.merged.lists l).there ∙ some_any is_there (map (joined_of l) ds) j (joined_of l c) (map_at (joined_of l) ds j c at) is;
        entries =
            λ l x is.
            not_none (items_in (joined_of l d)) x (Contains (items_in (joined_of l d)) x)
            (joined_or_earlier [] (map items_in (map (joined_of l) ds)) (items_in (joined_of l d)) (m.merged.lists l).entries x
            (in_all items_in (map (joined_of l) ds) j (joined_of l c) x (map_at (joined_of l) ds j c at) is));
      };
      values = values;
      items =
          λ path i plain is.
          let some = first_some (path_slot path base) (map paths_of ds) j (paths_of c) (parts base_members i) (map_at paths_of ds j c at) (ap (option_and_then (item_slot base)) is) in
          let slot = which (path_slot path base (paths_of d)) (ap is_some (m.merged.paths.items path base) ∙ some) in
          entry_of_slot path (entry_at path (paths_of d)) slot.0 slot.1;
    }

-- ---- all of them

each_stands : (d : Doc) (xs : List File) (ts : List Data) (ds : List Doc) → AreUnlost xs ts ds → AllByRecursion IsOpenApi ds → AllByRecursion IsNamedOnce (written ds)
    → ((j : ℕ) (x : File) (tree : Data) (c : Doc) → slice_get ds j ≡ Some c → IsUnlost x tree c → IsOpenApi c → IsNamedOnce (write c) → TakesIn c d) → AllStandIn (write d) xs ts
each_stands d [] [] [] h kinds once takes = tt
each_stands d (x ∷ xs) (t ∷ ts) (c ∷ ds) h kinds once takes =
    let back = unlost_text (named open_api_object) x t c h.0.has h.0.reads h.0.nothing in
    (back.1, stands_in c d (takes 0 x t c refl h.0 kinds.0 once.0) (seen_of x t) back.0.kept, each_stands d xs ts ds h.1 kinds.1 once.1 (λ j y tree e at u k o. takes (suc j) y tree e at u k o))
each_stands d [] [] (c ∷ ds) h kinds once takes = absurd h
each_stands d [] (t ∷ ts) ds h kinds once takes = absurd h
each_stands d (x ∷ xs) [] ds h kinds once takes = absurd h
each_stands d (x ∷ xs) (t ∷ ts) [] h kinds once takes = absurd h

pub all_stand_in : (files : List File) (trees : List Data) (documents : List Doc) (d : Doc) → AreMergedWhole files trees documents d → AllStandIn (write d) files trees
all_stand_in files trees documents d m =
    each_stands d files trees documents m.unlost (recursion_from_All IsOpenApi documents m.each) (all_once files trees documents m.unlost) (taken_in files trees documents d m)
