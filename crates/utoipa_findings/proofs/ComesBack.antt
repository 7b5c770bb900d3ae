-- A document in which nothing is found comes back.
use Rattle.std.proofs.Common.{◌≡◌, ℕ, List, [], ◌∷◌, ◌++◌, map, Bool, true, false, not, cond, ◌&&◌, Option, Some, None, option_map, is_some, refl, sym, ap, ◌∙◌, true≢false}
use Rattle.std.specs.List.{flat_map}
use Rattle.json.specs.Json.{document}
use Rattle.serde_json.specs.Data.{Data}
use Rattle.serde_json.specs.Written.{has_float}
use Rattle.utoipa_base.specs.Docs.{Doc}
use Rattle.utoipa_base.specs.Kinds.{Kind}
use Rattle.utoipa_base.specs.Reading.{read}
use Rattle.utoipa_base.specs.Shape.{IsOf, value_of}
use Rattle.utoipa_base.specs.WellFormed.{ReadsAs}
use Rattle.utoipa_base.specs.Writing.{write}
use Rattle.utoipa_base.proofs.Plain.{write_plain}
use Rattle.utoipa_base.proofs.ReadsBack.{reads_back}
use Rattle.utoipa_base.proofs.WhatIsRead.{read_normal}
use Rattle.utoipa_check.specs.Doubts.{doubts}
use Rattle.utoipa_check.specs.Dropped.{dropped, dropped_by}
use Rattle.utoipa_check.specs.Misfits.{is_fit, without_fractions, misfits_and_fractions}
use Rattle.utoipa_check.specs.References.{references}
use Rattle.utoipa_check.proofs.DoubtsSound.{doubts_kept}
use Rattle.utoipa_check.proofs.DroppedHas.{nothing_dropped}
use Rattle.utoipa_check.proofs.Sound.{misfits_and_fractions_exact}
use Rattle.utoipa_check.proofs.Undoubted.{undoubted_well_formed}
use Rattle.utoipa_check.proofs.Within.{written_within}
use Rattle.utoipa_duplicates.specs.Duplicates.{places_in}
use Rattle.utoipa_findings.specs.ComesBack.{ComesBack}
use Rattle.utoipa_findings.specs.Findings.{Finding, unfit_at, doubtful_at, lost_at, repeated_at, dangles_at, or_none, dropped_where_read, refusals, meant_otherwise, findings, losses, repeated_names}

-- ---- lists that are empty

pub first_none : {A : Type 0} (xs ys : List A) → xs ++ ys ≡ [] → xs ≡ []
first_none [] ys e = refl
first_none (x ∷ xs) ys e = cc

pub second_none : {A : Type 0} (xs ys : List A) → xs ++ ys ≡ [] → ys ≡ []
second_none [] ys e = e
second_none (x ∷ xs) ys e = cc

pub map_none : {A B : Type 0} (f : A → B) (xs : List A) → map f xs ≡ [] → xs ≡ []
map_none f [] e = refl
map_none f (x ∷ xs) e = cc

-- ---- nothing is found

none_refused : (k : Kind) (t : Data) → findings k t ≡ [] → misfits_and_fractions k t ≡ []
none_refused k t e =
    let rest = first_none (refusals k t ++ meant_otherwise k t) (map lost_at (dropped_where_read k t)) (first_none ((refusals k t ++ meant_otherwise k t) ++ map lost_at (dropped_where_read k t)) (flat_map dangles_at (references k t)) e) in
    map_none unfit_at (misfits_and_fractions k t) (first_none (refusals k t) (meant_otherwise k t) rest)

none_doubted : (k : Kind) (t : Data) → findings k t ≡ [] → without_fractions (doubts k t) ≡ []
none_doubted k t e =
    let rest = first_none (refusals k t ++ meant_otherwise k t) (map lost_at (dropped_where_read k t)) (first_none ((refusals k t ++ meant_otherwise k t) ++ map lost_at (dropped_where_read k t)) (flat_map dangles_at (references k t)) e) in
    map_none doubtful_at (without_fractions (doubts k t)) (second_none (refusals k t) (meant_otherwise k t) rest)

none_lost : (k : Kind) (t : Data) → findings k t ≡ [] → dropped_where_read k t ≡ []
none_lost k t e =
    map_none lost_at (dropped_where_read k t)
    (second_none (refusals k t ++ meant_otherwise k t) (map lost_at (dropped_where_read k t)) (first_none ((refusals k t ++ meant_otherwise k t) ++ map lost_at (dropped_where_read k t)) (flat_map dangles_at (references k t)) e))

-- ---- the document

both_hold : (a b : Bool) → a && not b ≡ true → (a ≡ true) × (b ≡ false)
both_hold true true e = absurd (true≢false (sym e))
both_hold true false e = (refl, refl)
both_hold false b e = absurd (true≢false (sym e))

fits : (k : Kind) (t : Data) → findings k t ≡ [] → (is_some (read k t) ≡ true) × (has_float t ≡ false)
fits k t e = both_hold (is_some (read k t)) (has_float t) (sym (misfits_and_fractions_exact k t) ∙ ap is_fit (none_refused k t e))

some_there : {A : Type 0} (o : Option A) → is_some o ≡ true → (x : A) × (o ≡ Some x)
some_there None e = absurd (true≢false (sym e))
some_there (Some x) e = (x, refl)

pub dropped_is : (k : Kind) (t : Data) (d : Doc) → ReadsAs k t d → dropped_where_read k t ≡ dropped t (write d)
dropped_is k t d is =
    ap (λ b. cond b [] (or_none (dropped_by k t))) is.0 ∙ ap (λ o. or_none (option_map (λ x. dropped t (write x)) o)) is.1

-- a tree that is not refused reads as a document
pub unrefused_reads : (k : Kind) (t : Data) → refusals k t ≡ [] → (d : Doc) × ReadsAs k t d
unrefused_reads k t none =
    let both = both_hold (is_some (read k t)) (has_float t) (sym (misfits_and_fractions_exact k t) ∙ ap is_fit (map_none unfit_at (misfits_and_fractions k t) none)) in
    let there = some_there (read k t) both.0 in
    (there.0, (both.1, there.1))

-- a document of whose tree nothing is in doubt and nothing is dropped
back : (k : Kind) (t : Data) (d : Doc) → ReadsAs k t d → without_fractions (doubts k t) ≡ [] → dropped_where_read k t ≡ [] → ComesBack k t d
back k t d reads clear none = record {
  reads = reads;
  well_formed = undoubted_well_formed k t d (sym (doubts_kept k t reads.0) ∙ clear) reads;
  kept = (nothing_dropped t (write d)).0 (sym (dropped_is k t d reads) ∙ none);
  nothing_besides = written_within k t d reads.1;
}

pub comes_back : (k : Kind) (t : Data) (d : Doc) → findings k t ≡ [] → read k t ≡ Some d → ComesBack k t d
comes_back k t d none is = back k t d ((fits k t none).1, is) (none_doubted k t none) (none_lost k t none)

-- a document that loses nothing
pub undoubted_where_unlost : (k : Kind) (t : Data) → losses k t ≡ [] → without_fractions (doubts k t) ≡ []
undoubted_where_unlost k t none = map_none doubtful_at (without_fractions (doubts k t)) (first_none (meant_otherwise k t) (map lost_at (dropped_where_read k t)) none)

pub unlost_comes_back : (k : Kind) (t : Data) (d : Doc) → ReadsAs k t d → losses k t ≡ [] → ComesBack k t d
unlost_comes_back k t d reads none =
    back k t d reads (undoubted_where_unlost k t none) (map_none lost_at (dropped_where_read k t) (second_none (meant_otherwise k t) (map lost_at (dropped_where_read k t)) none))

-- a tree in which nothing is found is a document
pub some_comes_back : (k : Kind) (t : Data) → findings k t ≡ [] → (d : Doc) × ComesBack k t d
some_comes_back k t none = let there = some_there (read k t) (fits k t none).0 in (there.0, comes_back k t there.0 none there.1)

-- and reads back from the written tree, where it is of the kind
pub reads_again : (k : Kind) (t : Data) (d : Doc) → IsOf d (value_of k) → ComesBack k t d → ReadsAs k (write d) d
reads_again k t d of_kind h = (write_plain d h.well_formed.0, reads_back d k of_kind h.well_formed.1 ∙ ap Some (read_normal k t d h.reads.1))

-- ---- a text with its tree

pub none_repeated : (text : List ℕ) (rest : List Finding) → repeated_names text ++ rest ≡ [] → places_in (document text) ≡ []
none_repeated text rest none = map_none repeated_at (places_in (document text)) (first_none (repeated_names text) rest none)
