-- Lists that may be absent, joined one after the other.
use Rattle.std.proofs.Common.{◌≡◌, ◌||◌, List, [], ◌∷◌, ◌++◌, Bool, true, false, Option, Some, None, IsSome, map, refl, sym, ap, ◌∙◌, subst, Global}
use Rattle.std.specs.Prelude.{Vec}
use Rattle.std.specs.Option.{is_some}
use Rattle.std.specs.List.{list_any}
use Rattle.std.proofs.lemmas.List.{append-nil, map-append}
use Rattle.std.proofs.lemmas.List.Elements.{All-nil, All-same}
use Rattle.std.proofs.lemmas.Simd.{map-map}
use Rattle.std.proofs.lemmas.List.Folds.{list_any-append}
use Rattle.utoipa_base.specs.Docs.{Doc, some_doc, list_doc, docs_of}
use Rattle.utoipa_base.specs.Views.{list_of_docs, option_of}
use Rattle.utoipa_base.specs.WellFormed.{IsPlain}
use Rattle.utoipa_merging.specs.Merged.{IsListMerged}
use Rattle.utoipa_merging.specs.Rules.{AreNew, AreJoined}
use Rattle.utoipa_merging.specs.Slots.{items_in, is_there}
use Rattle.utoipa_merging.proofs.JoinedLists.{joined_composes, joined_one, new_to_none}
use Rattle.utoipa_merging.proofs.MapViews.{items_in-list}
use Rattle.utoipa_merging.proofs.Options.{or_false}
use Rattle.utoipa_merging_parts.specs.Lists.{items_if_any, joined_docs, entry_doc, text_of, place_of, AreKnown, IsSound, IsJoinedWith, IsTaken}
use Rattle.utoipa_merging_parts.specs.declared.lists.Joined.{Joined}
use Rattle.utoipa_merging_parts.specs.declared.lists.Written.{Written}

-- a list that may be absent, as a document
abbrev pub list_doc_of : {X : Type 0} → (X → Doc) → Option (Vec X Global) → Doc
list_doc_of f l = option_of (list_of_docs f) l

pub items-list_doc : {X : Type 0} (f : X → Doc) (l : Option (Vec X Global)) → items_in (list_doc_of f l) ≡ map f (items_if_any l)
items-list_doc f None = refl
items-list_doc f (Some v) = items_in-list f v

pub there-list_doc : {X : Type 0} (f : X → Doc) (l : Option (Vec X Global)) → is_there (list_doc_of f l) ≡ is_some l
there-list_doc f None = refl
there-list_doc f (Some v) = refl

-- one more list
pub joined_more : {A : Type 0} (ls : List (List A)) (js l kept : List A) → AreJoined [] ls js → AreNew js l kept → AreJoined [] (ls ++ l ∷ []) (js ++ kept)
joined_more ls js l kept h new = joined_composes ls (l ∷ []) js l (js ++ kept) h (joined_one l) (js, kept, new_to_none js, (kept, [], new, refl, sym (append-nil kept)), refl)

-- what has been joined of the lists so far
pub record AreJoinedSoFar {X : Type 0} (f : X → Doc) (lists : List (Option (Vec X Global))) (joined : Option (Joined X)) : Type 0 where
  pub there : is_some joined ≡ list_any is_there (map (list_doc_of f) lists)
  pub entries : AreJoined [] (map items_in (map (list_doc_of f) lists)) (joined_docs f joined)

pub none_joined : {X : Type 0} (f : X → Doc) → AreJoinedSoFar f [] None
none_joined f = record { there = refl; entries = refl }

pub one_more : {X : Type 0} (f : X → Doc) (lists : List (Option (Vec X Global))) (l : Option (Vec X Global)) (joined all : Option (Joined X)) → AreJoinedSoFar f lists joined → IsJoinedWith f joined l all → AreJoinedSoFar f (lists ++ l ∷ []) all
one_more f lists l joined all before (new, are_new, is, there) = record {
  there =
      there
      ∙ ap (λ b. b || is_some l) before.there
      ∙ ap (λ b. list_any is_there (map (list_doc_of f) lists) || b) (sym (there-list_doc f l) ∙ sym (or_false (is_there (list_doc_of f l))))
      ∙ sym (list_any-append is_there (map (list_doc_of f) lists) (list_doc_of f l ∷ []))
      ∙ ap (list_any is_there) (sym (map-append (list_doc_of f) lists (l ∷ [])));
  entries =
      subst (AreJoined [] (map items_in (map (list_doc_of f) (lists ++ l ∷ [])))) (sym is)
      (subst (λ ls. AreJoined [] ls (joined_docs f joined ++ new)) whole (joined_more (map items_in (map (list_doc_of f) lists)) (joined_docs f joined) (map f (items_if_any l)) new before.entries are_new));
}
  where
    whole : map items_in (map (list_doc_of f) lists) ++ map f (items_if_any l) ∷ [] ≡ map items_in (map (list_doc_of f) (lists ++ l ∷ []))
    whole =
        ap (λ i. map items_in (map (list_doc_of f) lists) ++ i ∷ []) (sym (items-list_doc f l))
        ∙ sym (map-append items_in (map (list_doc_of f) lists) (list_doc_of f l ∷ []))
        ∙ ap (map items_in) (sym (map-append (list_doc_of f) lists (l ∷ [])))

-- once all lists have been joined, their entries as a list that may be absent
pub all_joined : {X : Type 0} (f : X → Doc) (lists done rest : List (Option (Vec X Global))) (so_far joined : Option (Joined X)) (list : Option (Vec X Global)) → is_some list ≡ is_some joined → map f (items_if_any list) ≡ joined_docs f joined
    → done ++ rest ≡ lists → rest ≡ [] → so_far ≡ joined → AreJoinedSoFar f done so_far → IsListMerged (map (list_doc_of f) lists) (list_doc_of f list)
all_joined f lists done rest so_far joined list there is passed none same before = record {
  there = there-list_doc f list ∙ there ∙ all.there;
  entries = subst (AreJoined [] (map items_in (map (list_doc_of f) lists))) (sym (items-list_doc f list ∙ is)) all.entries;
}
  where
    done_all : done ≡ lists
    done_all = sym (append-nil done) ∙ ap (λ l. done ++ l) (sym none) ∙ passed

    all : AreJoinedSoFar f lists joined
    all = subst (AreJoinedSoFar f lists) same (subst (λ ls. AreJoinedSoFar f ls so_far) done_all before)

-- a list that took what is new of another
pub taken_list : {X : Type 0} (f : X → Doc) (own later new taken : Option (Vec X Global)) → is_some new ≡ is_some later → AreNew (map f (items_if_any own)) (map f (items_if_any later)) (map f (items_if_any new))
    → IsTaken own new taken → IsListMerged (list_doc_of f own ∷ list_doc_of f later ∷ []) (list_doc_of f taken)
taken_list f own later new taken there are_new (in_all, is) = record {
  there =
      there-list_doc f taken
      ∙ in_all
      ∙ ap (λ b. is_some own || b) (there ∙ sym (there-list_doc f later) ∙ sym (or_false _))
      ∙ ap (λ b. b || (is_there (list_doc_of f later) || false)) (sym (there-list_doc f own));
  entries =
      subst (λ ls. AreJoined [] ls (items_in (list_doc_of f taken))) (sym lists)
      (subst (AreJoined [] (map f (items_if_any own) ∷ map f (items_if_any later) ∷ [])) (sym all)
      (map f (items_if_any own), map f (items_if_any new), new_to_none _, (map f (items_if_any new), [], are_new, refl, sym (append-nil _)), refl));
}
  where
    lists : items_in (list_doc_of f own) ∷ items_in (list_doc_of f later) ∷ [] ≡ map f (items_if_any own) ∷ map f (items_if_any later) ∷ []
    lists = λ i. items-list_doc f own i ∷ items-list_doc f later i ∷ []

    all : items_in (list_doc_of f taken) ≡ map f (items_if_any own) ++ map f (items_if_any new)
    all = items-list_doc f taken ∙ ap (map f) is ∙ map-append f (items_if_any own) (items_if_any new)

-- ---- a list that is joined, if it is there

-- of no entries yet
pub none_sound : {X : Type 0} (f : X → Doc) (j : Joined X) → j.entries.items ≡ [] → IsSound f j
none_sound f j none = (
  All-same (λ x. IsPlain (f x)) j.entries.items [] none (All-nil (λ x. IsPlain (f x))),
  subst (λ xs. AreKnown j.places (map f xs)) (sym none) (All-nil (λ d. IsSome (place_of (text_of d) j.places))),
)

or_true : (b : Bool) → (b || true) ≡ true
or_true true = refl
or_true false = refl

pub joined_with : {X : Type 0} (f : X → Doc) (joined : Option (Joined X)) (list : Option (Vec X Global)) (j all : Joined X) (l : Vec X Global) (new : List Doc)
    → map f j.entries.items ≡ joined_docs f joined → list ≡ Some l → AreNew (map f j.entries.items) (map f l.items) new → map f all.entries.items ≡ map f j.entries.items ++ new → IsJoinedWith f joined list (Some all)
joined_with f joined list j all l new docs is are_new entries = (
  new,
  subst (λ o. AreNew (joined_docs f joined) (map f (items_if_any o)) new) (sym is) (subst (λ ds. AreNew ds (map f l.items) new) docs are_new),
  entries ∙ ap (λ ds. ds ++ new) docs,
  sym (or_true (is_some joined)) ∙ ap (λ o. is_some joined || is_some o) (sym is),
)

-- ---- what a list takes of a later one

-- nothing of none
pub takes_none : {X : Type 0} (f : X → Doc) (own later taken : Option (Vec X Global)) → later ≡ None → IsTaken own None taken → IsListMerged (list_doc_of f own ∷ list_doc_of f later ∷ []) (list_doc_of f taken)
takes_none f own later taken is h = subst (λ o. IsListMerged (list_doc_of f own ∷ list_doc_of f o ∷ []) (list_doc_of f taken)) (sym is) (taken_list f own None None taken refl refl h)

-- all where it was not there itself
pub takes_all : {X : Type 0} (f : X → Doc) (own later taken : Option (Vec X Global)) (l : Vec X Global) → own ≡ None → later ≡ Some l → IsTaken own (Some l) taken → IsListMerged (list_doc_of f own ∷ list_doc_of f later ∷ []) (list_doc_of f taken)
takes_all f own later taken l none is h =
    taken_list f own later (Some l) taken (ap is_some (sym is))
    (subst (λ o. AreNew (map f (items_if_any own)) (map f (items_if_any o)) (map f l.items)) (sym is)
    (subst (λ o. AreNew (map f (items_if_any o)) (map f l.items) (map f l.items)) (sym none) (new_to_none (map f l.items)))) h

-- what is new to it
pub takes_new : {X : Type 0} (f : X → Doc) (own later taken : Option (Vec X Global)) (before after l new : Vec X Global) (written : List (Written X)) → own ≡ Some before → after.items ≡ before.items → later ≡ Some l
    → AreNew (map f before.items) (map f l.items) (map (entry_doc f) written) → new.items ≡ map (λ w. w.entry) written → IsTaken (Some after) (Some new) taken → IsListMerged (list_doc_of f own ∷ list_doc_of f later ∷ []) (list_doc_of f taken)
takes_new {X} f own later taken before after l new written was stays is are_new entries h =
    subst (λ d. IsListMerged (d ∷ list_doc_of f later ∷ []) (list_doc_of f taken)) same
    (taken_list f (Some after) later (Some new) taken (ap is_some (sym is))
    (subst (λ o. AreNew (map f after.items) (map f (items_if_any o)) (map f new.items)) (sym is)
    (subst (λ ds. AreNew (map f after.items) (map f l.items) ds) docs (subst (λ xs. AreNew (map f xs) (map f l.items) (map (entry_doc f) written)) (sym stays) are_new))) h)
  where
    same : list_doc_of f (Some after) ≡ list_doc_of f own
    same = ap (λ xs. some_doc (list_doc (docs_of (map f xs)))) stays ∙ ap (list_doc_of f) (sym was)

    docs : map (entry_doc f) written ≡ map f new.items
    docs = sym (map-map f (λ (w : Written X). w.entry) written) ∙ ap (map f) (sym entries)
