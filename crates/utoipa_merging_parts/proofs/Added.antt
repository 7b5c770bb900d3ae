-- Entries that are put behind those of a list one after the other, each with a place for its text.
use Rattle.std.proofs.Common.{◌≡◌, ℕ, List, [], ◌∷◌, ◌++◌, All, map, sym, ap, ◌∙◌, subst}
use Rattle.std.specs.BTreeMap.{insert_entry}
use Rattle.std.proofs.lemmas.List.{map-append}
use Rattle.std.proofs.lemmas.List.Elements.{All-same, All-rest, All-push}
use Rattle.utoipa_base.specs.Docs.{Doc}
use Rattle.utoipa_base.specs.WellFormed.{IsPlain}
use Rattle.utoipa_merging_parts.specs.Lists.{AreKnown, IsWritten, IsSound, entry_doc}
use Rattle.utoipa_merging_parts.specs.declared.lists.Joined.{Joined}
use Rattle.utoipa_merging_parts.specs.declared.lists.Written.{Written}
use Rattle.utoipa_merging_parts.proofs.KnownTexts.{C, all_known}
use Rattle.utoipa_merging_parts.proofs.Walks.{All-first, made_step, made_all}

-- of all entries some are still to come, and those before them stand behind the first ones
pub record AreAddedSoFar {X : Type 0} (f : X → Doc) (first : Joined X) (all rest : List (Written X)) (joined : Joined X) : Type 0 where
  pub sound : IsSound f joined
  pub written : All (IsWritten f) rest
  pub entries : map f joined.entries.items ++ map (entry_doc f) rest ≡ map f first.entries.items ++ map (entry_doc f) all

pub none_added : {X : Type 0} (f : X → Doc) (first : Joined X) (all rest : List (Written X)) → IsSound f first → All (IsWritten f) all → rest ≡ all → AreAddedSoFar f first all rest first
none_added f first all rest sound written same = record {
  sound = sound;
  written = All-same (IsWritten f) rest all same written;
  entries = ap (λ ws. map f first.entries.items ++ map (entry_doc f) ws) same;
}

pub one_added : {X : Type 0} (f : X → Doc) (first : Joined X) (all rest later : List (Written X)) (joined more : Joined X) (w : Written X) (place : ℕ) → AreAddedSoFar f first all rest joined → rest ≡ w ∷ later
    → more.places.entries ≡ insert_entry C joined.places.entries w.text place → more.entries.items ≡ joined.entries.items ++ w.entry ∷ [] → AreAddedSoFar f first all later more
one_added f first all rest later joined more w place before next places entries = record {
  sound = (
    All-same (λ x. IsPlain (f x)) more.entries.items (joined.entries.items ++ w.entry ∷ []) entries (All-push (λ x. IsPlain (f x)) joined.entries.items w.entry before.sound.0 written.0),
    subst (AreKnown more.places) (sym docs) (all_known joined.places more.places w.text place (map f joined.entries.items) (f w.entry) places written.1 before.sound.1),
  );
  written = All-rest (IsWritten f) w later rest next before.written;
  entries = made_step (entry_doc f) rest later w (map f joined.entries.items) (map f more.entries.items) (map f first.entries.items ++ map (entry_doc f) all) before.entries next docs;
}
  where
    written : IsWritten f w
    written = All-first (IsWritten f) w later rest next before.written

    docs : map f more.entries.items ≡ map f joined.entries.items ++ f w.entry ∷ []
    docs = ap (map f) entries ∙ map-append f joined.entries.items (w.entry ∷ [])

pub all_added : {X : Type 0} (f : X → Doc) (first : Joined X) (all rest : List (Written X)) (joined : Joined X) → AreAddedSoFar f first all rest joined → rest ≡ [] → map f joined.entries.items ≡ map f first.entries.items ++ map (entry_doc f) all
all_added f first all rest joined before none = made_all (entry_doc f) rest (map f joined.entries.items) (map f first.entries.items ++ map (entry_doc f) all) before.entries none
