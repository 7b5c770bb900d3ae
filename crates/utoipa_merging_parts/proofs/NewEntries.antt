-- What is kept of the entries of a later list, one after the other.
use Rattle.std.proofs.Common.{◌≡◌, ◌↔◌, List, [], ◌∷◌, ◌++◌, Bool, true, false, IsTrue, All, Contains, map, sym, ap, ◌∙◌, subst}
use Rattle.std.proofs.lemmas.List.{map-append}
use Rattle.std.proofs.lemmas.List.Elements.{All-nil, All-same, All-rest, All-push}
use Rattle.utoipa_base.specs.Docs.{Doc}
use Rattle.utoipa_base.specs.WellFormed.{IsPlain}
use Rattle.utoipa_merging.specs.Rules.{AreNew}
use Rattle.utoipa_merging_parts.specs.Lists.{ArePlain, IsWritten, entry_doc}
use Rattle.utoipa_merging_parts.specs.declared.lists.Written.{Written}
use Rattle.utoipa_merging_parts.proofs.Walks.{KeptSoFar, kept_none, kept_new, kept_known, kept_all, not_if_false}

-- of all entries some are still to come, and of those before them the new ones have been kept
pub record AreNewSoFar {X : Type 0} (f : X → Doc) (earlier : List Doc) (all rest : List X) (new : List (Written X)) : Type 0 where
  pub plain : ArePlain f rest
  pub written : All (IsWritten f) new
  pub kept : KeptSoFar earlier (map f all) (map (entry_doc f) new) (map f rest)

pub none_kept : {X : Type 0} (f : X → Doc) (earlier : List Doc) (all rest : List X) (new : List (Written X)) → ArePlain f all → rest ≡ all → new ≡ [] → AreNewSoFar f earlier all rest new
none_kept f earlier all rest new plain same none = record {
  plain = All-same (λ x. IsPlain (f x)) rest all same plain;
  written = All-same (IsWritten f) new [] none (All-nil (IsWritten f));
  kept = subst (λ ws. KeptSoFar earlier (map f all) (map (entry_doc f) ws) (map f rest)) (sym none) (kept_none earlier (map f all) (map f rest) (sym (ap (map f) same)));
}

-- the documents of the rest, by the next entry with its text
next_doc : {X : Type 0} (f : X → Doc) (rest later : List X) (x : X) (w : Written X) → rest ≡ x ∷ later → w.entry ≡ x → map f rest ≡ f w.entry ∷ map f later
next_doc f rest later x w first same = ap (map f) first ∙ ap (λ y. f y ∷ map f later) (sym same)

-- the next entry, where it equals none of the earlier
pub one_kept : {X : Type 0} (f : X → Doc) (earlier : List Doc) (all rest later : List X) (new more : List (Written X)) (x : X) (w : Written X) (known : Bool) → AreNewSoFar f earlier all rest new → rest ≡ x ∷ later → w.entry ≡ x → IsWritten f w
    → more ≡ new ++ w ∷ [] → (IsTrue known ↔ Contains earlier (f w.entry)) → known ≡ false → AreNewSoFar f earlier all later more
one_kept f earlier all rest later new more x w known before first same written is answer unknown = record {
  plain = All-rest (λ y. IsPlain (f y)) x later rest first before.plain;
  written = All-same (IsWritten f) more (new ++ w ∷ []) is (All-push (IsWritten f) new w before.written written);
  kept =
      subst (λ ds. KeptSoFar earlier (map f all) ds (map f later)) (sym (ap (map (entry_doc f)) is ∙ map-append (entry_doc f) new (w ∷ [])))
      (kept_new earlier (map f all) (map (entry_doc f) new) (map f rest) (map f later) (f w.entry) before.kept (next_doc f rest later x w first same) (not_if_false known answer unknown));
}

-- and where it equals one
pub one_passed : {X : Type 0} (f : X → Doc) (earlier : List Doc) (all rest later : List X) (new : List (Written X)) (x : X) (w : Written X) (known : Bool) → AreNewSoFar f earlier all rest new → rest ≡ x ∷ later → w.entry ≡ x
    → (IsTrue known ↔ Contains earlier (f w.entry)) → known ≡ true → AreNewSoFar f earlier all later new
one_passed f earlier all rest later new x w known before first same answer is_known = record {
  plain = All-rest (λ y. IsPlain (f y)) x later rest first before.plain;
  written = before.written;
  kept = kept_known earlier (map f all) (map (entry_doc f) new) (map f rest) (map f later) (f w.entry) before.kept (next_doc f rest later x w first same) (answer.0 is_known);
}

pub all_kept : {X : Type 0} (f : X → Doc) (earlier : List Doc) (all rest : List X) (new : List (Written X)) → AreNewSoFar f earlier all rest new → rest ≡ [] → AreNew earlier (map f all) (map (entry_doc f) new)
all_kept f earlier all rest new before none = kept_all earlier (map f all) (map (entry_doc f) new) (map f rest) before.kept (ap (map f) none)
