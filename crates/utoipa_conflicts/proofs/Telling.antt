-- Conflicts by the texts of their places.
use Rattle.std.proofs.Common.{◌≡◌, inl, inr, List, [], ◌∷◌, map, All, refl, sym, ap, subst}
use Rattle.utoipa_base.specs.Docs.{Doc}
use Rattle.utoipa_conflicts.specs.Conflicts.{Conflict, conflicts}
use Rattle.utoipa_conflicts.specs.Holders.{IsNamedOnce}
use Rattle.utoipa_conflicts.specs.IsConflict.{IsOneOf}
use Rattle.utoipa_conflicts.specs.Merged.{written, AreMergedInto, IsLost, Told, in_text, told, TellWhatIsLost}
use Rattle.utoipa_conflicts.proofs.WhatIsLost.{told_where_lost, nothing_told_where_all_there}

among_texts : (c : Conflict) (cs : List Conflict) → IsOneOf c cs → IsOneOf (in_text c) (map in_text cs)
among_texts c [] h = absurd h
among_texts c (x ∷ cs) (inl e) = inl (ap in_text e)
among_texts c (x ∷ cs) (inr h) = inr (among_texts c cs h)

which_text : (t : Told) (cs : List Conflict) → IsOneOf t (map in_text cs) → (c : Conflict) × (t ≡ in_text c) × IsOneOf c cs
which_text t [] h = absurd h
which_text t (x ∷ cs) (inl e) = (x, e, inl refl)
which_text t (x ∷ cs) (inr h) = let more = which_text t cs h in (more.0, more.1, inr more.2)

none_in_text : (cs : List Conflict) → map in_text cs ≡ [] → cs ≡ []
none_in_text [] e = refl
none_in_text (c ∷ cs) e = cc

telling : (ds : List Doc) (d : Doc) → AreMergedInto ds d → All IsNamedOnce (written ds) → TellWhatIsLost ds d (told ds)
telling ds d m once = record {
  truth =
      λ text i j h.
      let c = which_text (text, i, j) (conflicts (written ds)) h in
      let lost : IsLost ds d c.0.0 c.0.2 = (told_where_lost ds d m once c.0.0 c.0.2).0 (c.0.1, c.2) in
      let number : c.0.2 ≡ j = ap (λ t. t.2) (sym c.1) in
      (c.0.0, ap (λ t. t.0) c.1, subst (IsLost ds d c.0.0) number lost);
  all =
      λ p j lost.
      let found = (told_where_lost ds d m once p j).1 lost in
      (found.0, among_texts (p, found.0, j) (conflicts (written ds)) found.1);
  nothing =
      let law = nothing_told_where_all_there ds d m once in
      (λ none. law.0 (none_in_text (conflicts (written ds)) none), λ there. ap (map in_text) (law.1 there));
}

pub tells : (ds : List Doc) (d : Doc) (cs : List Told) → cs ≡ told ds → AreMergedInto ds d → All IsNamedOnce (written ds) → TellWhatIsLost ds d cs
tells ds d cs is m once = subst (TellWhatIsLost ds d) (sym is) (telling ds d m once)
