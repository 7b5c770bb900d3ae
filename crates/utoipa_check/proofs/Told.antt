-- By the kind of the type a place is told of each fault but memory.
use Rattle.std.proofs.Common.{◌≡◌, ◌↔◌, ◌∷◌, [], Bool, true, false, not, Option, None, Some, Result, Ok, Err, IfErr, IsErrOf, is_some, refl, sym, ap, subst, ◌∙◌, true≢false}
use Rattle.serde_json.specs.Data.{Data}
use Rattle.serde_json.specs.Written.{has_float}
use Rattle.utoipa_base.specs.Faults.{Refuses}
use Rattle.utoipa_base.specs.Kinds as kinds
use Rattle.utoipa_base.specs.Reading.{read}
use Rattle.utoipa_base.specs.declared.fault.ReadFault.{ReadFault}
use Rattle.utoipa_base.specs.declared.fault.ReadFault.TheVariants.{Memory, Fraction, Missing, Kind, Word, Alternative, Text}
use Rattle.utoipa_check.specs.Located.{IsNoDocument, RefusesTree, IsFirst, IsPlaceOf, told, told_of}
use Rattle.utoipa_check.specs.Misfits.{Misfits, is_fit, misfits, fractions}
use Rattle.utoipa_check.specs.declared.located.FaultPlace.{FaultPlace}
use Rattle.utoipa_check.proofs.Exact.{misfits_exact, fractions_exact}

first_told : (ms : Misfits) (p : Option FaultPlace) → is_fit ms ≡ false → IsFirst ms p → p ≡ None → ⊥
first_told [] p none first untold = true≢false none
first_told (m ∷ ms) p some first untold = let both : None ≡ Some (told m) = sym (ap told_of untold) ∙ first in cc

first_misfit_told : (k : kinds.Kind) (t : Data) (p : Option FaultPlace) → IsNoDocument k t → IsFirst (misfits k t) p → p ≡ None → ⊥
first_misfit_told k t p none = first_told (misfits k t) p (misfits_exact k t ∙ ap is_some none.1)

pub always_told : (k : kinds.Kind) (t : Data) (f : ReadFault) (p : Option FaultPlace) → RefusesTree k t f → IsPlaceOf k t f p → p ≡ None → f ≡ Memory
always_told k t Memory p refused place untold = refl
always_told k t Fraction p refused place untold = absurd (first_told (fractions t) p (fractions_exact t ∙ ap not refused) place untold)
always_told k t (Missing s) p refused place untold = absurd (first_misfit_told k t p refused place untold)
always_told k t (Kind s) p refused place untold = absurd (first_misfit_told k t p refused place untold)
always_told k t (Word s) p refused place untold = absurd (first_misfit_told k t p refused place untold)
always_told k t Alternative p refused place untold = absurd (first_misfit_told k t p refused place untold)
always_told k t Text p refused place untold = absurd refused

-- ---- the fault of a reader

refuses_plain : (k : kinds.Kind) (t : Data) (f : ReadFault) → has_float t ≡ false → Refuses (read k t) f → RefusesTree k t f
refuses_plain k t Memory plain h = tt
refuses_plain k t Fraction plain h = absurd h
refuses_plain k t (Missing s) plain h = (plain, h)
refuses_plain k t (Kind s) plain h = (plain, h)
refuses_plain k t (Word s) plain h = (plain, h)
refuses_plain k t Alternative plain h = (plain, h)
refuses_plain k t Text plain h = absurd h

abbrev fault_or : {T : Type 0} → Result T ReadFault → ReadFault → ReadFault
fault_or (Ok v) f = f
fault_or (Err e) f = e

refuses_by : {T : Type 0} (k : kinds.Kind) (t : Data) (r : Result T ReadFault) (f : ReadFault) (b : Bool) → has_float t ≡ b → r ≡ Err f → (has_float t ≡ true → r ≡ Err Fraction) → (has_float t ≡ false → Refuses (read k t) f) → RefusesTree k t f
refuses_by k t r f true float is fraction plain = subst (λ e. RefusesTree k t e) (ap (λ x. fault_or x f) (sym (fraction float) ∙ is)) float
refuses_by k t r f false float is fraction plain = refuses_plain k t f float (plain float)

if_err : {T : Type 0} (P : ReadFault → Type 0) (r : Result T ReadFault) (f : ReadFault) → r ≡ Err f → IfErr r P → P f
if_err P (Ok v) f is h = let none : Ok v ≡ Err f = is in cc
if_err P (Err e) f is h = subst P (ap (λ x. fault_or x f) is) h

-- why a reader refuses a tree
pub reader_refuses : {T : Type 0} (k : kinds.Kind) (t : Data) (r : Result T ReadFault) (f : ReadFault) → r ≡ Err f → IsErrOf r Fraction ↔ (has_float t ≡ true) → IfErr r (λ e. has_float t ≡ false → Refuses (read k t) e) → RefusesTree k t f
reader_refuses k t r f is fraction h = refuses_by k t r f (has_float t) refl is fraction.1 (if_err (λ e. has_float t ≡ false → Refuses (read k t) e) r f is h)
