-- Alternatives that are tried in turn.
use Rattle.std.proofs.Common.{◌≡◌, ℕ, Option, Some, None, Result, Ok, Err}
use Rattle.utoipa_base.specs.Docs.{Doc}
use Rattle.utoipa_base.specs.Faults.{fitting}
use Rattle.utoipa_base.specs.Reads.{Reads}
use Rattle.utoipa_base.specs.declared.fault.ReadFault.{ReadFault}
use Rattle.utoipa_base.specs.declared.fault.ReadFault.TheVariants.{Memory, Fraction, Missing, Kind as no_kind, Word, Alternative, Text}

-- what fits was read
pub fits_as : {T : Type 0} (r : Result T ReadFault) (v : T) → fitting r ≡ Ok (Some v) → r ≡ Ok v
fits_as (Ok w) v e = cc
fits_as (Err Memory) v e = cc
fits_as (Err Fraction) v e = cc
fits_as (Err (Missing s)) v e = cc
fits_as (Err (no_kind s)) v e = cc
fits_as (Err (Word s)) v e = cc
fits_as (Err Alternative) v e = cc
fits_as (Err Text) v e = cc

-- what does not fit has no document
pub fits_not : {T : Type 0} (f : T → Doc) (o : Option Doc) (r : Result T ReadFault) (old new most : ℕ) → Reads o f r old new most → fitting r ≡ Ok None → o ≡ None
fits_not f o (Ok w) old new most reads e = cc
fits_not f o (Err Memory) old new most reads e = cc
fits_not f o (Err Fraction) old new most reads e = absurd reads.err
fits_not f o (Err (Missing s)) old new most reads e = reads.err
fits_not f o (Err (no_kind s)) old new most reads e = reads.err
fits_not f o (Err (Word s)) old new most reads e = reads.err
fits_not f o (Err Alternative) old new most reads e = reads.err
fits_not f o (Err Text) old new most reads e = absurd reads.err

-- and what says neither ran out of memory
pub fits_neither : {T : Type 0} (r : Result T ReadFault) (e : ReadFault) → fitting r ≡ Err e → e ≡ Memory
fits_neither (Ok w) x e = cc
fits_neither (Err Memory) x e = cc
fits_neither (Err Fraction) x e = cc
fits_neither (Err (Missing s)) x e = cc
fits_neither (Err (no_kind s)) x e = cc
fits_neither (Err (Word s)) x e = cc
fits_neither (Err Alternative) x e = cc
fits_neither (Err Text) x e = cc
