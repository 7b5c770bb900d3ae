-- What a fault of reading says.
use Rattle.std.specs.Prelude.{◌≡◌, Option, None, Some, Result, Ok, Err}
use Rattle.serde_json.specs.Errors.{IsMemory}
use Rattle.serde_json.specs.declared.error.Error.{Error}
use Rattle.utoipa_base.specs.Docs.{Doc}
use Rattle.utoipa_base.specs.declared.fault.ReadFault.{ReadFault}
use Rattle.utoipa_base.specs.declared.fault.ReadFault.TheVariants.{Memory, Fraction, Missing, Kind, Word, Alternative, Text}

-- a fault of reading a tree as o: out of memory, or a refusal where there is no document
abbrev pub Refuses : Option Doc → ReadFault → Type 0
Refuses o Memory = Unit {0}
Refuses o Fraction = ⊥
Refuses o (Missing s) = o ≡ None
Refuses o (Kind s) = o ≡ None
Refuses o (Word s) = o ≡ None
Refuses o Alternative = o ≡ None
Refuses o Text = ⊥

-- what a reading says of an alternative: it fits, or it does not; memory's refusal says neither
abbrev pub fitting : {T : Type 0} → Result T ReadFault → Result (Option T) ReadFault
fitting (Ok v) = Ok (Some v)
fitting (Err Memory) = Err Memory
fitting (Err e) = Ok None

-- the fault of an error of the parser of JSON texts
abbrev pub IsFaultOf : Error → ReadFault → Type 0
IsFaultOf e f = (IsMemory e → f ≡ Memory) × (¬ IsMemory e → f ≡ Text)
