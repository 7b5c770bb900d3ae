-- Lists that are filled from iterators, and from what iterators are made of.
use Rattle.std.specs.Prelude.{Option, None, Some, Vec, List}
use Rattle.std.specs.Iterator.{Drains}
use Rattle.std.specs.declared.alloc.Global.{Global}

-- it holds of each iterator that the items may be made into
abbrev pub EachIterator : {C S : Type 0} → (C → S → Type 0) → (S → Type 0) → C → Type 0
EachIterator {C} {S} into P items = (it : S) → into items it → P it

-- the items, made into an iterator, are just these, in that order
abbrev pub GivesAll : {C S A : Type 0} → (C → S → Type 0) → (S → Option A → S → Type 0) → C → List A → Type 0
GivesAll {C} {S} into gives items given = (it : S) × into items it × Drains gives it given

-- the list holds all of the items, in that order
abbrev pub IsFilledFrom : {C S A : Type 0} → (C → S → Type 0) → (S → Option A → S → Type 0) → C → Vec A Global → Type 0
IsFilledFrom into gives items list = GivesAll into gives items list.items

-- there is a list where there are items, and it holds all of them
abbrev pub IsFilledIfAny : {C S A : Type 0} → (C → S → Type 0) → (S → Option A → S → Type 0) → Option C → Option (Vec A Global) → Type 0
IsFilledIfAny into gives None None = Unit {0}
IsFilledIfAny into gives None (Some list) = ⊥
IsFilledIfAny into gives (Some items) None = ⊥
IsFilledIfAny into gives (Some items) (Some list) = IsFilledFrom into gives items list
