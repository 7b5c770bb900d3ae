-- Lists that may be absent, and lists of what stands where a reference could.
use Rattle.std.specs.Prelude.{◌≡◌, ◌++◌, List, [], ◌∷◌, Option, None, Some, Vec, map}
use Rattle.std.specs.declared.alloc.Global.{Global}
use Rattle.utoipa_base.specs.Lists.{GivesAll}
use Rattle.utoipa_base.specs.declared.refs.Ref.{Ref}
use Rattle.utoipa_base.specs.declared.refs.RefOr.{RefOr}
use Rattle.utoipa_base.specs.declared.refs.RefOr.TheVariants as places

-- the items of a list that may be absent
abbrev pub items_if_any : {X : Type 0} → Option (Vec X Global) → List X
items_if_any None = []
items_if_any (Some list) = list.items

-- there is a list, of the items before and behind them this one
abbrev pub IsOneMore : {X : Type 0} → Option (Vec X Global) → X → Option (Vec X Global) → Type 0
IsOneMore {X} before x after = (list : Vec X Global) × (after ≡ Some list) × (list.items ≡ items_if_any before ++ x ∷ [])

-- a value, where a reference could stand
abbrev pub own_place : {X : Type 0} → X → RefOr X
own_place x = places.T x

-- a reference, where a value could stand
abbrev pub reference_place : {X : Type 0} → Ref → RefOr X
reference_place r = places.Ref r

-- there is a list where there are values, of the items before and behind them each value, where a reference could stand
abbrev pub IsExtendedIfAny : {C S X : Type 0} → (C → S → Type 0) → (S → Option X → S → Type 0) → Option (Vec (RefOr X) Global) → Option C → Option (Vec (RefOr X) Global) → Type 0
IsExtendedIfAny {C} {S} {X} into gives before None after = after ≡ None
IsExtendedIfAny {C} {S} {X} into gives before (Some items) after =
    (list : Vec (RefOr X) Global) × (given : List X) × GivesAll into gives items given × (after ≡ Some list) × (list.items ≡ items_if_any before ++ map own_place given)

-- there is a list where items are given, of the values that they are, each where a reference could stand
abbrev pub ArePlacesIfAny : {C S X : Type 0} → (C → S → Type 0) → (S → Option X → S → Type 0) → Option C → Option (Vec (RefOr X) Global) → Type 0
ArePlacesIfAny into gives items list = IsExtendedIfAny into gives None items list

-- there is a list where items are given, of the references that they are, each where a value could stand
abbrev pub AreReferencesIfAny : {C S X : Type 0} → (C → S → Type 0) → (S → Option Ref → S → Type 0) → Option C → Option (Vec (RefOr X) Global) → Type 0
AreReferencesIfAny {C} {S} {X} into gives None list = list ≡ None
AreReferencesIfAny {C} {S} {X} into gives (Some references) o =
    (list : Vec (RefOr X) Global) × (given : List Ref) × GivesAll into gives references given × (o ≡ Some list) × (list.items ≡ map reference_place given)
