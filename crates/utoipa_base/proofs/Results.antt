-- What holds of a result, where there is one.
use Rattle.std.proofs.Common.{◌≡◌, Bool, true, false, Option, Some, None, IfSome, option_map, option_and_then, subst, Ordering, Less, Equal, Greater}
use Rattle.std.specs.Ordering.{match_ordering}
use Rattle.utoipa_base.specs.Docs.{Doc}
use Rattle.utoipa_base.specs.Reading.{or_else, only_if}

-- what holds of the result holds of what it is
pub if_is : {A : Type 0} (P : A → Type 0) (o : Option A) (x : A) → IfSome o P → o ≡ Some x → P x
if_is P o x h e = subst (λ r. IfSome r P) e h

-- a function of the result
pub if_map : {A B : Type 0} (P : A → Type 0) (Q : B → Type 0) (f : A → B) → ((x : A) → P x → Q (f x)) → (o : Option A) → IfSome o P → IfSome (option_map f o) Q
if_map P Q f h None p = tt
if_map P Q f h (Some x) p = h x p

-- a function that makes what holds of anything
pub if_made : {A B : Type 0} (Q : B → Type 0) (f : A → B) → ((x : A) → Q (f x)) → (o : Option A) → IfSome (option_map f o) Q
if_made Q f h None = tt
if_made Q f h (Some x) = h x

-- a result that stands on another
pub if_then : {A B : Type 0} (Q : B → Type 0) (f : A → Option B) → ((x : A) → IfSome (f x) Q) → (o : Option A) → IfSome (option_and_then f o) Q
if_then Q f h None = tt
if_then Q f h (Some x) = h x

-- the first of two results that there is
pub if_else : (P : Doc → Type 0) (o p : Option Doc) → IfSome o P → IfSome p P → IfSome (or_else o p) P
if_else P None p g h = h
if_else P (Some d) p g h = g

-- a result under a condition
pub if_only : (P : Doc → Type 0) (b : Bool) (o : Option Doc) → IfSome o P → IfSome (only_if b o) P
if_only P true o h = h
if_only P false o h = tt

-- one of three, by an order
pub by_order : {A : Type 0} (P : A → Type 0) (o : Ordering) (x y z : A) → P x → P y → P z → P (match_ordering o x y z)
by_order P Less x y z f g h = f
by_order P Equal x y z f g h = g
by_order P Greater x y z f g h = h
