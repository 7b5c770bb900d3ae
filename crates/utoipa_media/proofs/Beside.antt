-- What was made beside a value that is kept, and what was put into a list or a map once it was made.
use Rattle.std.proofs.Common.{◌≡◌, ◌<◌, ◌∷◌, ℕ, List, length, get_or, Option, Some, Result, Ok, Err, IfOk, IfErr, String, Global, refl, subst}
use Rattle.std.specs.Result.{IsErrAnd}
use Rattle.serde_json.specs.Data.{Data}
use Rattle.serde_json.specs.Find.{as_array, as_object}
use Rattle.serde_json.specs.View.{view, items_view, members_view}
use Rattle.serde_json.specs.declared.value.Value.{Value}
use Rattle.serde_json.proofs.Views.{Entry}
use Rattle.utoipa_base.specs.Docs.{Doc}
use Rattle.utoipa_base.specs.Faults.{Refuses}
use Rattle.utoipa_base.specs.Kinds.{Kind, list_of, map_of}
use Rattle.utoipa_base.specs.Reading.{read}
use Rattle.utoipa_base.specs.Reads.{Reads}
use Rattle.utoipa_base.specs.Values.{values}
use Rattle.utoipa_base.specs.declared.fault.ReadFault.{ReadFault}
use Rattle.utoipa_base.proofs.Readers.{passes_refusal}
use Rattle.utoipa_base.proofs.ReadingLists.{ListSoFar, list_refused, list_within}
use Rattle.utoipa_base.proofs.ReadingMaps.{MapSoFar, map_refused, map_within_next}

-- what holds of the result holds of the value that was made
pub made_is : {A E : Type 0} (P : A → Type 0) (r : Result A E) (v : A) → IfOk r P → r ≡ Ok v → P v
made_is P r v h is = subst (λ x. IfOk x P) is h

-- a reading that came to a fault
pub reads_fault : {A : Type 0} (f : A → Doc) (o : Option Doc) (r : Result A ReadFault) (e : ReadFault) (old new most : ℕ) → Reads o f r old new most → r ≡ Err e → Reads {A = A} o f (Err e) old new most
reads_fault f o r e old new most reads is = subst (λ x. Reads o f x old new most) is reads

-- the fault refuses what the reading refuses, if it does
abbrev pub Passes : {A : Type 0} → Result A ReadFault → ReadFault → Type 0
Passes r x = (o : Option Doc) → IfErr r (Refuses o) → Refuses o x

-- an item that was refused, or could not be kept, refuses the list
pub list_item_refused : {T B : Type 0} (k : Kind) (f : T → Doc) (g : B → Doc) (xs : List Value) (i : ℕ) (ys : List T) (start now new : ℕ) (x : Value) (d : Data) (q : Result B ReadFault) (e : ReadFault) (r : Result T ReadFault) → ListSoFar k f xs i ys start now
    → i < length xs → x ≡ get_or xs i x → Some (items_view xs) ≡ as_array d → IsErrAnd q (λ h. h ≡ e) → Passes r e → Reads (read k (view x)) f r now new (values (view x)) → Reads (read (list_of k) d) g q start new (values d)
list_item_refused k f g xs i ys start now new x d q e (Ok v) so_far within is all passed passes one =
    let counted = list_within k f xs i ys start now new x v d so_far within is all one in
    passes_refusal g q e (read (list_of k) d) start new (values d) passed (passes (read (list_of k) d) tt) counted.0 counted.1
list_item_refused {T} k f g xs i ys start now new x d q e (Err h) so_far within is all passed passes one =
    let whole : Reads {A = T} (read (list_of k) d) f (Err h) start new (values d) = list_refused k f f xs i ys start now new x d (Err h) h so_far within is all refl one in
    passes_refusal g q e (read (list_of k) d) start new (values d) passed (passes (read (list_of k) d) whole.err) whole.grows whole.at_most

-- so does an entry the map
pub map_entry_refused : {T B : Type 0} (k : Kind) (f : T → Doc) (g : B → Doc) (all left : List Entry) (es : List (String Global × T)) (start now new : ℕ) (e : Entry) (more : List Entry) (d : Data) (q : Result B ReadFault) (x : ReadFault) (r : Result T ReadFault)
    → MapSoFar k f all left es start now → left ≡ e ∷ more → Some (members_view all) ≡ as_object d → IsErrAnd q (λ h. h ≡ x) → Passes r x → Reads (read k (view e.1)) f r now new (values (view e.1)) → Reads (read (map_of k) d) g q start new (values d)
map_entry_refused k f g all left es start now new e more d q x (Ok v) so_far rest is passed passes one =
    let counted = map_within_next k f all left es start now new e more v d so_far rest is one in
    passes_refusal g q x (read (map_of k) d) start new (values d) passed (passes (read (map_of k) d) tt) counted.0 counted.1
map_entry_refused {T} k f g all left es start now new e more d q x (Err h) so_far rest is passed passes one =
    let whole : Reads {A = T} (read (map_of k) d) f (Err h) start new (values d) = map_refused k f f all left es start now new e more d (Err h) h so_far rest is refl one in
    passes_refusal g q x (read (map_of k) d) start new (values d) passed (passes (read (map_of k) d) whole.err) whole.grows whole.at_most
