-- A list read item by item: what a loop over the items has read so far, and what it comes to.
use Rattle.std.proofs.Common.{◌≡◌, ℕ, ◌+◌, ◌<◌, ◌≤◌, List, [], ◌∷◌, ◌++◌, length, get_or, drop, map, Some, None, sym, ap, ◌∙◌, arith, Result, Ok, Err, Vec, Global}
use Rattle.std.proofs.lemmas.List.{map-append}
use Rattle.std.specs.Result.{IsErrAnd}
use Rattle.serde_json.specs.Data.{Data}
use Rattle.serde_json.specs.Find.{as_array}
use Rattle.serde_json.specs.View.{view, items_view}
use Rattle.serde_json.specs.declared.value.Value.{Value}
use Rattle.utoipa_base.specs.Docs.{Doc, docs_of}
use Rattle.utoipa_base.specs.Kinds.{Kind, list_of}
use Rattle.utoipa_base.specs.Reading.{read}
use Rattle.utoipa_base.specs.Reads.{Reads}
use Rattle.utoipa_base.specs.Values.{values, items_values, schema_count, docs_schema_count}
use Rattle.utoipa_base.specs.Views.{list_of_docs}
use Rattle.utoipa_base.specs.declared.fault.ReadFault.{ReadFault}
use Rattle.utoipa_base.proofs.ByKind.{values_read, prepend, values_read-step, values_read-stop, values_read-end, drop_item, list_by_items}
use Rattle.utoipa_base.proofs.ByRows.{passes_on}
use Rattle.utoipa_base.proofs.Places.{counted_more, docs_schema_count-none, schema_count-list}
use Rattle.utoipa_base.proofs.Values.{items_values-drop, array_values, docs_schema_count-last}

-- the items before `i` have been read as `ys`, and the counter has risen from `start` to `now`
pub record ListSoFar {T : Type 0} (k : Kind) (f : T → Doc) (xs : List Value) (i : ℕ) (ys : List T) (start now : ℕ) : Type 0 where
  pub read : values_read k xs ≡ prepend (map f ys) (values_read k (drop i xs))
  pub at_most : now + items_values (items_view (drop i xs)) ≤ start + items_values (items_view xs)
  pub grows : start ≤ now
  pub at_least : now < 18446744073709551615 → start + docs_schema_count (docs_of (map f ys)) ≤ now

-- before the first item
pub list_begun : {T : Type 0} (k : Kind) (f : T → Doc) (xs : List Value) (ys : List T) (start : ℕ) → ys ≡ [] → ListSoFar k f xs 0 ys start start
list_begun k f xs ys start none =
    let counted : docs_schema_count (docs_of (map f ys)) ≡ 0 = ap (λ zs. docs_schema_count (docs_of (map f zs))) none ∙ docs_schema_count-none in
    record {
      read = ap (λ zs. prepend (map f zs) (values_read k xs)) (sym none);
      at_most = omega arith;
      grows = omega arith;
      at_least = λ below. omega (arith, counted);
    }

-- one item more
pub list_step : {T : Type 0} (k : Kind) (f : T → Doc) (xs : List Value) (i : ℕ) (ys zs : List T) (start now new : ℕ) (x : Value) (v : T) → ListSoFar k f xs i ys start now → i < length xs → x ≡ get_or xs i x
    → Reads {A = T} (read k (view x)) f (Ok v) now new (values (view x)) → zs ≡ ys ++ v ∷ [] → ListSoFar k f xs (i + 1) zs start new
list_step k f xs i ys zs start now new x v so_far within is one more =
    let split = drop_item xs i x within is in
    let mapped : map f zs ≡ map f ys ++ f v ∷ [] = ap (map f) more ∙ map-append f ys (v ∷ []) in
    let counted : docs_schema_count (docs_of (map f zs)) ≡ docs_schema_count (docs_of (map f ys)) + schema_count (f v) = ap (λ es. docs_schema_count (docs_of es)) mapped ∙ docs_schema_count-last (map f ys) (f v) in
    record {
      read = values_read-step k x (drop (i + 1) xs) (map f ys) (f v) _ (so_far.read ∙ ap (λ r. prepend (map f ys) (values_read k r)) split) one.ok
          ∙ ap (λ es. prepend es (values_read k (drop (i + 1) xs))) (sym mapped);
      at_most = omega (arith, items_values-drop xs i x within is, one.at_most, so_far.at_most);
      grows = omega (arith, one.grows, so_far.grows);
      at_least = counted_more _ _ _ _ _ _ so_far.at_least one.grows one.at_least counted;
    }

-- an item that is refused refuses the list
pub list_refused : {T B : Type 0} (k : Kind) (f : T → Doc) (g : B → Doc) (xs : List Value) (i : ℕ) (ys : List T) (start now new : ℕ) (x : Value) (d : Data) (r : Result B ReadFault) (e : ReadFault) → ListSoFar k f xs i ys start now
    → i < length xs → x ≡ get_or xs i x → Some (items_view xs) ≡ as_array d → IsErrAnd r (λ h. h ≡ e) → Reads {A = T} (read k (view x)) f (Err e) now new (values (view x))
    → Reads (read (list_of k) d) g r start new (values d)
list_refused {B = B} k f g xs i ys start now new x d (Ok v) e so_far within is all passed one = absurd passed
list_refused {B = B} k f g xs i ys start now new x d (Err h) e so_far within is all passed one =
    let split = drop_item xs i x within is in
    record {
      ok = tt;
      err = passes_on {T = B} (Err h) e _ _ passed one.err
          (λ none. list_by_items k d xs None all (values_read-stop k x (drop (i + 1) xs) (map f ys) _ (so_far.read ∙ ap (λ r. prepend (map f ys) (values_read k r)) split) none));
      grows = omega (arith, one.grows, so_far.grows);
      at_most = omega (arith, items_values-drop xs i x within is, array_values d (items_view xs) all, one.at_most, so_far.at_most);
      at_least = tt;
    }

-- the counter after one item more, which could not be kept
pub list_within : {T : Type 0} (k : Kind) (f : T → Doc) (xs : List Value) (i : ℕ) (ys : List T) (start now new : ℕ) (x : Value) (v : T) (d : Data) → ListSoFar k f xs i ys start now → i < length xs → x ≡ get_or xs i x
    → Some (items_view xs) ≡ as_array d → Reads {A = T} (read k (view x)) f (Ok v) now new (values (view x)) → (start ≤ new) × (new ≤ start + values d)
list_within k f xs i ys start now new x v d so_far within is all one =
    (omega (arith, one.grows, so_far.grows), omega (arith, items_values-drop xs i x within is, array_values d (items_view xs) all, one.at_most, so_far.at_most))

-- after the last item
pub list_read : {T : Type 0} (k : Kind) (f : T → Doc) (xs : List Value) (i : ℕ) (v : Vec T Global) (start now : ℕ) (d : Data) → ListSoFar k f xs i v.items start now → drop i xs ≡ [] → Some (items_view xs) ≡ as_array d
    → Reads {A = Vec T Global} (read (list_of k) d) (list_of_docs f) (Ok v) start now (values d)
list_read k f xs i v start now d so_far done all =
    record {
      ok = list_by_items k d xs _ all (values_read-end k (map f v.items) _ (so_far.read ∙ ap (λ r. prepend (map f v.items) (values_read k r)) done));
      err = tt;
      grows = so_far.grows;
      at_most = omega (arith, so_far.at_most, array_values d (items_view xs) all);
      at_least = λ below. omega (arith, schema_count-list (docs_of (map f v.items)), so_far.at_least below);
    }
