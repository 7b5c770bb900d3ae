-- What readers that call each other come to: a member read by its row, a table whose schemas were read first, a refusal.
use Rattle.std.proofs.Common.{◌≡◌, ◌∙◌, ◌≤◌, ◌<◌, ◌+◌, ℕ, List, ◌∷◌, length, get_or, true, false, Option, Some, None, option_map, String, Global, Bor, sym, ap, subst, arith, Result, Ok, Err, IfOk, IfErr}
use Rattle.std.specs.Result.{IsErrAnd}
use Rattle.serde_json.specs.Data.{Data}
use Rattle.serde_json.specs.Find.{get, as_array, as_object}
use Rattle.serde_json.specs.View.{view, items_view, members_view}
use Rattle.serde_json.specs.declared.value.Value.{Value}
use Rattle.serde_json.proofs.Views.{Entry}
use Rattle.utoipa_base.specs.Docs.{Doc, some_doc}
use Rattle.utoipa_base.specs.Faults.{Refuses, fitting}
use Rattle.utoipa_base.specs.Fields.{field}
use Rattle.utoipa_base.specs.Kinds.{Kind, required, optional, defaulted}
use Rattle.utoipa_base.specs.Reading.{read, is_null}
use Rattle.utoipa_base.specs.Reads.{Reads}
use Rattle.utoipa_base.specs.Tables.{row}
use Rattle.utoipa_base.specs.Values.{values, values_at, members_values, schema_count}
use Rattle.utoipa_base.specs.Views.{option_of}
use Rattle.utoipa_base.specs.declared.fault.ReadFault.{ReadFault}
use Rattle.utoipa_base.specs.declared.fault.ReadFault.TheVariants.{Memory, Fraction, Missing, Kind as no_kind, Word, Alternative, Text}
use Rattle.utoipa_base.proofs.ByRows.{passes_on}
use Rattle.utoipa_base.proofs.Members.{member_at, count_at, one_fewer, field_required, field_defaulted, field_optional, field_null, field_absent}
use Rattle.utoipa_base.proofs.Places.{schema_count-none, schema_count-some}
use Rattle.utoipa_base.proofs.ReadingLists.{ListSoFar}
use Rattle.utoipa_base.proofs.ReadingMaps.{MapSoFar}
use Rattle.utoipa_base.proofs.Tried.{fits_neither}
use Rattle.utoipa_base.proofs.Values.{items_values-drop, array_values, members_values-cons, object_values}

-- ---- refusals

-- what is refused with nothing read
pub refused_unread : {A : Type 0} (f : A → Doc) (o : Option Doc) (x : ReadFault) (n most : ℕ) → Refuses o x → Reads {A = A} o f (Err x) n n most
refused_unread f o x n most refusal = record { ok = tt; err = refusal; grows = omega arith; at_most = omega arith; at_least = tt }

-- a refusal that `?` passes on
pub passes_refusal : {T : Type 0} (g : T → Doc) (r : Result T ReadFault) (e : ReadFault) (p : Option Doc) (old new most : ℕ) → IsErrAnd r (λ x. x ≡ e) → Refuses p e → old ≤ new → new ≤ old + most → Reads p g r old new most
passes_refusal g (Ok v) e p old new most is refusal grows at_most = absurd is
passes_refusal {T} g (Err x) e p old new most is refusal grows at_most =
    record { ok = tt; err = passes_on {T = T} (Err x) e p p is refusal (λ h. h); grows = grows; at_most = at_most; at_least = tt }

-- memory that ran out while an alternative was tried
pub passes_memory : {A T : Type 0} (g : T → Doc) (r : Result A ReadFault) (q : Result T ReadFault) (e : ReadFault) (p : Option Doc) (old new most : ℕ) → IsErrAnd q (λ x. x ≡ e) → fitting r ≡ Err e → old ≤ new → new ≤ old + most
    → Reads p g q old new most
passes_memory g r q e p old new most is tried grows at_most =
    let unknown : Refuses p e = subst (λ x. Refuses p x) (sym (fits_neither r e tried)) tt in
    passes_refusal g q e p old new most is unknown grows at_most

pub memory_refuses : {A T : Type 0} (q : Result T ReadFault) (r : Result A ReadFault) (e : ReadFault) (p : Option Doc) → IsErrAnd q (λ x. x ≡ e) → fitting r ≡ Err e → IfErr q (Refuses p)
memory_refuses {T = T} q r e p is tried = passes_on {T = T} q e p p is (subst (λ x. Refuses p x) (sym (fits_neither r e tried)) tt) (λ h. h)

-- ---- more may be read than is

pub reads_within : {A : Type 0} (f : A → Doc) (o : Option Doc) (r : Result A ReadFault) (old new m n : ℕ) → Reads o f r old new m → m ≤ n → Reads o f r old new n
reads_within f o r old new m n one within = record { ok = one.ok; err = one.err; grows = one.grows; at_most = omega (arith, one.at_most, within); at_least = one.at_least }

-- ---- alternatives

-- a reading that came to a value
pub reads_value : {A : Type 0} (f : A → Doc) (o : Option Doc) (r : Result A ReadFault) (v : A) (old new most : ℕ) → Reads o f r old new most → r ≡ Ok v → Reads {A = A} o f (Ok v) old new most
reads_value f o r v old new most reads is = subst (λ x. Reads o f x old new most) is reads

pub value_is : {A : Type 0} (P : A → Type 0) (r : Result A ReadFault) (v : A) → IfOk r P → r ≡ Ok v → P v
value_is P (Ok w) v h is = subst (λ x. IfOk x P) is h
value_is P (Err x) v h is = cc

-- an alternative that does not fit has no document
pub refused_if_unfit : {A : Type 0} (o : Option Doc) (r : Result A ReadFault) → IfErr r (Refuses o) → fitting r ≡ Ok None → o ≡ None
refused_if_unfit o (Ok w) refusal e = cc
refused_if_unfit o (Err Memory) refusal e = cc
refused_if_unfit o (Err Fraction) refusal e = absurd refusal
refused_if_unfit o (Err (Missing s)) refusal e = refusal
refused_if_unfit o (Err (no_kind s)) refusal e = refusal
refused_if_unfit o (Err (Word s)) refusal e = refusal
refused_if_unfit o (Err Alternative) refusal e = refusal
refused_if_unfit o (Err Text) refusal e = absurd refusal

-- ---- members

-- a member has fewer values than its object
pub member_fewer : (name : List ℕ) (d : Data) (o : Option (Bor Value)) (v : Bor Value) → option_map (λ w. view w.now) o ≡ get name d → o ≡ Some v → values (view v.now) + 1 ≤ values d
member_fewer name d o v found is = omega (arith, one_fewer name d (view v.now) (member_at name d o v found is))

-- a required member is read as what stands at its name
pub required_read : {A : Type 0} (f : A → Doc) (name : List ℕ) (k : Kind) (d : Data) (o : Option (Bor Value)) (v : Bor Value) (r : Result A ReadFault) (old new : ℕ) → option_map (λ w. view w.now) o ≡ get name d → o ≡ Some v
    → Reads (read k (view v.now)) f r old new (values (view v.now)) → Reads (field (row name required k) d) f r old new (values_at name d)
required_read f name k d o v r old new found is one =
    let at = member_at name d o v found is in
    rw (field_required name k d (view v.now) at, count_at name d (view v.now) at) one

-- so is a defaulted one
pub defaulted_read : {A : Type 0} (f : A → Doc) (name : List ℕ) (k : Kind) (d : Data) (o : Option (Bor Value)) (v : Bor Value) (r : Result A ReadFault) (old new : ℕ) → option_map (λ w. view w.now) o ≡ get name d → o ≡ Some v
    → Reads (read k (view v.now)) f r old new (values (view v.now)) → Reads (field (row name defaulted k) d) f r old new (values_at name d)
defaulted_read f name k d o v r old new found is one =
    let at = member_at name d o v found is in
    rw (field_defaulted name k d (view v.now) at, count_at name d (view v.now) at) one

-- an optional member that is not null
pub optional_read : {A B : Type 0} (f : A → Doc) (g : B → Doc) (name : List ℕ) (k : Kind) (d : Data) (o : Option (Bor Value)) (v : Bor Value) (x : A) (y : B) (old new : ℕ) → option_map (λ w. view w.now) o ≡ get name d → o ≡ Some v → is_null (view v.now) ≡ false
    → g y ≡ f x → Reads {A = A} (read k (view v.now)) f (Ok x) old new (values (view v.now)) → Reads {A = Option B} (field (row name optional k) d) (option_of g) (Ok (Some y)) old new (values_at name d)
optional_read f g name k d o v x y old new found is full held one =
    let at = member_at name d o v found is in
    record {
      ok = field_optional name k d (view v.now) at full ∙ ap (option_map some_doc) one.ok ∙ ap (λ z. Some (some_doc z)) (sym held);
      err = tt;
      grows = one.grows;
      at_most = omega (arith, one.at_most, count_at name d (view v.now) at);
      at_least = λ below. omega (arith, one.at_least below, ap schema_count held, schema_count-some (g y));
    }

-- one that is refused
pub optional_refused : {A B : Type 0} (f : A → Doc) (g : B → Doc) (name : List ℕ) (k : Kind) (d : Data) (o : Option (Bor Value)) (v : Bor Value) (r : Result (Option B) ReadFault) (e : ReadFault) (old new : ℕ) → option_map (λ w. view w.now) o ≡ get name d
    → o ≡ Some v → is_null (view v.now) ≡ false → IsErrAnd r (λ x. x ≡ e) → Reads {A = A} (read k (view v.now)) f (Err e) old new (values (view v.now)) → Reads (field (row name optional k) d) (option_of g) r old new (values_at name d)
optional_refused f g name k d o v (Ok b) e old new found is full passed one = absurd passed
optional_refused {A} {B} f g name k d o v (Err x) e old new found is full passed one =
    let at = member_at name d o v found is in
    record {
      ok = tt;
      err = passes_on {T = Option B} (Err x) e _ _ passed one.err (λ h. field_optional name k d (view v.now) at full ∙ ap (option_map some_doc) h);
      grows = one.grows;
      at_most = omega (arith, one.at_most, count_at name d (view v.now) at);
      at_least = tt;
    }

-- one that is null
pub optional_null : {A : Type 0} (f : A → Doc) (name : List ℕ) (k : Kind) (d : Data) (o : Option (Bor Value)) (v : Bor Value) (n : ℕ) → option_map (λ w. view w.now) o ≡ get name d → o ≡ Some v → is_null (view v.now) ≡ true
    → Reads {A = Option A} (field (row name optional k) d) (option_of f) (Ok None) n n (values_at name d)
optional_null f name k d o v n found is none =
    record {
      ok = field_null name k d (view v.now) (member_at name d o v found is) none;
      err = tt;
      grows = omega arith;
      at_most = omega arith;
      at_least = λ below. omega (arith, schema_count-none);
    }

-- and one that is absent
pub optional_absent : {A : Type 0} (f : A → Doc) (name : List ℕ) (k : Kind) (d : Data) (n : ℕ) → get name d ≡ None → Reads {A = Option A} (field (row name optional k) d) (option_of f) (Ok None) n n (values_at name d)
optional_absent f name k d n gone =
    record { ok = field_absent name optional k d gone; err = tt; grows = omega arith; at_most = omega arith; at_least = λ below. omega (arith, schema_count-none) }

-- ---- tables

-- a table with one member that holds schemas, which was read before the others
pub table_read : {A B : Type 0} (f : A → Doc) (g : B → Doc) (v : A) (r : Result B ReadFault) (o p : Option Doc) (old new most : ℕ) → Reads {A = A} o f (Ok v) old new most → IfOk r (λ b. o ≡ Some (f v) → p ≡ Some (g b)) → IfErr r (Refuses p)
    → IfOk r (λ b. schema_count (g b) ≡ schema_count (f v)) → Reads p g r old new most
table_read f g v (Ok b) o p old new most one fits refusal counts =
    record { ok = fits one.ok; err = tt; grows = one.grows; at_most = one.at_most; at_least = λ below. omega (arith, one.at_least below, counts) }
table_read f g v (Err x) o p old new most one fits refusal counts =
    record { ok = tt; err = refusal; grows = one.grows; at_most = one.at_most; at_least = tt }

-- ---- loops

-- an item has fewer values than its list
pub item_fewer : {T : Type 0} (k : Kind) (f : T → Doc) (xs : List Value) (i : ℕ) (ys : List T) (start now : ℕ) (x : Value) (d : Data) → ListSoFar k f xs i ys start now → i < length xs → x ≡ get_or xs i x → Some (items_view xs) ≡ as_array d
    → values (view x) + 1 ≤ values d
item_fewer k f xs i ys start now x d so_far within is all =
    omega (arith, items_values-drop xs i x within is, array_values d (items_view xs) all, so_far.at_most, so_far.grows)

-- and an entry has fewer than its map
pub entry_fewer : {T : Type 0} (k : Kind) (f : T → Doc) (all left : List Entry) (es : List (String Global × T)) (start now : ℕ) (e : Entry) (more : List Entry) (d : Data) → MapSoFar k f all left es start now → left ≡ e ∷ more
    → Some (members_view all) ≡ as_object d → values (view e.1) + 1 ≤ values d
entry_fewer k f all left es start now e more d so_far rest is =
    let step : members_values (members_view left) ≡ values (view e.1) + members_values (members_view more) = ap (λ r. members_values (members_view r)) rest ∙ members_values-cons e more in
    omega (arith, step, object_values d (members_view all) is, so_far.at_most, so_far.grows)
