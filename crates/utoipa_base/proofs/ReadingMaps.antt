-- A map read entry by entry: what a loop over the members has read so far, and what it comes to.
use Rattle.std.proofs.Common.{◌≡◌, ℕ, ◌+◌, ◌<◌, ◌≤◌, List, [], ◌∷◌, ◌++◌, Some, None, refl, sym, ap, ◌∙◌, subst, append_assoc, arith, Result, Ok, Err, String, Global, BTreeMap, string_bytes, string_cmp}
use Rattle.std.proofs.lemmas.List.{map-append}
use Rattle.std.specs.BTreeMap.{insert_entry}
use Rattle.std.specs.List.Sorted.{IsStrictlySortedBy}
use Rattle.std.specs.Map.{keys_of}
use Rattle.std.specs.Result.{IsErrAnd}
use Rattle.serde_json.specs.Data.{Data}
use Rattle.serde_json.specs.Find.{as_object}
use Rattle.serde_json.specs.View.{view, members_view}
use Rattle.serde_json.proofs.Views.{Entry}
use Rattle.utoipa_base.specs.Docs.{Doc, entries_of_list}
use Rattle.utoipa_base.specs.Kinds.{Kind, map_of}
use Rattle.utoipa_base.specs.Reading.{read}
use Rattle.utoipa_base.specs.Reads.{Reads}
use Rattle.utoipa_base.specs.Values.{values, members_values, entries_schema_count}
use Rattle.utoipa_base.specs.Views.{pairs_of, map_of_docs}
use Rattle.utoipa_base.specs.declared.fault.ReadFault.{ReadFault}
use Rattle.utoipa_base.proofs.ByRows.{passes_on}
use Rattle.utoipa_base.proofs.Maps.{texts, entries_read, prepend_entries, insert_last, entries_read-step, entries_read-stop, entries_read-end, map_by_entries}
use Rattle.utoipa_base.proofs.Places.{counted_more, entries_schema_count-none, schema_count-map}
use Rattle.utoipa_base.proofs.Values.{members_values-cons, object_values, entries_schema_count-last}

-- the entries before `left` have been read as `es`, and the counter has risen from `start` to `now`
pub record MapSoFar {T : Type 0} (k : Kind) (f : T → Doc) (all left : List Entry) (es : List (String Global × T)) (start now : ℕ) : Type 0 where
  pub done : List Entry
  pub split : all ≡ done ++ left
  pub names : texts es ≡ texts done
  pub read : entries_read k all ≡ prepend_entries (pairs_of f es) (entries_read k left)
  pub at_most : now + members_values (members_view left) ≤ start + members_values (members_view all)
  pub grows : start ≤ now
  pub at_least : now < 18446744073709551615 → start + entries_schema_count (entries_of_list (pairs_of f es)) ≤ now

-- before the first entry
pub map_begun : {T : Type 0} (k : Kind) (f : T → Doc) (all : List Entry) (es : List (String Global × T)) (start : ℕ) → es ≡ [] → MapSoFar k f all all es start start
map_begun k f all es start none =
    let counted : entries_schema_count (entries_of_list (pairs_of f es)) ≡ 0 = ap (λ r. entries_schema_count (entries_of_list (pairs_of f r))) none ∙ entries_schema_count-none in
    record {
      done = [];
      split = refl;
      names = ap texts none;
      read = ap (λ r. prepend_entries (pairs_of f r) (entries_read k all)) (sym none);
      at_most = omega arith;
      grows = omega arith;
      at_least = λ below. omega (arith, counted);
    }

-- the values of the entries that are left are those of the next one and of the others
pub values_left : (left : List Entry) (e : Entry) (more : List Entry) → left ≡ e ∷ more → members_values (members_view left) ≡ values (view e.1) + members_values (members_view more)
values_left left e more rest = ap (λ r. members_values (members_view r)) rest ∙ members_values-cons e more

-- one entry more, under a copy of its name
pub map_step : {T : Type 0} (k : Kind) (f : T → Doc) (all left : List Entry) (es fs : List (String Global × T)) (start now new : ℕ) (e : Entry) (more : List Entry) (name : String Global) (v : T) → MapSoFar k f all left es start now
    → left ≡ e ∷ more → IsStrictlySortedBy string_cmp (keys_of all) → string_bytes name ≡ string_bytes e.0 → fs ≡ insert_entry string_cmp es name v
    → Reads {A = T} (read k (view e.1)) f (Ok v) now new (values (view e.1)) → MapSoFar k f all more fs start new
map_step k f all left es fs start now new e more name v so_far rest ordered named put one =
    let ds = pairs_of f es in
    let whole : all ≡ so_far.done ++ e ∷ more = so_far.split ∙ ap (λ r. so_far.done ++ r) rest in
    let sorted = subst (λ r. IsStrictlySortedBy string_cmp (keys_of r)) whole ordered in
    let last : fs ≡ es ++ (name, v) ∷ [] = put ∙ insert_last es so_far.done e more name v so_far.names sorted named in
    let texts_same : texts es ++ string_bytes name ∷ [] ≡ texts so_far.done ++ string_bytes e.0 ∷ [] = ap (λ ts. ts ++ string_bytes name ∷ []) so_far.names ∙ ap (λ b. texts so_far.done ++ b ∷ []) named in
    let pairs : pairs_of f fs ≡ ds ++ (string_bytes e.0, f v) ∷ [] = ap (pairs_of f) last ∙ map-append _ es _ ∙ ap (λ b. ds ++ (b, f v) ∷ []) named in
    record {
      done = so_far.done ++ e ∷ [];
      split = whole ∙ sym (append_assoc so_far.done (e ∷ []) more);
      names = ap texts last ∙ map-append _ es _ ∙ texts_same ∙ sym (map-append _ so_far.done (e ∷ []));
      read = entries_read-step k e more ds (f v) _ (so_far.read ∙ ap (λ r. prepend_entries ds (entries_read k r)) rest) one.ok ∙ ap (λ r. prepend_entries r (entries_read k more)) (sym pairs);
      at_most = omega (arith, values_left left e more rest, one.at_most, so_far.at_most);
      grows = omega (arith, one.grows, so_far.grows);
      at_least = counted_more _ _ _ _ _ _ so_far.at_least one.grows one.at_least
          (ap (λ r. entries_schema_count (entries_of_list r)) pairs ∙ entries_schema_count-last ds (string_bytes e.0, f v));
    }

-- an entry that is refused refuses the map
pub map_refused : {T B : Type 0} (k : Kind) (f : T → Doc) (g : B → Doc) (all left : List Entry) (es : List (String Global × T)) (start now new : ℕ) (e : Entry) (more : List Entry) (d : Data) (r : Result B ReadFault) (x : ReadFault)
    → MapSoFar k f all left es start now → left ≡ e ∷ more → Some (members_view all) ≡ as_object d → IsErrAnd r (λ h. h ≡ x) → Reads {A = T} (read k (view e.1)) f (Err x) now new (values (view e.1))
    → Reads (read (map_of k) d) g r start new (values d)
map_refused {B = B} k f g all left es start now new e more d (Ok v) x so_far rest is passed one = absurd passed
map_refused {B = B} k f g all left es start now new e more d (Err h) x so_far rest is passed one =
    record {
      ok = tt;
      err = passes_on {T = B} (Err h) x _ _ passed one.err
          (λ none. map_by_entries k d all None is (entries_read-stop k e more (pairs_of f es) _ (so_far.read ∙ ap (λ r. prepend_entries (pairs_of f es) (entries_read k r)) rest) none));
      grows = omega (arith, one.grows, so_far.grows);
      at_most = omega (arith, values_left left e more rest, object_values d (members_view all) is, one.at_most, so_far.at_most);
      at_least = tt;
    }

-- the counter before an entry whose name could not be copied
pub map_within : {T : Type 0} (k : Kind) (f : T → Doc) (all left : List Entry) (es : List (String Global × T)) (start now : ℕ) (d : Data) → MapSoFar k f all left es start now → Some (members_view all) ≡ as_object d → (start ≤ now) × (now ≤ start + values d)
map_within k f all left es start now d so_far is = (so_far.grows, omega (arith, object_values d (members_view all) is, so_far.at_most))

-- the counter after an entry that could not be kept
pub map_within_next : {T : Type 0} (k : Kind) (f : T → Doc) (all left : List Entry) (es : List (String Global × T)) (start now new : ℕ) (e : Entry) (more : List Entry) (v : T) (d : Data) → MapSoFar k f all left es start now
    → left ≡ e ∷ more → Some (members_view all) ≡ as_object d → Reads {A = T} (read k (view e.1)) f (Ok v) now new (values (view e.1)) → (start ≤ new) × (new ≤ start + values d)
map_within_next k f all left es start now new e more v d so_far rest is one =
    (omega (arith, one.grows, so_far.grows), omega (arith, values_left left e more rest, object_values d (members_view all) is, one.at_most, so_far.at_most))

-- after the last entry
pub map_read : {T : Type 0} (k : Kind) (f : T → Doc) (all left : List Entry) (m : BTreeMap (String Global) T) (start now : ℕ) (d : Data) → MapSoFar k f all left m.entries start now → left ≡ [] → Some (members_view all) ≡ as_object d
    → Reads {A = BTreeMap (String Global) T} (read (map_of k) d) (map_of_docs f) (Ok m) start now (values d)
map_read k f all left m start now d so_far none is =
    record {
      ok = map_by_entries k d all _ is (entries_read-end k (pairs_of f m.entries) _ (so_far.read ∙ ap (λ r. prepend_entries (pairs_of f m.entries) (entries_read k r)) none));
      err = tt;
      grows = so_far.grows;
      at_most = omega (arith, so_far.at_most, object_values d (members_view all) is);
      at_least = λ below. omega (arith, schema_count-map (entries_of_list (pairs_of f m.entries)), so_far.at_least below);
    }
