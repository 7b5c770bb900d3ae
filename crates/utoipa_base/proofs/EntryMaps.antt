-- Objects whose members are entries of a map, beside their extensions: what a loop over them has read, written or printed so far.
use Rattle.std.proofs.Common.{◌≡◌, ℕ, ◌+◌, ◌<◌, ◌≤◌, List, [], ◌∷◌, ◌++◌, Bool, true, false, cond, Option, Some, None, option_map, option_and_then, refl, sym, ap, ◌∙◌, subst, append_assoc, append-nil, arith, Result, Ok, Err, IsErrAnd, String, Global, BTreeMap, string_bytes, string_cmp, Less}
use Rattle.std.proofs.lemmas.List.{map-append}
use Rattle.std.specs.BTreeMap.{insert_entry}
use Rattle.std.specs.List.{AllByRecursion}
use Rattle.std.specs.List.Sorted.{IsStrictlySortedBy}
use Rattle.std.specs.Map.{keys_of}
use Rattle.serde_json.specs.Data.{Data, null, boolean, number, string, array, object, Members, put}
use Rattle.serde_json.specs.Find.{as_object}
use Rattle.serde_json.specs.View.{view, members_view}
use Rattle.serde_json.proofs.Views.{Entry}
use Rattle.utoipa_base.specs.Docs.{Doc, entries_doc, Entries, no_entries, entries_of_list}
use Rattle.utoipa_base.specs.Extensions.{is_extension, extensions_of, extensions_at, extensions_view, members_or_none}
use Rattle.utoipa_base.specs.Kinds.{Kind, entries_of}
use Rattle.utoipa_base.specs.Reading.{reader, parts, read, read_entries, both_entries, entry_parts}
use Rattle.utoipa_base.specs.Reads.{Reads}
use Rattle.utoipa_base.specs.Values.{values, members_values, schema_count, entries_schema_count}
use Rattle.utoipa_base.specs.Views.{pairs_of, entries_beside}
use Rattle.utoipa_base.specs.Writing.{write, write_entries, merge_members}
use Rattle.utoipa_base.specs.declared.extensions.Extensions.{Extensions}
use Rattle.utoipa_base.specs.declared.fault.ReadFault.{ReadFault}
use Rattle.utoipa_base.proofs.ByRows.{passes_on}
use Rattle.utoipa_base.proofs.Maps.{texts, insert_last, members_by, write_entries-entries_of_list, prepend_entries, prepend_entries-none, prepend_entries-some, prepend_entries-append}
use Rattle.utoipa_base.proofs.Places.{counted_more, entries_schema_count-none}
use Rattle.utoipa_base.proofs.ReadingMaps.{values_left}
use Rattle.utoipa_base.proofs.Values.{object_values, entries_schema_count-last}

-- ---- the definitions

pub schema_count-entries : (es : Entries) (e : Option Members) → schema_count (entries_doc es e) ≡ entries_schema_count es
unfolding schema_count
schema_count-entries es e = refl

-- the members that are no extensions, read
abbrev kept_read : Kind → List Entry → Option Entries
kept_read k es = read_entries k (entry_parts (parts (members_view es)))

pub read-entries : (k : Kind) (d : Data) → read (entries_of k) d ≡ option_and_then (λ ms. option_map (λ es. entries_doc es (extensions_of true ms)) (read_entries k (entry_parts (parts ms)))) (as_object d)
unfolding reader
read-entries k null = refl
read-entries k (boolean b) = refl
read-entries k (number n) = refl
read-entries k (string s) = refl
read-entries k (array ds) = refl
read-entries k (object ms) = refl

write-entries : (es : Entries) (e : Option Members) → write (entries_doc es e) ≡ object (merge_members (write_entries es) (members_or_none e))
unfolding write
write-entries es e = refl

-- ---- the members that are no extensions

abbrev kept_first : Bool → Entry → List Entry → List Entry
kept_first b e es = cond b es (e ∷ es)

abbrev kept : List Entry → List Entry
kept [] = []
kept (e ∷ es) = kept_first (is_extension (string_bytes e.0)) e (kept es)

kept_append_at : (b : Bool) (e : Entry) (es fs all : List Entry) → all ≡ es ++ fs → kept_first b e all ≡ kept_first b e es ++ fs
kept_append_at true e es fs all h = h
kept_append_at false e es fs all h = ap (λ r. e ∷ r) h

kept_append : (es fs : List Entry) → kept (es ++ fs) ≡ kept es ++ kept fs
kept_append [] fs = refl
kept_append (e ∷ es) fs = kept_append_at (is_extension (string_bytes e.0)) e (kept es) (kept fs) (kept (es ++ fs)) (kept_append es fs)

kept_one : (b : Bool) (e : Entry) → is_extension (string_bytes e.0) ≡ b → kept (e ∷ []) ≡ kept_first b e []
kept_one b e is = ap (λ c. kept_first c e []) is

kept_all_at : (b : Bool) (P : String Global → Type 0) (e : Entry) (es : List Entry) → P e.0 → AllByRecursion P (keys_of es) → AllByRecursion P (keys_of (kept_first b e es))
kept_all_at true P e es first h = h
kept_all_at false P e es first h = (first, h)

kept_all : (P : String Global → Type 0) (es : List Entry) → AllByRecursion P (keys_of es) → AllByRecursion P (keys_of (kept es))
kept_all P [] h = tt
kept_all P (e ∷ es) h = kept_all_at (is_extension (string_bytes e.0)) P e (kept es) h.0 (kept_all P es h.1)

kept_sorted_at : (b : Bool) (e : Entry) (es : List Entry) → AllByRecursion (λ y. string_cmp e.0 y ≡ Less) (keys_of es) → IsStrictlySortedBy string_cmp (keys_of es) → IsStrictlySortedBy string_cmp (keys_of (kept_first b e es))
unfolding IsStrictlySortedBy
kept_sorted_at true e es above sorted = sorted
kept_sorted_at false e es above sorted = (above, sorted)

kept_sorted : (es : List Entry) → IsStrictlySortedBy string_cmp (keys_of es) → IsStrictlySortedBy string_cmp (keys_of (kept es))
unfolding IsStrictlySortedBy
kept_sorted [] h = tt
kept_sorted (e ∷ es) h = kept_sorted_at (is_extension (string_bytes e.0)) e (kept es) (kept_all (λ y. string_cmp e.0 y ≡ Less) es h.0) (kept_sorted es h.1)

-- ---- reading

kept_read_skip : (k : Kind) (e : Entry) (es : List Entry) → is_extension (string_bytes e.0) ≡ true → kept_read k (e ∷ es) ≡ kept_read k es
unfolding parts
kept_read_skip k e es is = rw (is) refl

kept_read_more : (k : Kind) (e : Entry) (es : List Entry) → is_extension (string_bytes e.0) ≡ false → kept_read k (e ∷ es) ≡ both_entries (string_bytes e.0) (read k (view e.1)) (kept_read k es)
unfolding parts
kept_read_more k e es is = rw (is) refl

kept_read_none : (k : Kind) → kept_read k [] ≡ Some no_entries
unfolding parts
kept_read_none k = refl

-- the members before `left` have been read, those that are no extensions as `es`, and the counter has risen from `start` to `now`
pub record EntriesSoFar {T : Type 0} (k : Kind) (f : T → Doc) (all left : List Entry) (es : List (String Global × T)) (start now : ℕ) : Type 0 where
  pub done : List Entry
  pub split : all ≡ done ++ left
  pub names : texts es ≡ texts (kept done)
  pub read : kept_read k all ≡ prepend_entries (pairs_of f es) (kept_read k left)
  pub at_most : now + members_values (members_view left) ≤ start + members_values (members_view all)
  pub grows : start ≤ now
  pub at_least : now < 18446744073709551615 → start + entries_schema_count (entries_of_list (pairs_of f es)) ≤ now

-- before the first member
pub entries_begin : {T : Type 0} (k : Kind) (f : T → Doc) (all : List Entry) (es : List (String Global × T)) (start : ℕ) → es ≡ [] → EntriesSoFar k f all all es start start
entries_begin k f all es start none =
    let counted : entries_schema_count (entries_of_list (pairs_of f es)) ≡ 0 = ap (λ r. entries_schema_count (entries_of_list (pairs_of f r))) none ∙ entries_schema_count-none in
    record {
      done = [];
      split = refl;
      names = ap texts none;
      read = ap (λ r. prepend_entries (pairs_of f r) (kept_read k all)) (sym none);
      at_most = omega arith;
      grows = omega arith;
      at_least = λ below. omega (arith, counted);
    }

-- an extension is passed over
pub entries_skip : {T : Type 0} (k : Kind) (f : T → Doc) (all left : List Entry) (es : List (String Global × T)) (start now : ℕ) (e : Entry) (more : List Entry) → EntriesSoFar k f all left es start now
    → left ≡ e ∷ more → is_extension (string_bytes e.0) ≡ true → EntriesSoFar k f all more es start now
entries_skip k f all left es start now e more so_far rest is =
    record {
      done = so_far.done ++ e ∷ [];
      split = so_far.split ∙ ap (λ r. so_far.done ++ r) rest ∙ sym (append_assoc so_far.done (e ∷ []) more);
      names = so_far.names ∙ ap texts (sym (kept_append so_far.done (e ∷ []) ∙ ap (λ r. kept so_far.done ++ r) (kept_one true e is) ∙ append-nil (kept so_far.done)));
      read = so_far.read ∙ ap (λ r. prepend_entries (pairs_of f es) (kept_read k r)) rest ∙ ap (prepend_entries (pairs_of f es)) (kept_read_skip k e more is);
      at_most = omega (arith, values_left left e more rest, so_far.at_most);
      grows = so_far.grows;
      at_least = so_far.at_least;
    }

-- one entry more, under a copy of its name
pub entries_more : {T : Type 0} (k : Kind) (f : T → Doc) (all left : List Entry) (es fs : List (String Global × T)) (start now new : ℕ) (e : Entry) (more : List Entry) (name : String Global) (v : T) → EntriesSoFar k f all left es start now
    → left ≡ e ∷ more → is_extension (string_bytes e.0) ≡ false → IsStrictlySortedBy string_cmp (keys_of all) → string_bytes name ≡ string_bytes e.0 → fs ≡ insert_entry string_cmp es name v
    → Reads {A = T} (read k (view e.1)) f (Ok v) now new (values (view e.1)) → EntriesSoFar k f all more fs start new
entries_more k f all left es fs start now new e more name v so_far rest is ordered named put one =
    let ds = pairs_of f es in
    let whole : all ≡ so_far.done ++ e ∷ more = so_far.split ∙ ap (λ r. so_far.done ++ r) rest in
    let parted : kept all ≡ kept so_far.done ++ e ∷ kept more = ap kept whole ∙ kept_append so_far.done (e ∷ more) ∙ ap (λ b. kept so_far.done ++ kept_first b e (kept more)) is in
    let sorted = subst (λ r. IsStrictlySortedBy string_cmp (keys_of r)) parted (kept_sorted all ordered) in
    let last : fs ≡ es ++ (name, v) ∷ [] = put ∙ insert_last es (kept so_far.done) e (kept more) name v so_far.names sorted named in
    let pairs : pairs_of f fs ≡ ds ++ (string_bytes e.0, f v) ∷ [] = ap (pairs_of f) last ∙ map-append _ es _ ∙ ap (λ b. ds ++ (b, f v) ∷ []) named in
    let keeps : kept (so_far.done ++ e ∷ []) ≡ kept so_far.done ++ e ∷ [] = kept_append so_far.done (e ∷ []) ∙ ap (λ r. kept so_far.done ++ r) (kept_one false e is) in
    record {
      done = so_far.done ++ e ∷ [];
      split = whole ∙ sym (append_assoc so_far.done (e ∷ []) more);
      names = ap texts last ∙ map-append _ es _ ∙ ap (λ ts. ts ++ string_bytes name ∷ []) so_far.names ∙ ap (λ b. texts (kept so_far.done) ++ b ∷ []) named ∙ sym (map-append _ (kept so_far.done) (e ∷ [])) ∙ ap texts (sym keeps);
      read = so_far.read ∙ ap (λ r. prepend_entries ds (kept_read k r)) rest
          ∙ ap (prepend_entries ds) (kept_read_more k e more is ∙ ap (λ r. both_entries (string_bytes e.0) r (kept_read k more)) one.ok)
          ∙ sym (prepend_entries-append ds (string_bytes e.0, f v) (kept_read k more)) ∙ ap (λ r. prepend_entries r (kept_read k more)) (sym pairs);
      at_most = omega (arith, values_left left e more rest, one.at_most, so_far.at_most);
      grows = omega (arith, one.grows, so_far.grows);
      at_least = counted_more _ _ _ _ _ _ so_far.at_least one.grows one.at_least
          (ap (λ r. entries_schema_count (entries_of_list r)) pairs ∙ entries_schema_count-last ds (string_bytes e.0, f v));
    }

-- a tree that is an object, with its entries read
entries_by : (k : Kind) (d : Data) (es : List Entry) (o : Option Entries) → Some (members_view es) ≡ as_object d → kept_read k es ≡ o
    → read (entries_of k) d ≡ option_map (λ fs. entries_doc fs (extensions_of true (members_view es))) o
entries_by k d es o is read_as =
    read-entries k d ∙ ap (option_and_then (λ ms. option_map (λ fs. entries_doc fs (extensions_of true ms)) (read_entries k (entry_parts (parts ms))))) (sym is)
    ∙ ap (option_map (λ fs. entries_doc fs (extensions_of true (members_view es)))) read_as

-- an entry that is refused refuses the object
pub entries_refused : {T B : Type 0} (k : Kind) (f : T → Doc) (g : B → Doc) (all left : List Entry) (es : List (String Global × T)) (start now new : ℕ) (e : Entry) (more : List Entry) (d : Data) (r : Result B ReadFault) (x : ReadFault)
    → EntriesSoFar k f all left es start now → left ≡ e ∷ more → is_extension (string_bytes e.0) ≡ false → Some (members_view all) ≡ as_object d → IsErrAnd r (λ h. h ≡ x) → Reads {A = T} (read k (view e.1)) f (Err x) now new (values (view e.1))
    → Reads (read (entries_of k) d) g r start new (values d)
entries_refused {B = B} k f g all left es start now new e more d (Ok v) x so_far rest kept is passed one = absurd passed
entries_refused {B = B} k f g all left es start now new e more d (Err h) x so_far rest keeps is passed one =
    record {
      ok = tt;
      err = passes_on {T = B} (Err h) x _ _ passed one.err
          (λ none. entries_by k d all None is
          (so_far.read ∙ ap (λ r. prepend_entries (pairs_of f es) (kept_read k r)) rest
          ∙ ap (prepend_entries (pairs_of f es)) (kept_read_more k e more keeps ∙ ap (λ r. both_entries (string_bytes e.0) r (kept_read k more)) none) ∙ prepend_entries-none (pairs_of f es)));
      grows = omega (arith, one.grows, so_far.grows);
      at_most = omega (arith, values_left left e more rest, object_values d (members_view all) is, one.at_most, so_far.at_most);
      at_least = tt;
    }

-- the counter before an entry whose name could not be copied, and after the last
pub entries_within : {T : Type 0} (k : Kind) (f : T → Doc) (all left : List Entry) (es : List (String Global × T)) (start now : ℕ) (d : Data) → EntriesSoFar k f all left es start now → Some (members_view all) ≡ as_object d → (start ≤ now) × (now ≤ start + values d)
entries_within k f all left es start now d so_far is = (so_far.grows, omega (arith, object_values d (members_view all) is, so_far.at_most))

-- the counter after an entry that could not be kept
pub entries_within_next : {T : Type 0} (k : Kind) (f : T → Doc) (all left : List Entry) (es : List (String Global × T)) (start now new : ℕ) (e : Entry) (more : List Entry) (v : T) (d : Data) → EntriesSoFar k f all left es start now
    → left ≡ e ∷ more → Some (members_view all) ≡ as_object d → Reads {A = T} (read k (view e.1)) f (Ok v) now new (values (view e.1)) → (start ≤ new) × (new ≤ start + values d)
entries_within_next k f all left es start now new e more v d so_far rest is one =
    (omega (arith, one.grows, so_far.grows), omega (arith, values_left left e more rest, object_values d (members_view all) is, one.at_most, so_far.at_most))

-- the extensions of an object, by its members
extensions_by : (d : Data) (ms : Members) → Some ms ≡ as_object d → extensions_at true d ≡ extensions_of true ms
extensions_by null ms is = cc
extensions_by (boolean b) ms is = cc
extensions_by (number n) ms is = cc
extensions_by (string s) ms is = cc
extensions_by (array ds) ms is = cc
extensions_by (object ns) ms is = let same : ns ≡ ms = cc in ap (extensions_of true) same

-- after the last member, with the extensions
pub entries_read : {T : Type 0} (k : Kind) (f : T → Doc) (all left : List Entry) (m : BTreeMap (String Global) T) (o : Option Extensions) (start now : ℕ) (d : Data) → EntriesSoFar k f all left m.entries start now → left ≡ []
    → Some (members_view all) ≡ as_object d → option_map extensions_view o ≡ extensions_at true d
    → Reads {A = BTreeMap (String Global) T × Option Extensions} (read (entries_of k) d) (λ v. entries_beside f v.0 v.1) (Ok (m, o)) start now (values d)
entries_read k f all left m o start now d so_far none is extends =
    let es : Entries = entries_of_list (pairs_of f m.entries) in
    let all_read : kept_read k all ≡ Some es =
    so_far.read ∙ ap (λ r. prepend_entries (pairs_of f m.entries) (kept_read k r)) none ∙ ap (prepend_entries (pairs_of f m.entries)) (kept_read_none k) ∙ prepend_entries-some (pairs_of f m.entries) in
    record {
      ok = entries_by k d all (Some es) is all_read ∙ ap (λ x. Some (entries_doc es x)) (sym (extends ∙ extensions_by d (members_view all) is));
      err = tt;
      grows = so_far.grows;
      at_most = omega (arith, so_far.at_most, object_values d (members_view all) is);
      at_least = λ below. omega (arith, schema_count-entries es (option_map extensions_view o), so_far.at_least below);
    }

-- ---- writing

-- all entries, over the extensions
pub entries_tree : {T : Type 0} (f : T → Doc) (m : BTreeMap (String Global) T) (o : Option Extensions) → object (merge_members (members_by (λ x. write (f x)) m.entries) (members_or_none (option_map extensions_view o))) ≡ write (entries_beside f m o)
entries_tree f m o =
    ap (λ r. object (merge_members r (members_or_none (option_map extensions_view o)))) (sym (write_entries-entries_of_list f m.entries))
    ∙ sym (write-entries (entries_of_list (pairs_of f m.entries)) (option_map extensions_view o))

-- ---- printing

pub ruleset by_entries = (read-entries, schema_count-entries)
