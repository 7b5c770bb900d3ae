-- A map that keeps its order beside the members that it is read from and written as.
use Rattle.std.proofs.Common.{◌≡◌, ℕ, List, [], ◌∷◌, ◌++◌, false, cond, Option, Some, None, option_map, option_and_then, refl, sym, ap, ◌∙◌, subst, append_assoc, append-nil, arith, Result, Ok, Err, IsErrAnd, String, Global, string_bytes, string_cmp, string_eq, nat_cmp, Ordering, Less, Equal, Greater, is_eq}
use Rattle.std.proofs.lemmas.List.{map-append}
use Rattle.std.proofs.lemmas.Map.Text.{is_eq-slice_cmp}
use Rattle.std.specs.BTreeMap as tree
use Rattle.std.specs.Borrow.{Bor}
use Rattle.std.specs.Cmp.Lexicographic.{slice_cmp}
use Rattle.std.specs.List.{AllByRecursion, IsDistinct}
use Rattle.std.specs.List.Sorted.{IsStrictlySortedBy}
use Rattle.std.specs.Map.{keys_of}
use Rattle.std.specs.Ordering.{match_ordering}
use Rattle.std.specs.Str.{bytes_eq}
use Rattle.std.specs.String.{string_eq_equiv}
use Rattle.indexmap.specs.IndexMap.{IndexMap, insert_entry}
use Rattle.serde_json.specs.Data.{Data, null, boolean, number, string, array, object, Members, no_members, member, put}
use Rattle.serde_json.specs.Find.{as_object}
use Rattle.serde_json.specs.View.{view, members_view}
use Rattle.utoipa_base.specs.InOrder.{joined}
use Rattle.serde_json.proofs.Views.{Entry}
use Rattle.utoipa_base.specs.ByName.{by_name}
use Rattle.utoipa_base.specs.Docs.{Doc, map_doc, ordered_map_doc, Entries, entries_of_list}
use Rattle.utoipa_base.specs.Faults.{Refuses}
use Rattle.utoipa_base.specs.Kinds.{Kind, map_of, ordered_map_of}
use Rattle.utoipa_base.specs.Reading.{reader, read}
use Rattle.utoipa_base.specs.Reads.{Reads}
use Rattle.utoipa_base.specs.Values.{values, schema_count, entries_schema_count}
use Rattle.utoipa_base.specs.Views.{pairs_of, ordered_map_of_docs, shown_members}
use Rattle.utoipa_base.specs.Writing.{write, put_written}
use Rattle.utoipa_base.specs.declared.fault.ReadFault.{ReadFault}
use Rattle.utoipa_base.specs.declared.fault.ReadFault.TheVariants.{Memory, Fraction, Missing, Word, Alternative, Text}
use Rattle.utoipa_base.specs.declared.fault.ReadFault.TheVariants as fault
use Rattle.utoipa_base.proofs.ByName.{IsBelow, Ascends, by_name-stays}
use Rattle.utoipa_base.proofs.Maps.{members_read, texts, above, insert_last, entries_read, entries_read-end, prepend_entries, read-map}
use Rattle.utoipa_base.proofs.ReadingMaps.{MapSoFar, map_step}
use Rattle.utoipa_base.proofs.Values.{object_values}
use Rattle.utoipa_base.proofs.WritingMaps.{MapCopied}

-- ---- the definitions

-- a map that keeps its order is read as any map, and then stands in the order of the names
abbrev pub in_that_order : Entries → Doc
in_that_order es = ordered_map_doc (by_name es)

pub read-ordered_map : (k : Kind) (d : Data) → read (ordered_map_of k) d ≡ option_and_then (λ ms. option_map in_that_order (members_read k ms)) (as_object d)
unfolding reader
read-ordered_map k null = refl
read-ordered_map k (boolean b) = refl
read-ordered_map k (number n) = refl
read-ordered_map k (string s) = refl
read-ordered_map k (array ds) = refl
read-ordered_map k (object ms) = refl

pub write-ordered_map : (es : Entries) → write (ordered_map_doc es) ≡ object (put_written es no_members)
unfolding write
write-ordered_map es = refl

pub schema_count-ordered_map : (es : Entries) → schema_count (ordered_map_doc es) ≡ entries_schema_count es
unfolding schema_count
schema_count-ordered_map es = refl

-- a tree that is no object
pub ordered_map_none : (k : Kind) (d : Data) → as_object d ≡ None → read (ordered_map_of k) d ≡ None
ordered_map_none k d e = read-ordered_map k d ∙ ap (option_and_then (λ ms. option_map in_that_order (members_read k ms))) e

-- a tree that is an object, with its members read
ordered_by_entries : (k : Kind) (d : Data) (es : List Entry) (o : Option Entries) → Some (members_view es) ≡ as_object d → entries_read k es ≡ o → read (ordered_map_of k) d ≡ option_map in_that_order o
ordered_by_entries k d es o is read_as = read-ordered_map k d ∙ ap (option_and_then (λ ms. option_map in_that_order (members_read k ms))) (sym is) ∙ ap (option_map in_that_order) read_as

-- ---- a new name comes last

-- a name that is none of the entries' is put last
pub insert_new : {X : Type 0} (es : List (String Global × X)) (name : String Global) (v : X) → AllByRecursion (λ k. string_eq name k ≡ false) (keys_of es) → insert_entry string_eq es name v ≡ es ++ (name, v) ∷ []
insert_new [] name v h = refl
insert_new (x ∷ es) name v h =
    ap (λ b. cond b ((x.0, v) ∷ es) (x ∷ insert_entry string_eq es name v)) h.0 ∙ ap (λ l. x ∷ l) (insert_new es name v h.1)

-- names that come before another are not that name
pub names_before : {X Y : Type 0} (es : List (String Global × Y)) (done : List (String Global × X)) (e : String Global × X) (more : List (String Global × X)) (name : String Global)
    → texts es ≡ texts done → IsStrictlySortedBy string_cmp (keys_of (done ++ e ∷ more)) → string_bytes name ≡ string_bytes e.0 → AllByRecursion (λ k. string_eq name k ≡ false) (keys_of es)
unfolding IsStrictlySortedBy
names_before [] done e more name same sorted is = tt
names_before (x ∷ es) [] e more name same sorted is = cc
names_before (x ∷ es) (y ∷ done) e more name same sorted is =
    let first : string_bytes x.0 ≡ string_bytes y.0 = cc in
    let others : texts es ≡ texts done = cc in
    let later : slice_cmp nat_cmp (string_bytes name) (string_bytes x.0) ≡ Greater = rw (is, first) (above y done e more sorted.0) in
    (sym (is_eq-slice_cmp (string_bytes name) (string_bytes x.0)) ∙ ap is_eq later, names_before es done e more name others sorted.1 is)

-- a name that is not another's, the other is not its own
turned : (k l : String Global) → string_eq k l ≡ false → string_eq l k ≡ false
turned k l h = string_eq_equiv.symm l k ∙ h

-- of distinct names, an earlier one is not a later one
apart : {X : Type 0} (y : String Global × X) (done : List (String Global × X)) (e : String Global × X) (more : List (String Global × X)) → AllByRecursion (λ k. string_eq y.0 k ≡ false) (keys_of (done ++ e ∷ more)) → string_eq y.0 e.0 ≡ false
apart y [] e more h = h.0
apart y (x ∷ done) e more h = apart y done e more h.1

-- names that are distinct from another are not that name
names_apart : {X Y : Type 0} (es : List (String Global × Y)) (done : List (String Global × X)) (e : String Global × X) (more : List (String Global × X)) (name : String Global)
    → texts es ≡ texts done → IsDistinct string_eq (keys_of (done ++ e ∷ more)) → string_bytes name ≡ string_bytes e.0 → AllByRecursion (λ k. string_eq name k ≡ false) (keys_of es)
unfolding IsDistinct
names_apart [] done e more name same distinct is = tt
names_apart (x ∷ es) [] e more name same distinct is = cc
names_apart (x ∷ es) (y ∷ done) e more name same distinct is =
    let first : string_bytes x.0 ≡ string_bytes y.0 = cc in
    let others : texts es ≡ texts done = cc in
    let differs : bytes_eq (string_bytes e.0) (string_bytes y.0) ≡ false = turned y.0 e.0 (apart y done e more distinct.0) in
    (ap (λ n. bytes_eq n (string_bytes x.0)) is ∙ ap (bytes_eq (string_bytes e.0)) first ∙ differs, names_apart es done e more name others distinct.1 is)

-- ---- reading

-- one entry more, under a copy of its name
pub ordered_map_step : {T : Type 0} (k : Kind) (f : T → Doc) (all left : List Entry) (es fs : List (String Global × T)) (start now new : ℕ) (e : Entry) (more : List Entry) (name : String Global) (v : T) → MapSoFar k f all left es start now
    → left ≡ e ∷ more → IsStrictlySortedBy string_cmp (keys_of all) → string_bytes name ≡ string_bytes e.0 → fs ≡ insert_entry string_eq es name v
    → Reads {A = T} (read k (view e.1)) f (Ok v) now new (values (view e.1)) → MapSoFar k f all more fs start new
ordered_map_step k f all left es fs start now new e more name v so_far rest ordered named is one =
    let whole : all ≡ so_far.done ++ e ∷ more = so_far.split ∙ ap (λ r. so_far.done ++ r) rest in
    let sorted = subst (λ r. IsStrictlySortedBy string_cmp (keys_of r)) whole ordered in
    map_step k f all left es fs start now new e more name v so_far rest ordered named
    (is ∙ insert_new es name v (names_before es so_far.done e more name so_far.names sorted named) ∙ sym (insert_last es so_far.done e more name v so_far.names sorted named)) one

-- names before which one comes
below_texts : {T : Type 0} (f : T → Doc) (es : List (String Global × T)) (x : String Global) (done : List Entry) → texts es ≡ texts done → AllByRecursion (λ y. string_cmp x y ≡ Less) (keys_of done)
    → (n : List ℕ) → n ≡ string_bytes x → IsBelow n (entries_of_list (pairs_of f es))
below_texts f [] x done same h n is = tt
below_texts f (e ∷ es) x [] same h n is = cc
below_texts f (e ∷ es) x (y ∷ done) same h n is =
    let first : string_bytes e.0 ≡ string_bytes y.0 = cc in
    let others : texts es ≡ texts done = cc in
    (rw (is, first) h.0, below_texts f es x done others h.1 n is)

-- entries under names that ascend
ascends_by : {T : Type 0} (f : T → Doc) (es : List (String Global × T)) (done : List Entry) → texts es ≡ texts done → IsStrictlySortedBy string_cmp (keys_of done) → Ascends (entries_of_list (pairs_of f es))
unfolding IsStrictlySortedBy
ascends_by f [] done same sorted = tt
ascends_by f (e ∷ es) [] same sorted = cc
ascends_by f (e ∷ es) (y ∷ done) same sorted =
    let first : string_bytes e.0 ≡ string_bytes y.0 = cc in
    let others : texts es ≡ texts done = cc in
    (below_texts f es y.0 done others sorted.0 (string_bytes e.0) first, ascends_by f es done others sorted.1)

-- after the last entry
pub ordered_map_read : {T S : Type 0} (k : Kind) (f : T → Doc) (all left : List Entry) (m : IndexMap (String Global) T S) (start now : ℕ) (d : Data) → MapSoFar k f all left m.entries start now → left ≡ [] → IsStrictlySortedBy string_cmp (keys_of all)
    → Some (members_view all) ≡ as_object d → Reads {A = IndexMap (String Global) T S} (read (ordered_map_of k) d) (ordered_map_of_docs f) (Ok m) start now (values d)
ordered_map_read k f all left m start now d so_far none ordered is =
    let es : Entries = entries_of_list (pairs_of f m.entries) in
    let whole : all ≡ so_far.done = so_far.split ∙ ap (λ r. so_far.done ++ r) none ∙ append-nil so_far.done in
    let sorted = subst (λ r. IsStrictlySortedBy string_cmp (keys_of r)) whole ordered in
    let entries : entries_read k all ≡ Some es = entries_read-end k (pairs_of f m.entries) _ (so_far.read ∙ ap (λ r. prepend_entries (pairs_of f m.entries) (entries_read k r)) none) in
    record {
      ok = ordered_by_entries k d all _ is entries ∙ ap (λ r. Some (ordered_map_doc r)) (by_name-stays es (ascends_by f m.entries so_far.done so_far.names sorted));
      err = tt;
      grows = so_far.grows;
      at_most = omega (arith, so_far.at_most, object_values d (members_view all) is);
      at_least = λ below. omega (arith, schema_count-ordered_map es, so_far.at_least below);
    }

-- what refuses a map refuses one that keeps its order
refuses_ordered : (k : Kind) (d : Data) (x : ReadFault) → (read (map_of k) d ≡ None → read (ordered_map_of k) d ≡ None) → Refuses (read (map_of k) d) x → Refuses (read (ordered_map_of k) d) x
refuses_ordered k d Memory f h = tt
refuses_ordered k d Fraction f h = h
refuses_ordered k d (Missing s) f h = f h
refuses_ordered k d (fault.Kind s) f h = f h
refuses_ordered k d (Word s) f h = f h
refuses_ordered k d Alternative f h = f h
refuses_ordered k d Text f h = h

mapped_none : {A B C : Type 0} (f : A → B) (g : A → C) (o : Option A) → option_map f o ≡ None → option_map g o ≡ None
mapped_none f g None h = refl
mapped_none f g (Some x) h = cc

-- where there is no map there is none that keeps its order
no_map : (k : Kind) (d : Data) (o : Option Members) → as_object d ≡ o → read (map_of k) d ≡ None → read (ordered_map_of k) d ≡ None
no_map k d None is h = ordered_map_none k d is
no_map k d (Some ms) is h =
    read-ordered_map k d ∙ ap (option_and_then (λ r. option_map in_that_order (members_read k r))) is
    ∙ mapped_none map_doc in_that_order (members_read k ms) (sym (read-map k d ∙ ap (option_and_then (λ r. option_map map_doc (members_read k r))) is) ∙ h)

-- a refusal of the map
pub ordered_map_refused : {B : Type 0} (k : Kind) (g : B → Doc) (r : Result B ReadFault) (x : ReadFault) (start new : ℕ) (d : Data) → IsErrAnd r (λ h. h ≡ x) → Reads (read (map_of k) d) g r start new (values d)
    → Reads (read (ordered_map_of k) d) g r start new (values d)
ordered_map_refused k g (Ok v) x start new d passed refused = absurd passed
ordered_map_refused k g (Err h) x start new d passed refused =
    record { ok = tt; err = refuses_ordered k d h (no_map k d (as_object d) refl) refused.err; grows = refused.grows; at_most = refused.at_most; at_least = tt }

-- ---- writing

put_written-last : (ds : List (List ℕ × Doc)) (e : List ℕ × Doc) (ms : Members) → put_written (entries_of_list (ds ++ e ∷ [])) ms ≡ put e.0 (write e.1) (put_written (entries_of_list ds) ms)
unfolding put_written
put_written-last [] e ms = refl
put_written-last (x ∷ ds) e ms = put_written-last ds e (put x.0 (write x.1) ms)

put_written-none : (ms : Members) → put_written (entries_of_list []) ms ≡ ms
unfolding put_written
put_written-none ms = refl

-- the entries before `left` have been put one after another, which comes to `ms`
pub record EntriesPut {T : Type 0} (f : T → Doc) (all left : List (String Global × T)) (ms : Members) : Type 0 where
  pub done : List (String Global × T)
  pub split : all ≡ done ++ left
  pub members : ms ≡ put_written (entries_of_list (pairs_of f done)) no_members

pub put_begun : {T : Type 0} (f : T → Doc) (all left : List (String Global × T)) (ms : Members) → left ≡ all → ms ≡ no_members → EntriesPut f all left ms
put_begun f all left ms whole none = record { done = []; split = sym whole; members = none ∙ sym (put_written-none no_members) }

pub put_step : {T : Type 0} (f : T → Doc) (all left : List (String Global × T)) (ms ns : Members) (e : String Global × T) (more : List (String Global × T)) (v : Data) → EntriesPut f all left ms → left ≡ e ∷ more
    → v ≡ write (f e.1) → ns ≡ put (string_bytes e.0) v ms → EntriesPut f all more ns
put_step f all left ms ns e more v so_far rest written is =
    record {
      done = so_far.done ++ e ∷ [];
      split = so_far.split ∙ ap (λ r. so_far.done ++ r) rest ∙ sym (append_assoc so_far.done (e ∷ []) more);
      members = is ∙ ap (λ w. put (string_bytes e.0) w ms) written ∙ ap (put (string_bytes e.0) (write (f e.1))) so_far.members
          ∙ sym (put_written-last (pairs_of f so_far.done) (string_bytes e.0, f e.1) no_members) ∙ ap (λ ps. put_written (entries_of_list ps) no_members) (sym (map-append _ so_far.done (e ∷ [])));
    }

pub put_all : {T : Type 0} (f : T → Doc) (all left : List (String Global × T)) (ms : Members) → EntriesPut f all left ms → left ≡ [] → ms ≡ put_written (entries_of_list (pairs_of f all)) no_members
put_all f all left ms so_far none =
    let whole : so_far.done ≡ all = sym (so_far.split ∙ ap (λ r. so_far.done ++ r) none ∙ append-nil so_far.done) in
    so_far.members ∙ ap (λ es. put_written (entries_of_list (pairs_of f es)) no_members) whole

-- ---- sorting

-- a borrowed entry that is inserted shows its member put among the others, by its place
shown_insert_at : {X : Type 0} (o : Ordering) (f : X → Doc) (es fs : List (Bor (List ℕ) × Bor X)) (e : Bor (List ℕ) × Bor X) (k : Bor (List ℕ)) (v : Bor X) → shown_members f fs ≡ put k.now (write (f v.now)) (shown_members f es)
    → shown_members f (match_ordering o ((k, v) ∷ e ∷ es) ((e.0, v) ∷ es) (e ∷ fs))
    ≡ match_ordering o (member k.now (write (f v.now)) (shown_members f (e ∷ es))) (member e.0.now (write (f v.now)) (shown_members f es)) (member e.0.now (write (f e.1.now)) (put k.now (write (f v.now)) (shown_members f es)))
shown_insert_at Less f es fs e k v h = refl
shown_insert_at Equal f es fs e k v h = refl
shown_insert_at Greater f es fs e k v h = ap (member e.0.now (write (f e.1.now))) h

-- a borrowed entry that is inserted shows its member put among the others
pub shown-insert : {X : Type 0} (f : X → Doc) (cmp : Bor (List ℕ) → Bor (List ℕ) → Ordering) → ((a b : Bor (List ℕ)) → cmp a b ≡ slice_cmp nat_cmp a.now b.now) → (es : List (Bor (List ℕ) × Bor X)) (k : Bor (List ℕ)) (v : Bor X)
    → shown_members f (tree.insert_entry cmp es k v) ≡ put k.now (write (f v.now)) (shown_members f es)
shown-insert f cmp same [] k v = refl
shown-insert f cmp same (e ∷ es) k v =
    ap (λ o. shown_members f (match_ordering o ((k, v) ∷ e ∷ es) ((e.0, v) ∷ es) (e ∷ tree.insert_entry cmp es k v))) (same k e.0)
    ∙ shown_insert_at (slice_cmp nat_cmp k.now e.0.now) f es (tree.insert_entry cmp es k v) e k v (shown-insert f cmp same es k v)

-- ---- printing

pub shown-last : {X : Type 0} (f : X → Doc) (es : List (Bor (List ℕ) × Bor X)) (e : Bor (List ℕ) × Bor X) → joined (shown_members f es) (member e.0.now (write (f e.1.now)) no_members) ≡ shown_members f (es ++ e ∷ [])
shown-last f [] e = refl
shown-last f (x ∷ es) e = ap (member x.0.now (write (f x.1.now))) (shown-last f es e)

-- ---- copying

pub ordered_copied_step : {T : Type 0} (f : T → Doc) (all left es fs : List (String Global × T)) (e : String Global × T) (more : List (String Global × T)) (name : String Global) (v : T) → MapCopied f all left es → left ≡ e ∷ more
    → IsDistinct string_eq (keys_of all) → string_bytes name ≡ string_bytes e.0 → f v ≡ f e.1 → fs ≡ insert_entry string_eq es name v → MapCopied f all more fs
ordered_copied_step f all left es fs e more name v so_far rest distinct named same is =
    let whole : all ≡ so_far.done ++ e ∷ more = so_far.split ∙ ap (λ r. so_far.done ++ r) rest in
    let others = subst (λ r. IsDistinct string_eq (keys_of r)) whole distinct in
    let last : fs ≡ es ++ (name, v) ∷ [] = is ∙ insert_new es name v (names_apart es so_far.done e more name so_far.names others named) in
    record {
      done = so_far.done ++ e ∷ [];
      split = whole ∙ sym (append_assoc so_far.done (e ∷ []) more);
      names = ap texts last ∙ map-append _ es _ ∙ ap (λ ts. ts ++ string_bytes name ∷ []) so_far.names ∙ ap (λ b. texts so_far.done ++ b ∷ []) named ∙ sym (map-append _ so_far.done (e ∷ []));
      docs = ap (pairs_of f) last ∙ map-append _ es _ ∙ ap (λ ps. ps ++ (string_bytes name, f v) ∷ []) so_far.docs ∙ ap (λ b. pairs_of f so_far.done ++ (b, f v) ∷ []) named
          ∙ ap (λ d. pairs_of f so_far.done ++ (string_bytes e.0, d) ∷ []) same ∙ sym (map-append _ so_far.done (e ∷ []));
    }

pub ordered_map_copied : {T S : Type 0} (f : T → Doc) (m copy : IndexMap (String Global) T S) (left : List (String Global × T)) → MapCopied f m.entries left copy.entries → left ≡ [] → ordered_map_of_docs f copy ≡ ordered_map_of_docs f m
ordered_map_copied f m copy left so_far none =
    let whole : so_far.done ≡ m.entries = sym (so_far.split ∙ ap (λ r. so_far.done ++ r) none ∙ append-nil so_far.done) in
    ap (λ ps. ordered_map_doc (entries_of_list ps)) (so_far.docs ∙ ap (pairs_of f) whole)

pub ruleset by_ordered_maps = (read-ordered_map, write-ordered_map)
