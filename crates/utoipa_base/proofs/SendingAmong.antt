-- Members sent in the order of their names, with the extensions among them, to any sink.
use Rattle.std.proofs.Common.{◌≡◌, ℕ, List, [], ◌∷◌, ◌++◌, true, false, Option, None, Some, option_map, refl, sym, ap, ◌∙◌, subst, append_assoc, append-nil, String, Global, string_bytes, Result, Ok, Err, OnOk, Bor}
use Rattle.std.specs.BTreeMap.{BTreeMap}
use Rattle.serde_json.specs.Data.{Data, object, Members, no_members, member}
use Rattle.serde_json.specs.View.{view, members_view}
use Rattle.utoipa_base.specs.Docs.{Doc, none_doc, some_doc, Docs, no_docs, doc}
use Rattle.utoipa_base.specs.Events.{Event, begin_object, end_object, key, events, members_events}
use Rattle.utoipa_base.specs.Extensions.{members_or_none, extensions_view}
use Rattle.utoipa_base.specs.declared.extensions.Extensions.{Extensions}
use Rattle.utoipa_base.specs.InOrder.{Field, fields_by, object_parts, IsObjectBy, row_members, joined, names_before, names_after, starts_before, first_member, later_members, among, rest_after}
use Rattle.utoipa_base.specs.Kinds.{Kind, Row, required, optional, or_null, defaulted}
use Rattle.utoipa_base.specs.Pending.{next_view}
use Rattle.utoipa_base.specs.declared.pending.NextExtension.{NextExtension}
use Rattle.utoipa_base.specs.SentAmong.{SentAmong, NameSent, ObjectEnded}
use Rattle.utoipa_base.specs.Tables.{row}
use Rattle.utoipa_base.specs.Views.{entries_beside, shown_members}
use Rattle.utoipa_base.specs.Writing.{write, is_empty, left_out, merge_members}
use Rattle.utoipa_base.proofs.EntryMaps.{entries_tree}
use Rattle.utoipa_base.proofs.FieldsInOrder.{there, there-append, rows_there, row_members-first, written_in_order, merged_split, joined-none, joined-joined, among-joined, rest_after-joined, starts-before, starts-after, none_before, first_and_later}
use Rattle.utoipa_base.proofs.Maps.{members_by}
use Rattle.utoipa_base.proofs.OrderedMaps.{shown-last}
use Rattle.utoipa_base.proofs.Sending.{added_as, no_members_sent, events-joined, one_member, whole_object}
use Rattle.utoipa_base.proofs.Tokens.{members_by-last}

-- what joins events that were added one after the other
abbrev pub Joins : {A : Type 0} → (A → List Event → A → Type 0) → Type 0
Joins {A} adds = (a b c : A) (es fs : List Event) → adds a es b → adds b fs c → adds a (es ++ fs) c

-- ---- members, and others after them

pub none_sent : {A : Type 0} (adds : A → List Event → A → Type 0) (a : A) → adds a [] a → adds a (members_events no_members) a
none_sent adds a none = added_as adds a a [] _ no_members_sent none

pub joined_sent : {A : Type 0} (adds : A → List Event → A → Type 0) (both : Joins adds) (ms ns : Members) (a b c : A) → adds a (members_events ms) b → adds b (members_events ns) c → adds a (members_events (joined ms ns)) c
joined_sent adds both ms ns a b c first last = added_as adds a c _ _ (events-joined ms ns) (both a b c _ _ first last)

-- one member
pub member_sent : {A : Type 0} (adds : A → List Event → A → Type 0) (both : Joins adds) (k : List ℕ) (d : Data) (a b c : A) → adds a (key k ∷ []) b → adds b (events d) c → adds a (members_events (member k d no_members)) c
member_sent adds both k d a b c names sends = added_as adds a c _ _ (one_member k d) (both a b c _ _ names sends)

-- ---- extensions that come before a name

-- what has been passed over of the members before a name
pub record PassedOver {A : Type 0} (adds : A → List Event → A → Type 0) (k : List ℕ) (all now : Members) (old new : A) : Type 0 where
  pub done : Members
  pub before : names_before k all ≡ joined done (names_before k now)
  pub after : names_after k now ≡ names_after k all
  pub added : adds old (members_events done) new

pub over_begun : {A : Type 0} (adds : A → List Event → A → Type 0) (k : List ℕ) (all : Members) (a : A) → adds a [] a → PassedOver adds k all all a a
over_begun adds k all a none = record { done = no_members; before = refl; after = refl; added = none_sent adds a none }

pub over_step : {A : Type 0} (adds : A → List Event → A → Type 0) (both : Joins adds) (k : List ℕ) (all now more : Members) (a b c : A) → PassedOver adds k all now a b → starts_before k now ≡ true → more ≡ later_members now
    → adds b (members_events (first_member now)) c → PassedOver adds k all more a c
over_step adds both k all now more a b c so_far first is sends = record {
  done = joined so_far.done (first_member now);
  before = so_far.before ∙ ap (joined so_far.done) (starts-before k now first) ∙ sym (joined-joined so_far.done (first_member now) (names_before k (later_members now)))
      ∙ ap (λ ms. joined (joined so_far.done (first_member now)) (names_before k ms)) (sym is);
  after = ap (names_after k) is ∙ starts-after k now first ∙ so_far.after;
  added = joined_sent adds both so_far.done (first_member now) a b c so_far.added sends;
}

pub over_all : {A : Type 0} (adds : A → List Event → A → Type 0) (k : List ℕ) (all now : Members) (a b : A) → PassedOver adds k all now a b → starts_before k now ≡ false → adds a (members_events (names_before k all)) b
over_all adds k all now a b so_far past =
    let whole : so_far.done ≡ names_before k all = sym (so_far.before ∙ ap (joined so_far.done) (none_before k now past) ∙ joined-none so_far.done) in
    added_as adds a b _ _ (ap members_events whole) so_far.added

-- the name of a member, after those of the others that come before it
pub name_sent : {A : Type 0} (adds : A → List Event → A → Type 0) (both : Joins adds) (k : List ℕ) (others left : Members) (a b c : A) → left ≡ names_after k others → adds a (members_events (names_before k others)) b → adds b (key k ∷ []) c → NameSent adds k others left a c
name_sent adds both k others left a b c is before names = record { rest = is; added = both a b c _ _ before names }

-- ---- the next of the extensions

-- there is none
pub none_next : {A : Type 0} (adds : A → List Event → A → Type 0) (o : Option NextExtension) (a : A) → adds a [] a → ((n : NextExtension) → o ≡ Some n → ⊥) → (no_members ≡ later_members (next_view o)) × adds a (members_events (first_member (next_view o))) a
none_next adds None a none other = (refl, none_sent adds a none)
none_next adds (Some n) a none other = absurd (other n refl)

-- the one that is there
pub next_sent : {A : Type 0} (adds : A → List Event → A → Type 0) (both : Joins adds) (o : Option NextExtension) (n : NextExtension) (name : List ℕ) (later : Members) (a b c : A) → o ≡ Some n → name ≡ string_bytes n.name.now → later ≡ members_view n.later
    → adds a (key name ∷ []) b → adds b (events (view n.value.now)) c → (later ≡ later_members (next_view o)) × adds a (members_events (first_member (next_view o))) c
next_sent adds both o n name later a b c is same rest names sends =
    rw is (rest, subst (λ k. adds a (members_events (member k (view n.value.now) no_members)) c) same (member_sent adds both name (view n.value.now) a b c names sends))

-- ---- the extensions that are left

-- what has been sent of the members
pub record SentSoFar {A : Type 0} (adds : A → List Event → A → Type 0) (all now : Members) (old new : A) : Type 0 where
  pub done : Members
  pub split : all ≡ joined done now
  pub added : adds old (members_events done) new

pub so_far_begun : {A : Type 0} (adds : A → List Event → A → Type 0) (all : Members) (a : A) → adds a [] a → SentSoFar adds all all a a
so_far_begun adds all a none = record { done = no_members; split = refl; added = none_sent adds a none }

pub so_far_step : {A : Type 0} (adds : A → List Event → A → Type 0) (both : Joins adds) (all now more : Members) (a b c : A) → SentSoFar adds all now a b → more ≡ later_members now → adds b (members_events (first_member now)) c → SentSoFar adds all more a c
so_far_step adds both all now more a b c so_far is sends = record {
  done = joined so_far.done (first_member now);
  split = so_far.split ∙ ap (joined so_far.done) (sym (first_and_later now)) ∙ sym (joined-joined so_far.done (first_member now) (later_members now)) ∙ ap (joined (joined so_far.done (first_member now))) (sym is);
  added = joined_sent adds both so_far.done (first_member now) a b c so_far.added sends;
}

-- all members, and the end of their object
pub all_ended : {A : Type 0} (adds : A → List Event → A → Type 0) (both : Joins adds) (all now : Members) (a b c : A) → SentSoFar adds all now a b → now ≡ no_members → adds b (end_object ∷ []) c → ObjectEnded adds all a c
all_ended adds both all now a b c so_far none ended =
    let whole : so_far.done ≡ all = sym (so_far.split ∙ ap (joined so_far.done) none ∙ joined-none so_far.done) in
    added_as adds a c _ _ (ap (λ ms. members_events ms ++ end_object ∷ []) whole) (both a b c _ _ so_far.added ended)

-- ---- members among others

-- no member
pub none_among : {A : Type 0} (adds : A → List Event → A → Type 0) (es : Members) (a : A) → adds a [] a → SentAmong adds no_members es es a a
none_among adds es a none = record { rest = refl; added = none_sent adds a none }

-- members, and others after them
pub both_among : {A : Type 0} (adds : A → List Event → A → Type 0) (both : Joins adds) (ms ns es mid left : Members) (a b c : A) → SentAmong adds ms es mid a b → SentAmong adds ns mid left b c → SentAmong adds (joined ms ns) es left a c
both_among adds both ms ns es mid left a b c first last =
    let inner : joined (among ms es) (among ns mid) ≡ among (joined ms ns) es = ap (λ r. joined (among ms es) (among ns r)) first.rest ∙ sym (among-joined ms ns es) in
    record {
      rest = last.rest ∙ ap (rest_after ns) first.rest ∙ sym (rest_after-joined ms ns es);
      added = added_as adds a c _ _ (ap members_events inner) (joined_sent adds both (among ms es) (among ns mid) a b c first.added last.added);
    }

-- one member
pub one_among : {A : Type 0} (adds : A → List Event → A → Type 0) (both : Joins adds) (k : List ℕ) (d : Data) (es left : Members) (a b c : A) → NameSent adds k es left a b → adds b (events d) c → SentAmong adds (member k d no_members) es left a c
one_among adds both k d es left a b c named sends =
    let whole : (members_events (names_before k es) ++ key k ∷ []) ++ events d ≡ members_events (joined (names_before k es) (member k d no_members)) =
    append_assoc (members_events (names_before k es)) (key k ∷ []) (events d) ∙ ap (λ x. members_events (names_before k es) ++ x) (one_member k d) ∙ events-joined (names_before k es) (member k d no_members) in
    record { rest = named.rest; added = added_as adds a c _ _ whole (both a b c _ _ named.added sends) }

-- ---- rows

-- no row
pub no_row_among : {A : Type 0} (adds : A → List Event → A → Type 0) (es : Members) (a : A) → adds a [] a → SentAmong adds (row_members no_docs []) es es a a
unfolding row_members
no_row_among adds es a none = none_among adds es a none

-- a row that is left out
pub row_left_out : {A : Type 0} (adds : A → List Event → A → Type 0) (r : Row) (d : Doc) (es : Members) (a : A) → left_out r.mark d ≡ true → adds a [] a → SentAmong adds (row_members (doc d no_docs) (r ∷ [])) es es a a
unfolding row_members
row_left_out adds r d es a h none = rw h (none_among adds es a none)

-- a row that is there
pub row_there : {A : Type 0} (adds : A → List Event → A → Type 0) (both : Joins adds) (r : Row) (d : Doc) (k : List ℕ) (es left : Members) (a b c : A) → left_out r.mark d ≡ false → r.name ≡ k → NameSent adds k es left a b → adds b (events (write d)) c
    → SentAmong adds (row_members (doc d no_docs) (r ∷ [])) es left a c
unfolding row_members
row_there adds both r d k es left a b c h is named sends = rw (h, is) (one_among adds both k (write d) es left a b c named sends)

-- a row, and those after it
pub rows_among : {A : Type 0} (adds : A → List Event → A → Type 0) (both : Joins adds) (r : Row) (rs : List Row) (d : Doc) (ds : Docs) (es mid left : Members) (a b c : A) → SentAmong adds (row_members (doc d no_docs) (r ∷ [])) es mid a b → SentAmong adds (row_members ds rs) mid left b c
    → SentAmong adds (row_members (doc d ds) (r ∷ rs)) es left a c
rows_among adds both r rs d ds es mid left a b c first later = subst (λ ms. SentAmong adds ms es left a c) (sym (row_members-first r rs d ds)) (both_among adds both _ _ es mid left a b c first later)

-- ---- a member by its mark

-- a required member
pub required_among : {A : Type 0} (adds : A → List Event → A → Type 0) (both : Joins adds) (name : List ℕ) (k : Kind) (d : Doc) (es left : Members) (a b c : A) → NameSent adds name es left a b → adds b (events (write d)) c
    → SentAmong adds (row_members (doc d no_docs) (row name required k ∷ [])) es left a c
required_among adds both name k d es left a b c named sends = row_there adds both (row name required k) d name es left a b c refl refl named sends

-- an optional member that is there
pub optional_among : {A : Type 0} (adds : A → List Event → A → Type 0) (both : Joins adds) (name : List ℕ) (k : Kind) (d : Doc) (es left : Members) (a b c : A) → NameSent adds name es left a b → adds b (events (write d)) c
    → SentAmong adds (row_members (doc (some_doc d) no_docs) (row name optional k ∷ [])) es left a c
unfolding write
optional_among adds both name k d es left a b c named sends = row_there adds both (row name optional k) (some_doc d) name es left a b c refl refl named sends

-- an optional member that is absent
pub optional_absent : {A : Type 0} (adds : A → List Event → A → Type 0) (name : List ℕ) (k : Kind) (es : Members) (a : A) → adds a [] a → SentAmong adds (row_members (doc none_doc no_docs) (row name optional k ∷ [])) es es a a
optional_absent adds name k es a none = row_left_out adds (row name optional k) none_doc es a refl none

-- an optional member that is written as null where it is absent
pub or_null_among : {A : Type 0} (adds : A → List Event → A → Type 0) (both : Joins adds) (name : List ℕ) (k : Kind) (d : Doc) (es left : Members) (a b c : A) → NameSent adds name es left a b → adds b (events (write d)) c
    → SentAmong adds (row_members (doc d no_docs) (row name or_null k ∷ [])) es left a c
or_null_among adds both name k d es left a b c named sends = row_there adds both (row name or_null k) d name es left a b c refl refl named sends

-- a defaulted member that is not empty
pub defaulted_among : {A : Type 0} (adds : A → List Event → A → Type 0) (both : Joins adds) (name : List ℕ) (k : Kind) (d : Doc) (es left : Members) (a b c : A) → is_empty d ≡ false → NameSent adds name es left a b → adds b (events (write d)) c
    → SentAmong adds (row_members (doc d no_docs) (row name defaulted k ∷ [])) es left a c
defaulted_among adds both name k d es left a b c full named sends = row_there adds both (row name defaulted k) d name es left a b c full refl named sends

-- a defaulted member that is empty
pub defaulted_absent : {A : Type 0} (adds : A → List Event → A → Type 0) (name : List ℕ) (k : Kind) (d : Doc) (es : Members) (a : A) → is_empty d ≡ true → adds a [] a → SentAmong adds (row_members (doc d no_docs) (row name defaulted k ∷ [])) es es a a
defaulted_absent adds name k d es a empty none = row_left_out adds (row name defaulted k) d es a empty none

-- ---- an object

-- members among its extensions, and what is left of these
pub object_among : {A E : Type 0} (adds : A → List Event → A → Type 0) (both : Joins adds) (r : Result (Unit {0}) E) (ms es left : Members) (a b c z : A) → adds a (begin_object ∷ []) b → SentAmong adds ms es left b c → OnOk r (ObjectEnded adds left c z)
    → OnOk r (adds a (events (object (merge_members ms es))) z)
object_among adds both (Ok u) ms es left a b c z begins inside ends =
    let whole : joined (among ms es) left ≡ merge_members ms es = ap (joined (among ms es)) inside.rest ∙ sym (merged_split ms es) in
    let all : (begin_object ∷ [] ++ members_events (among ms es)) ++ (members_events left ++ end_object ∷ []) ≡ events (object (merge_members ms es)) =
    sym (append_assoc (begin_object ∷ [] ++ members_events (among ms es)) (members_events left) (end_object ∷ []))
    ∙ ap (λ x. begin_object ∷ (x ++ end_object ∷ [])) (events-joined (among ms es) left ∙ ap members_events whole) ∙ whole_object (merge_members ms es) in
    added_as adds a z _ _ all (both a c z _ _ (both a b c _ _ begins inside.added) ends)
object_among adds both (Err e) ms es left a b c z begins inside ends = tt

-- the fields of some rows
pub fields_among : {A : Type 0} (adds : A → List Event → A → Type 0) (ds : Docs) (rs : List Row) (es left : Members) (a b : A) → SentAmong adds (row_members ds rs) es left a b → SentAmong adds (there (fields_by ds rs)) es left a b
fields_among adds ds rs es left a b sends = subst (λ ms. SentAmong adds ms es left a b) (sym (rows_there ds rs)) sends

-- the fields of some rows, and those after them
pub then_fields : {A : Type 0} (adds : A → List Event → A → Type 0) (both : Joins adds) (ps qs : List Field) (es mid left : Members) (a b c : A) → SentAmong adds (there ps) es mid a b → SentAmong adds (there qs) mid left b c → SentAmong adds (there (ps ++ qs)) es left a c
then_fields adds both ps qs es mid left a b c first later = subst (λ ms. SentAmong adds ms es left a c) (sym (there-append ps qs)) (both_among adds both (there ps) (there qs) es mid left a b c first later)

-- rows, and the fields after them
pub then_rows : {A : Type 0} (adds : A → List Event → A → Type 0) (both : Joins adds) (ds : Docs) (rs : List Row) (qs : List Field) (es mid left : Members) (a b c : A) → SentAmong adds (row_members ds rs) es mid a b → SentAmong adds (there qs) mid left b c
    → SentAmong adds (there (fields_by ds rs ++ qs)) es left a c
then_rows adds both ds rs qs es mid left a b c first later = then_fields adds both (fields_by ds rs) qs es mid left a b c (fields_among adds ds rs es mid a b first) later

-- an object by its fields in their order, among its extensions
pub object_by_fields : {A E : Type 0} (adds : A → List Event → A → Type 0) (both : Joins adds) (r : Result (Unit {0}) E) (d : Doc) (ps : List Field) (e : Option Members) (es left : Members) (a b c z : A) → object_parts d ≡ Some (ps, e)
    → es ≡ members_or_none e → adds a (begin_object ∷ []) b → SentAmong adds (there ps) es left b c → OnOk r (ObjectEnded adds left c z) → OnOk r (adds a (events (write d)) z)
object_by_fields adds both r d ps e es left a b c z is others begins inside ends =
    let written : object (merge_members (there ps) es) ≡ write d = ap (λ x. object (merge_members (there ps) x)) others ∙ sym (written_in_order d ps e is) in
    subst (λ t. OnOk r (adds a (events t) z)) written (object_among adds both r (there ps) es left a b c z begins inside ends)

-- the same, where the document is known by another term, as one that is a fold by that of its layer
pub object_by_layer : {A E : Type 0} (adds : A → List Event → A → Type 0) (both : Joins adds) (r : Result (Unit {0}) E) (d layer : Doc) (ps : List Field) (e : Option Members) (es left : Members) (a b c z : A) → d ≡ layer → object_parts layer ≡ Some (ps, e)
    → es ≡ members_or_none e → adds a (begin_object ∷ []) b → SentAmong adds (there ps) es left b c → OnOk r (ObjectEnded adds left c z) → OnOk r (adds a (events (write d)) z)
object_by_layer adds both r d layer ps e es left a b c z same is others begins inside ends =
    subst (λ x. OnOk r (adds a (events (write x)) z)) (sym same) (object_by_fields adds both r layer ps e es left a b c z is others begins inside ends)

-- an object by its rows in their order, among its extensions
pub object_by_rows : {A E : Type 0} (adds : A → List Event → A → Type 0) (both : Joins adds) (r : Result (Unit {0}) E) (d : Doc) (ds : Docs) (rs : List Row) (e : Option Members) (es left : Members) (a b c z : A) → IsObjectBy d ds rs e → es ≡ members_or_none e
    → adds a (begin_object ∷ []) b → SentAmong adds (row_members ds rs) es left b c → OnOk r (ObjectEnded adds left c z) → OnOk r (adds a (events (write d)) z)
object_by_rows adds both r d ds rs e es left a b c z is others begins inside ends =
    object_by_fields adds both r d (fields_by ds rs) e es left a b c z is others begins (fields_among adds ds rs es left b c inside) ends

-- ---- entries among the extensions of their object

-- the entries before `left` have been sent among the extensions, of which `pending` are left
pub record EntriesAmong {X A : Type 0} (adds : A → List Event → A → Type 0) (f : X → Doc) (all left : List (String Global × X)) (extensions pending : Members) (old new : A) : Type 0 where
  pub done : List (String Global × X)
  pub split : all ≡ done ++ left
  pub sent : SentAmong adds (members_by (λ x. write (f x)) done) extensions pending old new

pub entries_begun : {X A : Type 0} (adds : A → List Event → A → Type 0) (f : X → Doc) (all left : List (String Global × X)) (extensions : Members) (a : A) → left ≡ all → adds a [] a → EntriesAmong adds f all left extensions extensions a a
entries_begun adds f all left extensions a whole none = record { done = []; split = sym whole; sent = none_among adds extensions a none }

pub entries_step : {X A : Type 0} (adds : A → List Event → A → Type 0) (both : Joins adds) (f : X → Doc) (all left : List (String Global × X)) (extensions pending after : Members) (e : String Global × X) (more : List (String Global × X)) (name : List ℕ) (a b c z : A)
    → EntriesAmong adds f all left extensions pending a b → left ≡ e ∷ more → name ≡ string_bytes e.0 → NameSent adds name pending after b c → adds c (events (write (f e.1))) z → EntriesAmong adds f all more extensions after a z
entries_step adds both f all left extensions pending after e more name a b c z so_far rest same named sends =
    let one = one_among adds both name (write (f e.1)) pending after b c z named sends in
    let is : joined (members_by (λ x. write (f x)) so_far.done) (member name (write (f e.1)) no_members) ≡ members_by (λ x. write (f x)) (so_far.done ++ e ∷ []) =
    ap (λ n. joined (members_by (λ x. write (f x)) so_far.done) (member n (write (f e.1)) no_members)) same ∙ members_by-last (λ x. write (f x)) so_far.done e in
    record {
      done = so_far.done ++ e ∷ [];
      split = so_far.split ∙ ap (λ r. so_far.done ++ r) rest ∙ sym (append_assoc so_far.done (e ∷ []) more);
      sent = subst (λ ms. SentAmong adds ms extensions after a z) is (both_among adds both (members_by (λ x. write (f x)) so_far.done) (member name (write (f e.1)) no_members) extensions pending after a b z so_far.sent one);
    }

pub entries_all : {X A E : Type 0} (adds : A → List Event → A → Type 0) (both : Joins adds) (r : Result (Unit {0}) E) (f : X → Doc) (m : BTreeMap (String Global) X) (o : Option Extensions) (left : List (String Global × X)) (extensions pending : Members) (a b c z : A)
    → EntriesAmong adds f m.entries left extensions pending b c → left ≡ [] → extensions ≡ members_or_none (option_map extensions_view o) → adds a (begin_object ∷ []) b → OnOk r (ObjectEnded adds pending c z)
    → OnOk r (adds a (events (write (entries_beside f m o))) z)
entries_all adds both r f m o left extensions pending a b c z so_far none are begins ends =
    let whole : so_far.done ≡ m.entries = sym (so_far.split ∙ ap (λ x. so_far.done ++ x) none ∙ append-nil so_far.done) in
    let tree : object (merge_members (members_by (λ x. write (f x)) so_far.done) extensions) ≡ write (entries_beside f m o) =
    ap (λ es. object (merge_members (members_by (λ x. write (f x)) es) extensions)) whole ∙ ap (λ x. object (merge_members (members_by (λ y. write (f y)) m.entries) x)) are ∙ entries_tree f m o in
    subst (λ d. OnOk r (adds a (events d) z)) tree (object_among adds both r (members_by (λ x. write (f x)) so_far.done) extensions pending a b c z begins so_far.sent ends)

-- ---- a map in the order of its names

-- the borrowed entries before `left` have been sent
pub record ShownSent {X A : Type 0} (adds : A → List Event → A → Type 0) (f : X → Doc) (all left : List (Bor (List ℕ) × Bor X)) (old new : A) : Type 0 where
  pub done : List (Bor (List ℕ) × Bor X)
  pub split : all ≡ done ++ left
  pub added : adds old (members_events (shown_members f done)) new

pub shown_begun : {X A : Type 0} (adds : A → List Event → A → Type 0) (f : X → Doc) (all left : List (Bor (List ℕ) × Bor X)) (a : A) → adds a [] a → left ≡ all → ShownSent adds f all left a a
shown_begun adds f all left a none whole = record { done = []; split = sym whole; added = none_sent adds a none }

pub shown_step : {X A : Type 0} (adds : A → List Event → A → Type 0) (both : Joins adds) (f : X → Doc) (all left : List (Bor (List ℕ) × Bor X)) (e : Bor (List ℕ) × Bor X) (more : List (Bor (List ℕ) × Bor X)) (a b c z : A) → ShownSent adds f all left a b → left ≡ e ∷ more
    → adds b (key e.0.now ∷ []) c → adds c (events (write (f e.1.now))) z → ShownSent adds f all more a z
shown_step adds both f all left e more a b c z so_far rest names sends =
    record {
      done = so_far.done ++ e ∷ [];
      split = so_far.split ∙ ap (λ r. so_far.done ++ r) rest ∙ sym (append_assoc so_far.done (e ∷ []) more);
      added = added_as adds a z _ _ (ap members_events (shown-last f so_far.done e))
          (joined_sent adds both (shown_members f so_far.done) (member e.0.now (write (f e.1.now)) no_members) a b z so_far.added (member_sent adds both e.0.now (write (f e.1.now)) b c z names sends));
    }

-- all entries
pub shown_all : {X A : Type 0} (adds : A → List Event → A → Type 0) (f : X → Doc) (all left : List (Bor (List ℕ) × Bor X)) (ms : Members) (a b : A) → ShownSent adds f all left a b → left ≡ [] → shown_members f all ≡ ms → adds a (members_events ms) b
shown_all adds f all left ms a b so_far none shows =
    let whole : so_far.done ≡ all = sym (so_far.split ∙ ap (λ r. so_far.done ++ r) none ∙ append-nil so_far.done) in
    added_as adds a b _ _ (ap members_events (ap (shown_members f) whole ∙ shows)) so_far.added
