-- What stands in one tree stands in another that has it in the same slots.
use Rattle.std.proofs.Common.{◌≡◌, ◌∙◌, ℕ, zero, suc, List, [], ◌∷◌, ◌++◌, Bool, true, false, cond, if◌then◌else◌, Option, None, Some, option_and_then, refl, sym, ap, subst, true≢false}
use Rattle.std.proofs.lemmas.Option.{none-some, same_Some}
use Rattle.std.proofs.lemmas.Slice.Eq.{bytes_eq-Decides}
use Rattle.std.specs.Prelude.{IsTrue}
use Rattle.std.specs.Str.{bytes_eq}
use Rattle.serde_json.specs.Data.{Data, null, boolean, number, string, array, object, Items, no_items, item, Members, no_members, member}
use Rattle.serde_json.specs.Find.{get, get_member, at, get_item}
use Rattle.serde_json.specs.Written.{has_float, items_have_float, members_have_float}
use Rattle.utoipa_base.specs.Docs.{Doc, none_doc, map_doc, Docs, no_docs, doc, Entries, no_entries, entry}
use Rattle.utoipa_base.specs.EachMember.{each_member}
use Rattle.utoipa_base.specs.Kinds.{ObjectType, Kind, Row, map_of, defaulted}
use Rattle.utoipa_base.specs.Tables.{row, table}
use Rattle.utoipa_base.specs.WellFormed.{IsUnambiguous, AreUnambiguous}
use Rattle.utoipa_base.specs.Writing.{write, write_entries, left_out}
use Rattle.utoipa_base.proofs.BoolFacts.{or_first, or_second}
use Rattle.utoipa_base.proofs.WrittenMembers.{stands}
use Rattle.utoipa_check.specs.IsDropped.{at_step}
use Rattle.utoipa_check.specs.Has.{Written, Has, HasMembers}
use Rattle.utoipa_check.specs.Misfits.{Step, at_name, at_index}
use Rattle.utoipa_check.specs.Places.{members_at}
use Rattle.utoipa_conflicts.specs.IsConflict.{IsOneOf}
use Rattle.utoipa_conflicts.specs.Same.{is_value}
use Rattle.utoipa_conflicts.specs.Trees.{Place, at_place}
use Rattle.utoipa_conflicts.proofs.Found.{get_first}
use Rattle.utoipa_conflicts.proofs.Listed.{in_first, in_second}
use Rattle.utoipa_conflicts.proofs.SameTrees.{where_whole}
use Rattle.utoipa_merging.specs.Slots.{row_field, field_at}
use Rattle.utoipa_merging.proofs.Shapes.{map_shape, row_at}
use Rattle.utoipa_conflicts.proofs.Written.{IsTable, under_row, field_of_kind}

-- ---- what has all that another tree has

-- whatever has all of a tree stands elsewhere too
abbrev pub Over : Data → Option Data → Type 0
Over e o = (x : Data) → Has e x → Written o (λ w. Has w x)

pub over_same : (e : Data) (o : Option Data) → o ≡ Some e → Over e o
over_same e o is x h = subst (λ p. Written p (λ w. Has w x)) (sym is) h

abbrev pub IsObject : Data → Type 0
IsObject d = (ms : Members) × (d ≡ object ms)

-- what stands under each name of one tree stands under that of the other
abbrev pub EachOver : Data → Data → Type 0
EachOver y z = (k : List ℕ) (e : Data) → get k y ≡ Some e → Over e (get k z)

pub member_over : (o p : Option Data) (x : Data) → ((e : Data) → o ≡ Some e → Over e p) → Written o (λ w. Has w x) → Written p (λ w. Has w x)
member_over None p x f h = absurd h
member_over (Some e) p x f h = f e refl x h

members_over : (y z : Data) → EachOver y z → (ms : Members) → HasMembers y ms → HasMembers z ms
members_over y z s no_members h = tt
members_over y z s (member k d ms) h = (member_over (get k y) (get k z) d (s k) h.0, members_over y z s ms h.1)

pub has_over : (y z : Data) → IsObject y → IsObject z → EachOver y z → (x : Data) → Has y x → Has z x
has_over y z o p s null h = let e : null ≡ object o.0 = sym h ∙ o.1 in cc
has_over y z o p s (boolean b) h = let e : boolean b ≡ object o.0 = sym h ∙ o.1 in cc
has_over y z o p s (number n) h = let e : number h.0 ≡ object o.0 = sym h.1 ∙ o.1 in cc
has_over y z o p s (string t) h = let e : string t ≡ object o.0 = sym h ∙ o.1 in cc
has_over y z o p s (array ds) h = let e : array h.0.0 ≡ object o.0 = sym h.0.1 ∙ o.1 in cc
has_over y z o p s (object ms) h = (p, members_over y z s ms h.1)

pub object_over : (y : Data) (o : Option Data) (z : Data) → o ≡ Some z → IsObject y → IsObject z → EachOver y z → Over y o
object_over y o z is p q s x h = subst (λ r. Written r (λ w. Has w x)) (sym is) (has_over y z p q s x h)

-- what has a member is an object
pub object_by : (k : List ℕ) (d e : Data) → get k d ≡ Some e → IsObject d
object_by k null e h = cc
object_by k (boolean b) e h = cc
object_by k (number n) e h = cc
object_by k (string s) e h = cc
object_by k (array ds) e h = cc
object_by k (object ms) e h = (ms, refl)

-- an object that has some member
abbrev pub IsFilled : Data → Type 0
IsFilled d = (k : List ℕ) × (e : Data) × (get k d ≡ Some e)

some_through : (k : List ℕ) (o : Option Data) (v : Data) → option_and_then (get k) o ≡ Some v → (z : Data) × (o ≡ Some z) × (get k z ≡ Some v)
some_through k None v h = cc
some_through k (Some z) v h = (z, refl, h)

-- a filled map, each of whose entries stands in another place
pub map_over : (y : Data) (o : Option Data) → IsFilled y → ((k : List ℕ) (e : Data) → get k y ≡ Some e → option_and_then (get k) o ≡ Some e) → Over y o
map_over y o filled each =
    let z = some_through filled.0 o filled.1 (each filled.0 filled.1 filled.2) in
    object_over y o z.0 z.1 (object_by filled.0 y filled.1 filled.2) (object_by filled.0 z.0 filled.1 z.2)
    (λ k e is. over_same e (get k z.0) (ap (option_and_then (get k)) (sym z.1) ∙ each k e is))

-- ---- values in slots

-- what a member gives is given by all
by_name : {A : Type 0} (b : Bool) (f : List ℕ → Data → List A) (y : A) (k l : List ℕ) (d e : Data) (ms : Members) → bytes_eq k l ≡ b → cond b (Some d) (get_member k ms) ≡ Some e → IsOneOf y (f k e)
    → (get_member k ms ≡ Some e → IsOneOf y (each_member f ms)) → IsOneOf y (f l d ++ each_member f ms)
by_name true f y k l d e ms same is h later =
    in_first y (f l d) (each_member f ms) (subst (λ n. IsOneOf y (f n d)) ((bytes_eq-Decides k l).0 same) (subst (λ x. IsOneOf y (f k x)) (sym (same_Some d e is)) h))
by_name false f y k l d e ms same is h later = in_second y (f l d) (each_member f ms) (later is)

by_members : {A : Type 0} (f : List ℕ → Data → List A) (y : A) (k : List ℕ) (e : Data) (ms : Members) → get_member k ms ≡ Some e → IsOneOf y (f k e) → IsOneOf y (each_member f ms)
by_members f y k e no_members is h = absurd (none-some e is)
by_members f y k e (member l d ms) is h = by_name (bytes_eq k l) f y k l d e ms refl (sym (get_first k l d ms) ∙ is) h (λ later. by_members f y k e ms later h)

pub by_member : {A : Type 0} (f : List ℕ → Data → List A) (y : A) (k : List ℕ) (d e : Data) → get k d ≡ Some e → IsOneOf y (f k e) → IsOneOf y (each_member f (members_at d))
by_member f y k null e is h = absurd (none-some e is)
by_member f y k (boolean b) e is h = absurd (none-some e is)
by_member f y k (number n) e is h = absurd (none-some e is)
by_member f y k (string s) e is h = absurd (none-some e is)
by_member f y k (array ds) e is h = absurd (none-some e is)
by_member f y k (object ms) e is h = by_members f y k e ms is h

-- ---- trees without fractions

plain_by : (b : Bool) (d e : Data) (o : Option Data) (more : Bool) → cond b (Some d) o ≡ Some e → has_float d ≡ false → (o ≡ Some e → has_float e ≡ false) → has_float e ≡ false
plain_by true d e o more is plain later = ap has_float (sym (same_Some d e is)) ∙ plain
plain_by false d e o more is plain later = later is

plain_members : (k : List ℕ) (e : Data) (ms : Members) → get_member k ms ≡ Some e → members_have_float ms ≡ false → has_float e ≡ false
plain_members k e no_members is plain = absurd (none-some e is)
plain_members k e (member l d ms) is plain =
    plain_by (bytes_eq k l) d e (get_member k ms) true (sym (get_first k l d ms) ∙ is) (or_first (has_float d) (members_have_float ms) plain) (λ later. plain_members k e ms later (or_second (has_float d) (members_have_float ms) plain))

plain_member : (k : List ℕ) (d e : Data) → get k d ≡ Some e → has_float d ≡ false → has_float e ≡ false
plain_member k null e is plain = absurd (none-some e is)
plain_member k (boolean b) e is plain = absurd (none-some e is)
plain_member k (number n) e is plain = absurd (none-some e is)
plain_member k (string s) e is plain = absurd (none-some e is)
plain_member k (array ds) e is plain = absurd (none-some e is)
plain_member k (object ms) e is plain = plain_members k e ms is plain

-- what stands at a place of a tree without fractions
plain_item : (i : ℕ) (ds : Items) (e : Data) → get_item i ds ≡ Some e → items_have_float ds ≡ false → has_float e ≡ false
plain_item i no_items e is plain = absurd (none-some e is)
plain_item zero (item d ds) e is plain = ap has_float (sym (same_Some d e is)) ∙ or_first (has_float d) (items_have_float ds) plain
plain_item (suc i) (item d ds) e is plain = plain_item i ds e is (or_second (has_float d) (items_have_float ds) plain)

plain_step : (s : Step) (d e : Data) → at_step s d ≡ Some e → has_float d ≡ false → has_float e ≡ false
plain_step (at_name k) d e is plain = plain_member k d e is plain
plain_step (at_index i) (array ds) e is plain = plain_item i ds e is plain
plain_step (at_index i) null e is plain = absurd (none-some e is)
plain_step (at_index i) (boolean b) e is plain = absurd (none-some e is)
plain_step (at_index i) (number n) e is plain = absurd (none-some e is)
plain_step (at_index i) (string t) e is plain = absurd (none-some e is)
plain_step (at_index i) (object ms) e is plain = absurd (none-some e is)

plain_through : (s : Step) (ss : Place) (d v : Data) (o : Option Data) → ((x : Data) → at_place ss x ≡ Some v → has_float x ≡ false → has_float v ≡ false) → at_step s d ≡ o → option_and_then (at_place ss) o ≡ Some v
    → has_float d ≡ false → has_float v ≡ false
plain_through s ss d v None later has more plain = absurd (none-some v more)
plain_through s ss d v (Some x) later has more plain = later x more (plain_step s d x has plain)

pub plain_place : (p : Place) (d v : Data) → at_place p d ≡ Some v → has_float d ≡ false → has_float v ≡ false
plain_place [] d v is plain = ap has_float (sym (same_Some d v is)) ∙ plain
plain_place (s ∷ ss) d v is plain = plain_through s ss d v (at_step s d) (λ x. plain_place ss x v) refl is plain

-- the value is what stands there
pub value_is : (v : Data) (o : Option Data) → has_float v ≡ false → IsTrue (is_value v o) → o ≡ Some v
value_is v None plain h = absurd (true≢false (sym h))
value_is v (Some e) plain h = ap Some (sym ((where_whole v e plain).0 h))

-- ---- steps

-- behind a step
pub behind_step : (k : List ℕ) (ss : Place) (d x : Data) → get k d ≡ Some x → at_place (at_name k ∷ ss) d ≡ at_place ss x
behind_step k ss d x is = ap (option_and_then (at_place ss)) is

-- the last steps
pub itself : (o : Option Data) → option_and_then (at_place []) o ≡ o
itself None = refl
itself (Some x) = refl

pub last_of_two : (k n : List ℕ) (d : Data) → at_place (at_name k ∷ at_name n ∷ []) d ≡ option_and_then (get n) (get k d)
last_of_two k n d = through (get k d)
  where
    through : (o : Option Data) → option_and_then (at_place (at_name n ∷ [])) o ≡ option_and_then (get n) o
    through None = refl
    through (Some x) = itself (get n x)

-- ---- written maps and lists

first_entry : (k : List ℕ) (d : Data) (ms : Members) → get_member k (member k d ms) ≡ Some d
first_entry k d ms = get_first k k d ms ∙ ap (λ b. cond b (Some d) (get_member k ms)) ((bytes_eq-Decides k k).1 refl)

filled_by : (es : Entries) (y : Data) → stands (left_out defaulted (map_doc es)) (write (map_doc es)) ≡ Some y → IsFilled y
unfolding write write_entries
filled_by no_entries y is = absurd (none-some y is)
filled_by (entry k d es) y is = (k, write d, ap (get k) (sym (same_Some _ y is)) ∙ first_entry k (write d) (write_entries es))

-- a map that is written has an entry
pub written_filled : (n : ObjectType) (d : Doc) (key : List ℕ) (k : Kind) (y : Data) → IsTable n d → row_at key (table n) ≡ Some (row key defaulted (map_of k)) → get key (write d) ≡ Some y → IsFilled y
written_filled n d key k y t at is =
    let m = map_shape k (field_at key d) (field_of_kind n d key (row key defaulted (map_of k)) t at) in
    filled_by m.0 y (subst (λ f. stands (left_out defaulted f) (write f) ≡ Some y) m.1 (sym (under_row n d key (row key defaulted (map_of k)) t at) ∙ is))

-- the written object of a table
pub table_is_object : (n : ObjectType) (d : Doc) → IsTable n d → IsObject (write d)
unfolding write
table_is_object n d t = subst (λ x. IsObject (write x)) (sym t.is) (_, refl)

-- ---- unambiguous fields

row_clear : (name : List ℕ) (rs : List Row) (ds : Docs) → AreUnambiguous ds → IsUnambiguous (row_field name rs ds)
unfolding IsUnambiguous AreUnambiguous
row_clear name [] ds h = tt
row_clear name (r ∷ rs) no_docs h = here (bytes_eq name r.name) (row_clear name rs no_docs h)
  where
    here : (b : Bool) → IsUnambiguous (row_field name rs no_docs) → IsUnambiguous (if b then none_doc else row_field name rs no_docs)
    here true later = tt
    here false later = later
row_clear name (r ∷ rs) (doc d ds) h = here (bytes_eq name r.name) (row_clear name rs ds h.1)
  where
    here : (b : Bool) → IsUnambiguous (row_field name rs ds) → IsUnambiguous (if b then d else row_field name rs ds)
    here true later = h.0
    here false later = later

pub field_clear : (n : ObjectType) (d : Doc) (name : List ℕ) → IsTable n d → IsUnambiguous (field_at name d)
field_clear n d name t = subst (λ x. IsUnambiguous (field_at name x)) (sym t.is) (row_clear name (table n) t.fields t.clear)
