-- The places inside a tree have together fewer values than the tree.
use Rattle.std.proofs.Common.{◌≡◌, ℕ, suc, ◌+◌, ◌<◌, ◌≤◌, List, [], ◌∷◌, ◌++◌, Bool, true, ◌||◌, Option, None, Some, refl, ap, ◌∙◌, arith}
use Rattle.std.specs.Str.{bytes_eq}
use Rattle.serde_json.specs.Data.{Data, null, boolean, number, string, array, object, Items, no_items, item, Members, no_members, member}
use Rattle.serde_json.specs.Find.{get}
use Rattle.utoipa_base.specs.Kinds.{Kind, ref_or, named, schema, array_items, additional_properties, security_scheme, api_key, Row}
use Rattle.utoipa_base.specs.Tables.{table}
use Rattle.utoipa_base.specs.Values.{values, items_values, members_values, values_of, names_values, is_one_of, are_distinct}
use Rattle.utoipa_base.proofs.TableNames.{is_row, are_apart, table_apart, first_once, others_apart}
use Rattle.utoipa_base.proofs.Values.{names_fewer}
use Rattle.utoipa_tables.specs.Tables.{members_in}
use Rattle.utoipa_check.specs.Places.{Target, of_kind, any_flow, no_fraction, Place, places_values, items_places, array_places, item_target, Layout, nothing, each_member, each_entry, each_flow, some_members, target_at, and_place, members_places, field_places, fields_places, object_places, alternative_layout, scheme_layout, kind_layout, layout, inner_places}

pub places_values_join : (ps qs : List Place) → places_values (ps ++ qs) ≡ places_values ps + places_values qs
places_values_join [] qs = omega arith
places_values_join (p ∷ ps) qs = omega (arith, places_values_join ps qs)

-- ---- items and members

items_values_as : (t : Target) (i : ℕ) (ds : Items) → places_values (items_places t i ds) ≡ items_values ds
unfolding items_values
items_values_as t i no_items = refl
items_values_as t i (item d ds) = ap (λ n. values d + n) (items_values_as t (suc i) ds)

and_place_most : (o : Option Target) (name : List ℕ) (d : Data) (ps : List Place) → places_values (and_place o name d ps) ≤ values d + places_values ps
and_place_most None name d ps = omega arith
and_place_most (Some t) name d ps = omega arith

members_most : (l : Layout) (ms : Members) → places_values (members_places l ms) ≤ members_values ms
unfolding members_values
members_most l no_members = omega arith
members_most l (member name d ms) = omega (arith, and_place_most (target_at l name) name d (members_places l ms), members_most l ms)

-- ---- the members of some names

abbrev field_names : List (List ℕ × Kind) → List (List ℕ)
field_names [] = []
field_names (f ∷ fs) = f.0 ∷ field_names fs

field_values : (name : List ℕ) (k : Kind) (o : Option Data) → places_values (field_places name k o) ≡ values_of o
unfolding values_of
field_values name k None = refl
field_values name k (Some d) = omega arith

fields_values : (fs : List (List ℕ × Kind)) (d : Data) → places_values (fields_places fs d) ≡ names_values (field_names fs) d
fields_values [] d = refl
fields_values (f ∷ fs) d =
    places_values_join (field_places f.0 f.1 (get f.0 d)) (fields_places fs d) ∙ ap (λ n. n + places_values (fields_places fs d)) (field_values f.0 f.1 (get f.0 d)) ∙ ap (λ n. values_of (get f.0 d) + n) (fields_values fs d)

unnamed : (name : List ℕ) (rs : List Row) → is_one_of name (field_names (members_in rs)) ≡ is_row name rs
unnamed name [] = refl
unnamed name (r ∷ rs) = ap (λ b. bytes_eq name r.name || b) (unnamed name rs)

distinct_names : (rs : List Row) → are_apart rs ≡ true → are_distinct (field_names (members_in rs)) ≡ true
distinct_names [] h = refl
distinct_names (r ∷ rs) h = rw (unnamed r.name rs ∙ first_once r rs h) (distinct_names rs (others_apart r rs h))

-- whether the names of a layout are distinct, if it has some
abbrev names_distinct : Layout → Bool
names_distinct (some_members fs) = are_distinct (field_names fs)
names_distinct l = true

alternative_distinct : (o : Option Kind) → names_distinct (alternative_layout o) ≡ true
alternative_distinct None = refl
alternative_distinct (Some (named n)) = distinct_names (table n) (table_apart n)
alternative_distinct (Some k) = refl

scheme_distinct : (o : Option Kind) (ms : Members) → names_distinct (scheme_layout o ms) ≡ true
scheme_distinct None ms = refl
scheme_distinct (Some api_key) ms = alternative_distinct _
scheme_distinct (Some (named n)) ms = distinct_names (table n) (table_apart n)
scheme_distinct (Some k) ms = refl

kind_distinct : (k : Kind) (ms : Members) → names_distinct (kind_layout k ms) ≡ true
kind_distinct (ref_or k) ms = kind_distinct k ms
kind_distinct (named n) ms = distinct_names (table n) (table_apart n)
kind_distinct schema ms = refl
kind_distinct array_items ms = refl
kind_distinct additional_properties ms = refl
kind_distinct security_scheme ms = scheme_distinct _ ms
kind_distinct api_key ms = alternative_distinct _
kind_distinct k ms = refl

layout_distinct : (t : Target) (ms : Members) → names_distinct (layout t ms) ≡ true
layout_distinct (of_kind k) ms = kind_distinct k ms
layout_distinct any_flow ms = refl
layout_distinct no_fraction ms = refl

-- ---- trees

object_fewer : (l : Layout) (ms : Members) → names_distinct l ≡ true → places_values (object_places l (object ms)) < values (object ms)
unfolding values
object_fewer nothing ms h = omega (arith, members_most nothing ms)
object_fewer (each_member t) ms h = omega (arith, members_most (each_member t) ms)
object_fewer (each_entry t) ms h = omega (arith, members_most (each_entry t) ms)
object_fewer each_flow ms h = omega (arith, members_most each_flow ms)
object_fewer (some_members fs) ms h = omega (arith, fields_values fs (object ms), names_fewer (field_names fs) (object ms) h)

array_fewer : (o : Option Target) (ds : Items) → places_values (array_places o ds) < values (array ds)
unfolding values
array_fewer None ds = omega arith
array_fewer (Some t) ds = omega (arith, items_values_as t 0 ds)

pub inner_fewer : (t : Target) (d : Data) → places_values (inner_places t d) < values d
unfolding values
inner_fewer t null = omega arith
inner_fewer t (boolean b) = omega arith
inner_fewer t (number n) = omega arith
inner_fewer t (string s) = omega arith
inner_fewer t (array ds) = array_fewer (item_target t) ds
inner_fewer t (object ms) = object_fewer (layout t ms) ms (layout_distinct t ms)
