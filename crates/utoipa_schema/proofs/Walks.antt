-- The walk that finds the places of a tree, and its way back.
use Rattle.std.proofs.Common.{suc, ◌≡◌, ℕ, ◌+◌, ◌<◌, ◌≤◌, List, [], ◌∷◌, ◌++◌, length, map, Bool, Option, Some, None, true, false, refl, sym, ap, ◌∙◌, subst, arith, append_assoc, codes}
use Rattle.std.proofs.lemmas.List.{reverse-append, length-append, length-map}
use Rattle.serde_json.specs.Data.{Data, null, boolean, number, string, array, object, Items, no_items, item, Members, no_members, member}
use Rattle.serde_json.specs.Find.{get, as_array, as_object}
use Rattle.serde_json.specs.View.{view, items_view, members_view}
use Rattle.serde_json.specs.declared.value.Value.{Value}
use Rattle.serde_json.proofs.Views.{Entry}
use Rattle.utoipa_base.specs.Values.{values, items_values, members_values, values_of, values_at}
use Rattle.utoipa_schema.specs.Places.{Place, Stands, place_at, next_in_list, items_list, elements_of, next_entries, entries_of, elements, entries, alone, part, in_list, in_map, in_one, InnerData, members_of, of_combinations, of_array, of_object, of_content, of_each, inner, total, Reached, Walked}
use Rattle.utoipa_schema.proofs.SchemaMembers.{schema_values}

-- ---- the elements of a list and the values of an object

pub items_list-view : (vs : List Value) → items_list (items_view vs) ≡ map view vs
items_list-view [] = refl
items_list-view (v ∷ vs) = ap (λ ds. view v ∷ ds) (items_list-view vs)

pub elements-array : (b : Bool) (d : Data) (ds : Items) → Some ds ≡ as_array d → elements b d ≡ elements_of b ds
elements-array b null ds e = cc
elements-array b (boolean c) ds e = cc
elements-array b (number n) ds e = cc
elements-array b (string s) ds e = cc
elements-array b (array es) ds e = (let q : es ≡ ds = cc in ap (elements_of b) q)
elements-array b (object ms) ds e = cc

pub entries-object : (b : Bool) (d : Data) (ms : Members) → Some ms ≡ as_object d → entries b d ≡ entries_of b ms
entries-object b null ms e = cc
entries-object b (boolean c) ms e = cc
entries-object b (number n) ms e = cc
entries-object b (string s) ms e = cc
entries-object b (array es) ms e = cc
entries-object b (object ns) ms e = (let q : ns ≡ ms = cc in ap (entries_of b) q)

items_list-length : (vs : List Value) → length (items_list (items_view vs)) ≡ length vs
items_list-length [] = refl
items_list-length (v ∷ vs) = ap (λ n. suc n) (items_list-length vs)

elements_of-length : (b : Bool) (vs : List Value) → length (elements_of b (items_view vs)) ≡ length vs
elements_of-length b [] = refl
elements_of-length b (v ∷ vs) = ap (λ n. suc n) (length-map (items_list (items_view vs)) (place_at b next_in_list) ∙ items_list-length vs)

pub elements_length : (b : Bool) (d : Data) (vs : List Value) → Some (items_view vs) ≡ as_array d → length (elements b d) ≡ length vs
elements_length b d vs is = ap length (elements-array b d (items_view vs) is) ∙ elements_of-length b vs

next_entries-length : (b : Bool) (es : List Entry) → length (next_entries b (members_view es)) ≡ length es
next_entries-length b [] = refl
next_entries-length b (e ∷ es) = ap (λ n. suc n) (next_entries-length b es)

entries_of-length : (b : Bool) (es : List Entry) → length (entries_of b (members_view es)) ≡ length es
entries_of-length b [] = refl
entries_of-length b (e ∷ es) = ap (λ n. suc n) (next_entries-length b es)

pub entries_length : (b : Bool) (d : Data) (es : List Entry) → Some (members_view es) ≡ as_object d → length (entries b d) ≡ length es
entries_length b d es is = ap length (entries-object b d (members_view es) is) ∙ entries_of-length b es

-- ---- values

pub total-append : (xs ys : List Place) → total (xs ++ ys) ≡ total xs + total ys
unfolding total
total-append [] ys = omega arith
total-append (x ∷ xs) ys = omega (arith, total-append xs ys)

pub total-last : (xs : List Place) (p : Place) → total (xs ++ p ∷ []) ≡ total xs + values p.tree
unfolding total
total-last xs p = total-append xs (p ∷ []) ∙ omega arith

pub total-one : (p : Place) → total (p ∷ []) ≡ values p.tree
unfolding total
total-one p = omega arith

total-items : (b : Bool) (s : Stands) (ds : Items) → total (map (place_at b s) (items_list ds)) ≡ items_values ds
unfolding total values items_values
total-items b s no_items = refl
total-items b s (item d ds) = ap (λ n. values d + n) (total-items b s ds)

total-elements : (b : Bool) (ds : Items) → total (elements_of b ds) ≡ items_values ds
unfolding total values items_values
total-elements b no_items = refl
total-elements b (item d ds) = ap (λ n. values d + n) (total-items b next_in_list ds)

total-next : (b : Bool) (ms : Members) → total (next_entries b ms) ≡ members_values ms
unfolding total values members_values
total-next b no_members = refl
total-next b (member k d ms) = ap (λ n. values d + n) (total-next b ms)

total-entries : (b : Bool) (ms : Members) → total (entries_of b ms) ≡ members_values ms
unfolding total values members_values
total-entries b no_members = refl
total-entries b (member k d ms) = ap (λ n. values d + n) (total-next b ms)

pub elements_fewer : (b : Bool) (d : Data) → total (elements b d) ≤ values d
unfolding total values
elements_fewer b null = omega arith
elements_fewer b (boolean c) = omega arith
elements_fewer b (number n) = omega arith
elements_fewer b (string s) = omega arith
elements_fewer b (array ds) = omega (arith, total-elements b ds)
elements_fewer b (object ms) = omega arith

pub entries_fewer : (b : Bool) (d : Data) → total (entries b d) ≤ values d
unfolding total values
entries_fewer b null = omega arith
entries_fewer b (boolean c) = omega arith
entries_fewer b (number n) = omega arith
entries_fewer b (string s) = omega arith
entries_fewer b (array ds) = omega arith
entries_fewer b (object ms) = omega (arith, total-entries b ms)

pub alone_fewer : (b : Bool) (d : Data) → total (alone b d) ≤ values d
unfolding total values
alone_fewer b null = omega arith
alone_fewer b (boolean c) = omega arith
alone_fewer b (number n) = omega arith
alone_fewer b (string s) = omega arith
alone_fewer b (array ds) = omega arith
alone_fewer b (object ms) = omega arith

part_fewer : (f : Data → List Place) → ((d : Data) → total (f d) ≤ values d) → (o : Option Data) → total (part f o) ≤ values_of o
unfolding total values_of
part_fewer f h None = omega arith
part_fewer f h (Some d) = h d

pub list_fewer : (b : Bool) (name : List ℕ) (d : Data) → total (in_list b name d) ≤ values_at name d
list_fewer b name d = part_fewer (elements b) (elements_fewer b) (get name d)

pub map_fewer : (b : Bool) (name : List ℕ) (d : Data) → total (in_map b name d) ≤ values_at name d
map_fewer b name d = part_fewer (entries b) (entries_fewer b) (get name d)

pub one_fewer : (b : Bool) (name : List ℕ) (d : Data) → total (in_one b name d) ≤ values_at name d
one_fewer b name d = part_fewer (alone b) (alone_fewer b) (get name d)

pub combinations_fewer : (d : Data) → total (of_combinations (members_of d)) ≤ values_at (codes "oneOf") d + (values_at (codes "allOf") d + values_at (codes "anyOf") d)
unfolding of_combinations
combinations_fewer d =
    let a = in_list true (codes "oneOf") d in
    let b = in_list true (codes "allOf") d in
    let c = in_list true (codes "anyOf") d in
    omega (arith, total-append a (b ++ c), total-append b c, list_fewer true (codes "oneOf") d, list_fewer true (codes "allOf") d, list_fewer true (codes "anyOf") d)

pub array_fewer : (d : Data) → total (of_array (members_of d)) ≤ values_at (codes "items") d + values_at (codes "prefixItems") d
unfolding of_array
array_fewer d =
    let a = in_one true (codes "items") d in
    let b = in_list false (codes "prefixItems") d in
    omega (arith, total-append a b, one_fewer true (codes "items") d, list_fewer false (codes "prefixItems") d)

pub object_fewer : (d : Data) → total (of_object (members_of d)) ≤ values_at (codes "properties") d + (values_at (codes "additionalProperties") d + values_at (codes "propertyNames") d)
unfolding of_object
object_fewer d =
    let a = in_map true (codes "properties") d in
    let b = in_one true (codes "additionalProperties") d in
    let c = in_one false (codes "propertyNames") d in
    omega (arith, total-append a (b ++ c), total-append b c, map_fewer true (codes "properties") d, one_fewer true (codes "additionalProperties") d, one_fewer false (codes "propertyNames") d)

-- the inner places have together fewer values than the tree
pub inner_fewer : (d : Data) → total (inner d) < values d
unfolding of_each
inner_fewer d =
    let a = of_combinations (members_of d) in
    let b = of_array (members_of d) in
    let c = of_object (members_of d) in
    let e = of_content (members_of d) in
    omega (arith, schema_values d, total-append a (b ++ (c ++ e)), total-append b (c ++ e), total-append c e, combinations_fewer d, array_fewer d, object_fewer d, one_fewer true (codes "contentSchema") d)

-- ---- the walk

pub at_roots : (roots : List Place) → Walked roots [] roots
unfolding Reached
at_roots roots = refl

-- one more row, and its inner places on the stack
pub visit : (roots : List Place) (p : Place) (table rest : List Place) → Walked roots table (rest ++ p ∷ []) → Walked roots (table ++ p ∷ []) (rest ++ inner p.tree)
unfolding Reached
visit roots p table rest h = rw (reverse-append table (p ∷ [])) (rest, refl, h)

-- the way back: the last row's inner places are at the end of the stack, and it takes their place
pub unvisit : (roots : List Place) (p : Place) (table stack : List Place) → Walked roots (table ++ p ∷ []) stack → (rest : List Place) × (stack ≡ rest ++ inner p.tree) × Walked roots table (rest ++ p ∷ [])
unfolding Reached
unvisit roots p table stack h = rw (reverse-append table (p ∷ [])) at h

pub end : (roots stack : List Place) → Walked roots [] stack → stack ≡ roots
unfolding Reached
end roots stack h = h

-- what the walk has come to: its table, and the places on its stack
pub record Walking (roots table stack : List Place) : Type 0 where
  pub walked : Walked roots table stack
  pub few : length table + total stack ≤ total roots

pub walking_begun : (roots table : List Place) → table ≡ [] → Walking roots table roots
walking_begun roots table none =
    record {
      walked = subst (λ t. Walked roots t roots) (sym none) (at_roots roots);
      few = omega (arith, ap length none);
    }

-- the place at the end of the stack is one more row, and its inner places are put there
pub walking_step : (roots table new : List Place) (p : Place) (stack rest more : List Place) → Walking roots table stack → stack ≡ rest ++ p ∷ [] → more ≡ rest ++ inner p.tree → new ≡ table ++ p ∷ []
    → Walking roots new more
walking_step roots table new p stack rest more so_far before put pushed =
    let was = subst (λ s. Walked roots table s) before so_far.walked in
    let now = visit roots p table rest was in
    let longer : length new ≡ length table + 1 = ap length pushed ∙ length-append table (p ∷ []) in
    record {
      walked = subst (λ s. Walked roots new s) (sym put) (subst (λ t. Walked roots t (rest ++ inner p.tree)) (sym pushed) now);
      few = omega (arith, so_far.few, ap total before, total-last rest p, ap total put, total-append rest (inner p.tree), inner_fewer p.tree, longer);
    }

pub each-parts : (m : InnerData) → of_each m ≡ of_combinations m ++ (of_array m ++ (of_object m ++ of_content m))
unfolding of_each
each-parts m = refl

pub combinations-parts : (m : InnerData) → of_combinations m ≡ part (elements true) m.one_of ++ (part (elements true) m.all_of ++ part (elements true) m.any_of)
unfolding of_combinations
combinations-parts m = refl

pub array-parts : (m : InnerData) → of_array m ≡ part (alone true) m.items ++ part (elements false) m.prefix_items
unfolding of_array
array-parts m = refl

pub object-parts : (m : InnerData) → of_object m ≡ part (entries true) m.properties ++ (part (alone true) m.additional_properties ++ part (alone false) m.property_names)
unfolding of_object
object-parts m = refl

-- parts put on the stack after one another
pub joined_two : {X : Type 0} (s a b x y : List X) → x ≡ s ++ a → y ≡ x ++ b → y ≡ s ++ (a ++ b)
joined_two s a b x y ex ey = ey ∙ ap (λ l. l ++ b) ex ∙ append_assoc s a b

pub joined_three : {X : Type 0} (s a b c x y z : List X) → x ≡ s ++ a → y ≡ x ++ b → z ≡ y ++ c → z ≡ s ++ (a ++ (b ++ c))
joined_three s a b c x y z ex ey ez = joined_two s a (b ++ c) x z ex (joined_two x b c y z ey ez)
