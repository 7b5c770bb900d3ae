-- A sorted tree is sorted as it is looked at: adapting and upgrading keep the order of names.
use Rattle.std.proofs.Common.{◌++◌, ◌≡◌, ℕ, List, [], ◌∷◌, Bool, true, false, if◌then◌else◌, Option, Some, None, option_map, IfSome, codes, refl, sym, ap, subst, Ordering, Less, Equal, Greater, nat_cmp}
use Rattle.std.proofs.lemmas.Option.{same_Some}
use Rattle.std.specs.List.Sorted.{IsStrictlySortedBy}
use Rattle.std.specs.Ordering.{match_ordering}
use Rattle.std.specs.Cmp.Lexicographic.{slice_cmp}
use Rattle.std.specs.Str.{str_to_ascii_lowercase}
use Rattle.serde_json.specs.Data.{Data, null, boolean, number, string, array, object, Items, no_items, item, Members, no_members, member}
use Rattle.serde_json.specs.Find.{get, get_member}
use Rattle.utoipa_adapt.specs.Adapted.{own_kind, item_kind, member_kind, within, made_items, made_members, made}
use Rattle.utoipa_adapt.specs.Rules.{RuleSet, of_model, of_upgrade, Rule, paths_absent, responses_absent, required_absent, version_of_two, scheme_in_other_case, schema_true, const_alone, items_absent, version_of_3_0, beside_reference, binary_format, byte_format, exclusive_minimum, idle_exclusive_minimum, exclusive_maximum, idle_exclusive_maximum, schema_example, null_in_enum, nullable_type, nullable_reference, idle_nullable, applies, combination, listed, moved, replaced, taken_away, null_type, null_schema, changed, by_rules, rules_in}
use Rattle.utoipa_adapt.specs.Trees.{only_one, without, without_all, put_some, edited, with_member, only_member, with_text, then_item, with_item, list_of_one, list_of_two}
use Rattle.utoipa_base.specs.Kinds.{Kind}
use Rattle.utoipa_merging.specs.Merged.{Ascends, names_in}
use Rattle.utoipa_merging.specs.Sorted.{IsSorted, AreItemsSorted, AreMembersSorted}
use Rattle.utoipa_merging.proofs.SortedTexts.{sorted_put}
use Rattle.utoipa_findings.specs.Sources.{File, is_of_3_0, upgraded_from_3_0, seen, file_tree, tree_of}
use Rattle.utoipa_findings.specs.declared.source.Form.{Form}
use Rattle.utoipa_findings.specs.declared.source.Form.TheVariants.{AsIs, Adapted, Upgraded}
use Rattle.utoipa_findings.proofs.SortedWritten.{IsBelow, got_sorted, text_tree_sorted}

-- ---- members without some

below_without_at : (o : Ordering) (j l : List ℕ) (d : Data) (ms rest : Members) → IsBelow j (names_in (member l d ms)) → IsBelow j (names_in rest) → IsBelow j (names_in (match_ordering o (member l d rest) rest (member l d rest)))
below_without_at Less j l d ms rest b r = (b.0, r)
below_without_at Equal j l d ms rest b r = r
below_without_at Greater j l d ms rest b r = (b.0, r)

below_without : (j name : List ℕ) (ms : Members) → IsBelow j (names_in ms) → IsBelow j (names_in (without name ms))
below_without j name no_members b = tt
below_without j name (member l d ms) b = below_without_at (slice_cmp nat_cmp name l) j l d ms (without name ms) b (below_without j name ms b.1)

without_at : (o : Ordering) (name l : List ℕ) (d : Data) (ms : Members) → IsSorted (object (member l d ms)) → IsSorted (object (without name ms))
    → IsSorted (object (match_ordering o (member l d (without name ms)) (without name ms) (member l d (without name ms))))
unfolding IsStrictlySortedBy
without_at Less name l d ms h r = ((below_without l name ms h.0.0, r.0), (h.1.0, r.1))
without_at Equal name l d ms h r = r
without_at Greater name l d ms h r = ((below_without l name ms h.0.0, r.0), (h.1.0, r.1))

sorted_without : (name : List ℕ) (ms : Members) → IsSorted (object ms) → IsSorted (object (without name ms))
unfolding IsStrictlySortedBy
sorted_without name no_members h = h
sorted_without name (member l d ms) h = without_at (slice_cmp nat_cmp name l) name l d ms h (sorted_without name ms (h.0.1, h.1.1))

sorted_without_all : (names : List (List ℕ)) (ms : Members) → IsSorted (object ms) → IsSorted (object (without_all names ms))
sorted_without_all [] ms h = h
sorted_without_all (name ∷ names) ms h = sorted_without_all names (without name ms) (sorted_without name ms h)

-- ---- what rules make

sorted_some : (name : List ℕ) (o : Option Data) (ms : Members) → IfSome o IsSorted → IsSorted (object ms) → IsSorted (object (put_some name o ms))
sorted_some name None ms g h = h
sorted_some name (Some v) ms g h = sorted_put name v ms g h

edited_sorted : (names : List (List ℕ)) (name : List ℕ) (o : Option Data) (d : Data) → IfSome o IsSorted → IsSorted d → IsSorted (edited names name o d)
edited_sorted names name o null g h = tt
edited_sorted names name o (boolean b) g h = tt
edited_sorted names name o (number n) g h = tt
edited_sorted names name o (string s) g h = tt
edited_sorted names name o (array ds) g h = h
edited_sorted names name o (object ms) g h = sorted_some name o (without_all names ms) g (sorted_without_all names ms h)

with_member_sorted : (name : List ℕ) (v d : Data) → IsSorted v → IsSorted d → IsSorted (with_member name v d)
with_member_sorted name v null g h = tt
with_member_sorted name v (boolean b) g h = tt
with_member_sorted name v (number n) g h = tt
with_member_sorted name v (string s) g h = tt
with_member_sorted name v (array ds) g h = h
with_member_sorted name v (object ms) g h = sorted_put name v ms g h

with_text_sorted : (f : List ℕ → List ℕ) (d : Data) → IsSorted d → IsSorted (with_text f d)
with_text_sorted f null h = tt
with_text_sorted f (boolean b) h = tt
with_text_sorted f (number n) h = tt
with_text_sorted f (string s) h = tt
with_text_sorted f (array ds) h = h
with_text_sorted f (object ms) h = h

empty_sorted : IsSorted (object no_members)
unfolding IsStrictlySortedBy
empty_sorted = (tt, tt)

null_sorted : IsSorted null_schema
unfolding IsStrictlySortedBy
null_sorted = ((tt, tt), (tt, tt))

only_member_sorted : (name : List ℕ) (d : Data) → IsSorted d → IsSorted (only_member name d)
only_member_sorted name null h = tt
only_member_sorted name (boolean b) h = tt
only_member_sorted name (number n) h = tt
only_member_sorted name (string s) h = tt
only_member_sorted name (array ds) h = h
only_member_sorted name (object ms) h = sorted_some name (get_member name ms) no_members (got_sorted name (object ms) h) empty_sorted

-- what is made of a value that may be absent
some_made : (f : Data → Data) (o : Option Data) → ((x : Data) → IsSorted x → IsSorted (f x)) → IfSome o IsSorted → IfSome (option_map f o) IsSorted
some_made f None each g = tt
some_made f (Some x) each g = each x g

then_item_sorted : (ds : Items) (v : Data) → AreItemsSorted ds → IsSorted v → AreItemsSorted (then_item ds v)
then_item_sorted no_items v h g = (g, tt)
then_item_sorted (item d ds) v h g = (h.0, then_item_sorted ds v h.1 g)

with_item_sorted : (v d : Data) → IsSorted v → IsSorted d → IsSorted (with_item v d)
with_item_sorted v null g h = tt
with_item_sorted v (boolean b) g h = tt
with_item_sorted v (number n) g h = tt
with_item_sorted v (string s) g h = tt
with_item_sorted v (array ds) g h = then_item_sorted ds v h g
with_item_sorted v (object ms) g h = h

one_sorted : (x y z : Option Data) → IfSome x IsSorted → IfSome y IsSorted → IfSome z IsSorted → IfSome (only_one x y z) IsSorted
one_sorted (Some x) None None f g h = f
one_sorted None (Some x) None f g h = g
one_sorted None None (Some x) f g h = h
one_sorted None None None f g h = tt
one_sorted (Some x) (Some y) z f g h = tt
one_sorted (Some x) None (Some z) f g h = tt
one_sorted None (Some y) (Some z) f g h = tt

combination_sorted : (d : Data) → IsSorted d → IfSome (combination d) IsSorted
combination_sorted d h =
    one_sorted (get (codes "allOf") d) (get (codes "oneOf") d) (get (codes "anyOf") d) (got_sorted (codes "allOf") d h) (got_sorted (codes "oneOf") d h) (got_sorted (codes "anyOf") d h)

listed_sorted : (from to : List ℕ) (d : Data) → IsSorted d → IsSorted (listed from to d)
listed_sorted from to d h = edited_sorted (from ∷ []) to (option_map list_of_one (get from d)) d (some_made list_of_one (get from d) (λ x s. (s, tt)) (got_sorted from d h)) h

moved_sorted : (from to : List ℕ) (d : Data) → IsSorted d → IsSorted (moved from to d)
moved_sorted from to d h = edited_sorted (from ∷ []) to (get from d) d (got_sorted from d h) h

replaced_sorted : (from to text : List ℕ) (d : Data) → IsSorted d → IsSorted (replaced from to text d)
replaced_sorted from to text d h = edited_sorted (from ∷ []) to (Some (string text)) d tt h

taken_away_sorted : (name : List ℕ) (d : Data) → IsSorted d → IsSorted (taken_away name d)
taken_away_sorted name d h = edited_sorted (name ∷ []) name None d tt h

null_in_enum_sorted : (d : Data) → IsSorted d → IsSorted (changed null_in_enum d)
null_in_enum_sorted d h =
    edited_sorted (codes "enum" ∷ []) (codes "enum") (option_map (with_item null) (get (codes "enum") d)) d
    (some_made (with_item null) (get (codes "enum") d) (λ x s. with_item_sorted null x tt s) (got_sorted (codes "enum") d h)) h

nullable_type_sorted : (d : Data) → IsSorted d → IsSorted (changed nullable_type d)
nullable_type_sorted d h =
    edited_sorted (codes "type" ∷ codes "nullable" ∷ []) (codes "type") (option_map (λ t. list_of_two t null_type) (get (codes "type") d)) d
    (some_made (λ t. list_of_two t null_type) (get (codes "type") d) (λ x s. (s, (tt, tt))) (got_sorted (codes "type") d h)) h

nullable_reference_sorted : (d : Data) → IsSorted d → IsSorted (changed nullable_reference d)
nullable_reference_sorted d h =
    edited_sorted (codes "allOf" ∷ codes "oneOf" ∷ codes "anyOf" ∷ codes "nullable" ∷ []) (codes "anyOf") (option_map (with_item null_schema) (combination d)) d
    (some_made (with_item null_schema) (combination d) (λ x s. with_item_sorted null_schema x null_sorted s) (combination_sorted d h)) h

changed_sorted : (r : Rule) (d : Data) → IsSorted d → IsSorted (changed r d)
changed_sorted paths_absent d h = with_member_sorted (codes "paths") (object no_members) d empty_sorted h
changed_sorted responses_absent d h = with_member_sorted (codes "responses") (object no_members) d empty_sorted h
changed_sorted required_absent d h = with_member_sorted (codes "required") (boolean false) d tt h
changed_sorted version_of_two d h = with_text_sorted (λ s. s ++ codes ".0") d h
changed_sorted scheme_in_other_case d h = with_text_sorted str_to_ascii_lowercase d h
changed_sorted schema_true d h = empty_sorted
changed_sorted const_alone d h = listed_sorted (codes "const") (codes "enum") d h
changed_sorted items_absent d h = with_member_sorted (codes "items") (object no_members) d empty_sorted h
changed_sorted version_of_3_0 d h = with_text_sorted (λ s. codes "3.1.0") d h
changed_sorted beside_reference d h = only_member_sorted (codes "$ref") d h
changed_sorted binary_format d h = replaced_sorted (codes "format") (codes "contentMediaType") (codes "application/octet-stream") d h
changed_sorted byte_format d h = replaced_sorted (codes "format") (codes "contentEncoding") (codes "base64") d h
changed_sorted exclusive_minimum d h = moved_sorted (codes "minimum") (codes "exclusiveMinimum") d h
changed_sorted idle_exclusive_minimum d h = taken_away_sorted (codes "exclusiveMinimum") d h
changed_sorted exclusive_maximum d h = moved_sorted (codes "maximum") (codes "exclusiveMaximum") d h
changed_sorted idle_exclusive_maximum d h = taken_away_sorted (codes "exclusiveMaximum") d h
changed_sorted schema_example d h = listed_sorted (codes "example") (codes "examples") d h
changed_sorted null_in_enum d h = null_in_enum_sorted d h
changed_sorted nullable_type d h = nullable_type_sorted d h
changed_sorted nullable_reference d h = nullable_reference_sorted d h
changed_sorted idle_nullable d h = taken_away_sorted (codes "nullable") d h

rule_sorted : (b : Bool) (r : Rule) (d : Data) → IsSorted d → IsSorted (if b then changed r d else d)
rule_sorted true r d h = changed_sorted r d h
rule_sorted false r d h = h

rules_sorted : (rs : List Rule) (d : Data) → IsSorted d → IsSorted (by_rules rs d)
rules_sorted [] d h = h
rules_sorted (r ∷ rs) d h = rules_sorted rs (if applies r d then changed r d else d) (rule_sorted (applies r d) r d h)

-- ---- trees

names_kept : (set : RuleSet) (ms : Members) (k : Kind) → names_in (made_members set ms k) ≡ names_in ms
names_kept set no_members k = refl
names_kept set (member name d ms) k = ap (λ names. name ∷ names) (names_kept set ms k)

mutual
  within_sorted : (set : RuleSet) (d : Data) (k : Kind) → IsSorted d → IsSorted (within set d k)
  within_sorted set null k h = tt
  within_sorted set (boolean b) k h = tt
  within_sorted set (number n) k h = tt
  within_sorted set (string s) k h = tt
  within_sorted set (array ds) k h = items_sorted set ds (item_kind k) h
  within_sorted set (object ms) k h = (subst Ascends (sym (names_kept set ms k)) h.0, members_sorted set ms k h.1)

  items_sorted : (set : RuleSet) (ds : Items) (k : Kind) → AreItemsSorted ds → AreItemsSorted (made_items set ds k)
  items_sorted set no_items k h = tt
  items_sorted set (item d ds) k h =
      let own = own_kind set k d in
      (rules_sorted (rules_in set own) (within set d own) (within_sorted set d own h.0), items_sorted set ds k h.1)

  members_sorted : (set : RuleSet) (ms : Members) (k : Kind) → AreMembersSorted ms → AreMembersSorted (made_members set ms k)
  members_sorted set no_members k h = tt
  members_sorted set (member name d ms) k h =
      let own = own_kind set (member_kind k name) d in
      (rules_sorted (rules_in set own) (within set d own) (within_sorted set d own h.0), members_sorted set ms k h.1)

made_sorted : (set : RuleSet) (k : Kind) (d : Data) → IsSorted d → IsSorted (made set k d)
made_sorted set k d h = rules_sorted (rules_in set (own_kind set k d)) (within set d (own_kind set k d)) (within_sorted set d (own_kind set k d) h)

upgraded_sorted : (b : Bool) (k : Kind) (d : Data) → IsSorted d → IsSorted (if b then made of_upgrade k d else d)
upgraded_sorted true k d h = made_sorted of_upgrade k d h
upgraded_sorted false k d h = h

pub seen_sorted : (form : Form) (k : Kind) (d : Data) → IsSorted d → IsSorted (seen form k d)
seen_sorted AsIs k d h = h
seen_sorted Adapted k d h = made_sorted of_model k d h
seen_sorted Upgraded k d h = made_sorted of_model k (upgraded_from_3_0 k d) (upgraded_sorted (is_of_3_0 d) k d h)

-- ---- files

behind : (k : Kind) (x : File) (t : Data) (o : Option Data) → tree_of x.1 ≡ o → option_map (seen x.2 k) o ≡ Some t → (r : Data) × (tree_of x.1 ≡ Some r) × (seen x.2 k r ≡ t)
behind k x t None has is = cc
behind k x t (Some r) has is = (r, has, same_Some (seen x.2 k r) t is)

-- the tree of a file's bytes, behind the one that is looked at
pub tree_behind : (k : Kind) (x : File) (t : Data) → file_tree k x ≡ Some t → (r : Data) × (tree_of x.1 ≡ Some r) × (seen x.2 k r ≡ t)
tree_behind k x t is = behind k x t (tree_of x.1) refl is

pub file_tree_sorted : (k : Kind) (x : File) (t : Data) → file_tree k x ≡ Some t → IsSorted t
file_tree_sorted k x t is = let r = tree_behind k x t is in subst IsSorted r.2 (seen_sorted x.2 k r.0 (text_tree_sorted x.1 r.0 r.1))
