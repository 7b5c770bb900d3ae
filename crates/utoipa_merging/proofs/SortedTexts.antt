-- The tree of a text is sorted, since its members go in one after another, each to its place.
use Rattle.std.proofs.Common.{◌≡◌, ℕ, List, [], ◌∷◌, Option, Some, None, IfSome, option_map, option_and_then, refl, ap, ◌∙◌, Ordering, Less, Equal, Greater, nat_cmp}
use Rattle.std.specs.Ordering.{match_ordering, ordering_reverse}
use Rattle.std.specs.Cmp.Lexicographic.{slice_cmp}
use Rattle.std.specs.List.{AllByRecursion}
use Rattle.std.specs.List.Sorted.{IsStrictlySortedBy}
use Rattle.std.proofs.lemmas.Cmp.{nat_list_cmp_total}
use Rattle.json.specs.Lex.{tokens}
use Rattle.json.specs.Json as json
use Rattle.serde_json.specs.Data.{Data, number, array, object, Items, item, Members, no_members, member, put}
use Rattle.serde_json.specs.Read.{number_of, of_json, of_items, of_members, max_depth, read}
use Rattle.utoipa_base.proofs.Results.{if_is, if_map, if_made, if_then}
use Rattle.utoipa_merging.specs.Merged.{names_in}
use Rattle.utoipa_merging.specs.Sorted.{IsSorted, AreItemsSorted}

-- ---- a member that is put

-- the name comes before all of these
abbrev IsBelow : List ℕ → List (List ℕ) → Type 0
IsBelow k names = AllByRecursion (λ l. slice_cmp nat_cmp k l ≡ Less) names

-- a name before one that comes before all
below_all : (k l : List ℕ) (names : List (List ℕ)) → slice_cmp nat_cmp k l ≡ Less → IsBelow l names → IsBelow k names
below_all k l [] h b = tt
below_all k l (m ∷ names) h b = (nat_list_cmp_total.trans k l m h b.0, below_all k l names h b.1)

-- what comes after, comes before when turned
before : (k l : List ℕ) → slice_cmp nat_cmp k l ≡ Greater → slice_cmp nat_cmp l k ≡ Less
before k l h = nat_list_cmp_total.antisymm l k ∙ ap ordering_reverse h

-- a name before all, and before one more, by the place of that one
below_put_at : (o : Ordering) (j k l : List ℕ) (d e : Data) (ms : Members) → slice_cmp nat_cmp j k ≡ Less → IsBelow j (names_in (member l e ms)) → IsBelow j (names_in (put k d ms))
    → IsBelow j (names_in (match_ordering o (member k d (member l e ms)) (member l d ms) (member l e (put k d ms))))
below_put_at Less j k l d e ms h b p = (h, b)
below_put_at Equal j k l d e ms h b p = b
below_put_at Greater j k l d e ms h b p = (b.0, p)

-- a name before all, and before one more
below_put : (j k : List ℕ) (d : Data) (ms : Members) → slice_cmp nat_cmp j k ≡ Less → IsBelow j (names_in ms) → IsBelow j (names_in (put k d ms))
below_put j k d no_members h b = (h, tt)
below_put j k d (member l e ms) h b = below_put_at (slice_cmp nat_cmp k l) j k l d e ms h b (below_put j k d ms h b.1)

-- a sorted object with one more member, by its place
sorted_put_at : (o : Ordering) (k l : List ℕ) (d e : Data) (ms : Members) → slice_cmp nat_cmp k l ≡ o → IsSorted d → IsSorted (object (member l e ms)) → IsSorted (object (put k d ms))
    → IsSorted (object (match_ordering o (member k d (member l e ms)) (member l d ms) (member l e (put k d ms))))
unfolding IsStrictlySortedBy
sorted_put_at Less k l d e ms is h s p = (((is, below_all k l (names_in ms) is s.0.0), s.0), (h, s.1))
sorted_put_at Equal k l d e ms is h s p = (s.0, (h, s.1.1))
sorted_put_at Greater k l d e ms is h s p = ((below_put l k d ms (before k l is) s.0.0, p.0), (s.1.0, p.1))

-- a sorted object with one more member
pub sorted_put : (k : List ℕ) (d : Data) (ms : Members) → IsSorted d → IsSorted (object ms) → IsSorted (object (put k d ms))
unfolding IsStrictlySortedBy
sorted_put k d no_members h s = ((tt, tt), (h, tt))
sorted_put k d (member l e ms) h s = sorted_put_at (slice_cmp nat_cmp k l) k l d e ms refl h s (sorted_put k d ms h (s.0.1, s.1.1))

-- ---- trees, by the grammar

-- an item and the others
item_and_others : (o : Option Data) (p : Option Items) → IfSome o IsSorted → IfSome p AreItemsSorted → IfSome (option_and_then (λ d. option_map (item d) p) o) AreItemsSorted
item_and_others None p g h = tt
item_and_others (Some d) p g h = if_map AreItemsSorted AreItemsSorted (item d) (λ ds k. (g, k)) p h

-- the other members, once this one was put
member_and_others : (f : Data → Option Members) (o : Option Data) → IfSome o IsSorted → ((d : Data) → IsSorted d → IfSome (f d) (λ ms. IsSorted (object ms))) → IfSome (option_and_then f o) (λ ms. IsSorted (object ms))
member_and_others f None g h = tt
member_and_others f (Some d) g h = h d g

mutual
  unfolding IsStrictlySortedBy

  -- the tree of a value
  tree_sorted : (j : json.Json) → IfSome (of_json j) IsSorted
  tree_sorted json.null = tt
  tree_sorted (json.boolean b) = tt
  tree_sorted (json.number s) = if_made IsSorted number (λ n. tt) (number_of s)
  tree_sorted (json.string s) = tt
  tree_sorted (json.array js) = if_map AreItemsSorted IsSorted array (λ ds h. h) (of_items js) (items_sorted js)
  tree_sorted (json.object ms) = if_map (λ ns. IsSorted (object ns)) IsSorted object (λ ns h. h) (of_members ms no_members) (members_sorted ms no_members (tt, tt))

  -- the trees of an array's values
  items_sorted : (js : json.Items) → IfSome (of_items js) AreItemsSorted
  items_sorted json.no_items = tt
  items_sorted (json.item j js) = item_and_others (of_json j) (of_items js) (tree_sorted j) (items_sorted js)

  -- an object's members, which go in beside those that were found before
  members_sorted : (ms : json.Members) (found : Members) → IsSorted (object found) → IfSome (of_members ms found) (λ ns. IsSorted (object ns))
  members_sorted json.no_members found h = h
  members_sorted (json.member k j ms) found h =
      member_and_others (λ d. of_members ms (put k d found)) (of_json j) (tree_sorted j) (λ d g. members_sorted ms (put k d found) (sorted_put k d found g h))

-- the tree of a text
pub text_sorted : (text : List ℕ) (tree : Data) → read text ≡ Some tree → IsSorted tree
text_sorted text tree e =
    if_is IsSorted (read text) tree (if_then IsSorted of_json tree_sorted (option_and_then (λ p. json.if_last p.0 p.1) (json.value max_depth (tokens text)))) e
