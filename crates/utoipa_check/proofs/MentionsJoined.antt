-- What was mentioned inside a list or a map, joined.
use Rattle.std.proofs.Common.{◌≡◌, ℕ, suc, List, ◌∷◌, ◌++◌, Bool, true, false, cond, not, None, Some, true≢false, refl, sym, ap, ◌∙◌}
use Rattle.serde_json.specs.Data.{Data, Items, no_items, item, Members, no_members, member}
use Rattle.utoipa_base.specs.Extensions.{is_extension}
use Rattle.utoipa_base.specs.Kinds.{Kind, list_of, map_of, ordered_map_of, entries_of}
use Rattle.utoipa_check.specs.Misfits.{at_name, at_index, Checks}
use Rattle.utoipa_check.specs.Places.{of_kind, Place, items_places, array_places, item_target, items_at, and_place, members_places, each_member, each_entry, object_places, kind_layout, members_at}
use Rattle.utoipa_check.specs.Mentioned.{all_mentioned, joined}
use Rattle.utoipa_check.specs.References.{Mentions, Mentioner, Mentioners, under, mentioner, mentioners, entry_mentioners, item_mentioners, items_mentions, entries_mentions, requirement_mentions, is_scope_list, array_mentions, object_mentions}

-- ---- lists

items_mentioned : (k : Kind) (i : ℕ) (ds : Items) → joined (all_mentioned (items_places (of_kind k) i ds)) ≡ items_mentions i k (item_mentioners ds)
unfolding item_mentioners
items_mentioned k i no_items = refl
items_mentioned k i (item d ds) = ap (λ ms. under (at_index i) (mentioner d k) ++ ms) (items_mentioned k (suc i) ds)

abbrev pub is_list_of : Kind → Bool
is_list_of (list_of k) = true
is_list_of k = false

pub list_mentioned : (k : Kind) (d : Data) → is_list_of k ≡ true → joined (all_mentioned (array_places (item_target (of_kind k)) (items_at d))) ≡ array_mentions (item_mentioners (items_at d)) k
list_mentioned (list_of k) d e = items_mentioned k 0 (items_at d)
list_mentioned k d e = absurd (true≢false (sym e))

-- ---- maps

members_mentioned : (k : Kind) (ms : Members) → joined (all_mentioned (members_places (each_member (of_kind k)) ms)) ≡ entries_mentions k (mentioners ms)
unfolding mentioners
members_mentioned k no_members = refl
members_mentioned k (member name d ms) = ap (λ xs. under (at_name name) (mentioner d k) ++ xs) (members_mentioned k ms)

one_entry : (b : Bool) (k : Kind) (name : List ℕ) (d : Data) (ps : List Place) (f : List ℕ × Mentioner) (fs : Mentioners) → f.0 ≡ name → f.1 k ≡ mentioner d k → joined (all_mentioned ps) ≡ entries_mentions k fs
    → joined (all_mentioned (and_place (cond b None (Some (of_kind k))) name d ps)) ≡ entries_mentions k (cond b fs (f ∷ fs))
one_entry true k name d ps f fs same is rest = rest
one_entry false k name d ps f fs same is rest = ap (λ xs. under (at_name name) (mentioner d k) ++ xs) rest ∙ ap (λ xs. under (at_name name) xs ++ entries_mentions k fs) (sym is) ∙ ap (λ n. under (at_name n) (f.1 k) ++ entries_mentions k fs) (sym same)

entries_mentioned : (k : Kind) (ms : Members) → joined (all_mentioned (members_places (each_entry (of_kind k)) ms)) ≡ entries_mentions k (entry_mentioners (mentioners ms))
unfolding mentioners
entries_mentioned k no_members = refl
entries_mentioned k (member name d ms) = one_entry (is_extension name) k name d (members_places (each_entry (of_kind k)) ms) _ (entry_mentioners (mentioners ms)) refl refl (entries_mentioned k ms)

other_entries : (b : Bool) (names entries : Mentions) → not b ≡ true → entries ≡ cond b names entries
other_entries true names entries e = absurd (true≢false (sym e))
other_entries false names entries e = refl

-- whether what an object of a kind mentions is all that its members mention
abbrev pub is_entry_map : Kind → Bool
is_entry_map (map_of k) = not (is_scope_list k)
is_entry_map (ordered_map_of k) = true
is_entry_map (entries_of k) = true
is_entry_map k = false

pub map_mentioned : (k : Kind) (cs : Checks) (d : Data) → is_entry_map k ≡ true → joined (all_mentioned (object_places (kind_layout k (members_at d)) d)) ≡ object_mentions (members_at d) cs (mentioners (members_at d)) k
map_mentioned (map_of k) cs d e = members_mentioned k (members_at d) ∙ other_entries (is_scope_list k) (requirement_mentions (members_at d)) (entries_mentions k (mentioners (members_at d))) e
map_mentioned (ordered_map_of k) cs d e = members_mentioned k (members_at d)
map_mentioned (entries_of k) cs d e = entries_mentioned k (members_at d)
map_mentioned k cs d e = absurd (true≢false (sym e))
