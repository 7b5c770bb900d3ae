-- What is in doubt inside a list or a map, joined.
use Rattle.std.proofs.Common.{◌≡◌, ℕ, suc, List, ◌∷◌, ◌++◌, Bool, true, false, cond, Option, None, Some, true≢false, refl, sym, ap, ◌∙◌}
use Rattle.serde_json.specs.Data.{Data, Items, no_items, item, Members, no_members, member}
use Rattle.utoipa_base.specs.Extensions.{is_extension}
use Rattle.utoipa_base.specs.Choices.{chosen, flow_keys}
use Rattle.utoipa_base.specs.Kinds.{ObjectType, Kind, list_of, map_of, ordered_map_of, entries_of, flows}
use Rattle.utoipa_check.specs.Doubted.{target_doubts, all_doubted}
use Rattle.utoipa_check.specs.Doubts.{flow_doubts, flows_doubts, doubter, doubters, item_doubters, array_doubts, own_doubts}
use Rattle.utoipa_check.specs.Misfits.{at_name, at_index, Check, Checks, under, entry_checks, items_misfits, entries_misfits, checker, checks}
use Rattle.utoipa_check.specs.Places.{of_kind, Place, joined, items_places, array_places, item_target, items_at, and_place, members_places, each_member, each_entry, each_flow, flow_target, object_places, kind_layout, members_at}

-- ---- lists

items_doubted : (k : Kind) (i : ℕ) (ds : Items) → joined (all_doubted (items_places (of_kind k) i ds)) ≡ items_misfits i k (item_doubters ds)
unfolding item_doubters
items_doubted k i no_items = refl
items_doubted k i (item d ds) = ap (λ ms. under (at_index i) (doubter d k) ++ ms) (items_doubted k (suc i) ds)

abbrev pub is_list_of : Kind → Bool
is_list_of (list_of k) = true
is_list_of k = false

pub list_doubted : (k : Kind) (d : Data) → is_list_of k ≡ true → joined (all_doubted (array_places (item_target (of_kind k)) (items_at d))) ≡ array_doubts (item_doubters (items_at d)) k
list_doubted (list_of k) d e = items_doubted k 0 (items_at d)
list_doubted k d e = absurd (true≢false (sym e))

-- ---- maps

members_doubted : (k : Kind) (ms : Members) → joined (all_doubted (members_places (each_member (of_kind k)) ms)) ≡ entries_misfits k (doubters ms)
unfolding doubters
members_doubted k no_members = refl
members_doubted k (member name d ms) = ap (λ xs. under (at_name name) (doubter d k) ++ xs) (members_doubted k ms)

one_entry : (b : Bool) (k : Kind) (name : List ℕ) (d : Data) (ps : List Place) (c : List ℕ × Check) (cs : Checks) → c.0 ≡ name → c.1.1 k ≡ doubter d k → joined (all_doubted ps) ≡ entries_misfits k cs
    → joined (all_doubted (and_place (cond b None (Some (of_kind k))) name d ps)) ≡ entries_misfits k (cond b cs (c ∷ cs))
one_entry true k name d ps c cs same is rest = rest
one_entry false k name d ps c cs same is rest = ap (λ xs. under (at_name name) (doubter d k) ++ xs) rest ∙ ap (λ xs. under (at_name name) xs ++ entries_misfits k cs) (sym is) ∙ ap (λ n. under (at_name n) (c.1.1 k) ++ entries_misfits k cs) (sym same)

entries_doubted : (k : Kind) (ms : Members) → joined (all_doubted (members_places (each_entry (of_kind k)) ms)) ≡ entries_misfits k (entry_checks (doubters ms))
unfolding doubters
entries_doubted k no_members = refl
entries_doubted k (member name d ms) = one_entry (is_extension name) k name d (members_places (each_entry (of_kind k)) ms) _ (entry_checks (doubters ms)) refl refl (entries_doubted k ms)

flow_doubted : (o : Option ObjectType) (d : Data) → target_doubts (flow_target o) d ≡ flow_doubts o (checker d) (doubter d)
flow_doubted None d = refl
flow_doubted (Some n) d = refl

flows_doubted : (ms : Members) → joined (all_doubted (members_places each_flow ms)) ≡ flows_doubts (checks ms) (doubters ms)
unfolding doubters checks
flows_doubted no_members = refl
flows_doubted (member name d ms) =
    ap (λ xs. under (at_name name) (target_doubts (flow_target (chosen name flow_keys)) d) ++ xs) (flows_doubted ms)
    ∙ ap (λ xs. under (at_name name) xs ++ flows_doubts (checks ms) (doubters ms)) (flow_doubted (chosen name flow_keys) d)

-- whether what is in doubt in an object of a kind is all that is in doubt in its members
abbrev pub is_entry_map : Kind → Bool
is_entry_map (map_of k) = true
is_entry_map (ordered_map_of k) = true
is_entry_map (entries_of k) = true
is_entry_map flows = true
is_entry_map k = false

pub map_doubted : (k : Kind) (d : Data) → is_entry_map k ≡ true → joined (all_doubted (object_places (kind_layout k (members_at d)) d)) ≡ own_doubts (members_at d) (checks (members_at d)) (doubters (members_at d)) k
map_doubted (map_of k) d e = members_doubted k (members_at d)
map_doubted (ordered_map_of k) d e = members_doubted k (members_at d)
map_doubted (entries_of k) d e = entries_doubted k (members_at d)
map_doubted flows d e = flows_doubted (members_at d)
map_doubted k d e = absurd (true≢false (sym e))
