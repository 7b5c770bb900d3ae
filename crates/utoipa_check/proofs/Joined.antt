-- What was found inside a list, a map or an object of flows, joined.
use Rattle.std.proofs.Common.{◌≡◌, ℕ, suc, List, ◌∷◌, ◌++◌, Bool, true, false, cond, Option, None, Some, refl, sym, ap, ◌∙◌, true≢false}
use Rattle.serde_json.specs.Data.{Data, Items, no_items, item, Members, no_members, member}
use Rattle.utoipa_base.specs.Choices.{chosen, flow_keys}
use Rattle.utoipa_base.specs.Extensions.{is_extension}
use Rattle.utoipa_base.specs.Kinds.{ObjectType, Kind, type_word, word_of, list_of, map_of, ordered_map_of, entries_of, flows, schema_type}
use Rattle.utoipa_check.specs.Misfits.{under, at_name, at_index, Check, Checks, entry_checks, items_misfits, entries_misfits, flow_misfits, flows_misfits, checker, item_checkers, checks, array_misfits, object_misfits, fractions, items_fractions, members_fractions}
use Rattle.utoipa_check.specs.Places.{of_kind, no_fraction, found, Place, outcomes, joined, items_places, and_place, members_places, each_member, each_entry, each_flow, flow_target, item_target, array_places, object_places, kind_layout, members_at, items_at}

pub items_joined : (k : Kind) (i : ℕ) (ds : Items) → joined (outcomes (items_places (of_kind k) i ds)) ≡ items_misfits i k (item_checkers ds)
unfolding item_checkers
items_joined k i no_items = refl
items_joined k i (item d ds) = ap (λ ms. under (at_index i) (checker d k) ++ ms) (items_joined k (suc i) ds)

pub members_joined : (k : Kind) (ms : Members) → joined (outcomes (members_places (each_member (of_kind k)) ms)) ≡ entries_misfits k (checks ms)
unfolding checks
members_joined k no_members = refl
members_joined k (member name d ms) = ap (λ xs. under (at_name name) (checker d k) ++ xs) (members_joined k ms)

one_entry : (b : Bool) (k : Kind) (name : List ℕ) (d : Data) (ps : List Place) (c : List ℕ × Check) (cs : Checks) → c.0 ≡ name → c.1.1 k ≡ checker d k → joined (outcomes ps) ≡ entries_misfits k cs
    → joined (outcomes (and_place (cond b None (Some (of_kind k))) name d ps)) ≡ entries_misfits k (cond b cs (c ∷ cs))
one_entry true k name d ps c cs same is rest = rest
one_entry false k name d ps c cs same is rest = ap (λ xs. under (at_name name) (checker d k) ++ xs) rest ∙ ap (λ xs. under (at_name name) xs ++ entries_misfits k cs) (sym is) ∙ ap (λ n. under (at_name n) (c.1.1 k) ++ entries_misfits k cs) (sym same)

pub entries_joined : (k : Kind) (ms : Members) → joined (outcomes (members_places (each_entry (of_kind k)) ms)) ≡ entries_misfits k (entry_checks (checks ms))
unfolding checks
entries_joined k no_members = refl
entries_joined k (member name d ms) = one_entry (is_extension name) k name d (members_places (each_entry (of_kind k)) ms) _ (entry_checks (checks ms)) refl refl (entries_joined k ms)

one_flow : (o : Option ObjectType) (d : Data) → found (flow_target o) d ≡ flow_misfits o (checker d)
one_flow None d = refl
one_flow (Some n) d = refl

pub flows_joined : (ms : Members) → joined (outcomes (members_places each_flow ms)) ≡ flows_misfits (checks ms)
unfolding checks
flows_joined no_members = refl
flows_joined (member name d ms) =
    ap (λ xs. under (at_name name) (found (flow_target (chosen name flow_keys)) d) ++ xs) (flows_joined ms) ∙ ap (λ xs. under (at_name name) xs ++ flows_misfits (checks ms)) (one_flow (chosen name flow_keys) d)

pub item_fractions_joined : (i : ℕ) (ds : Items) → joined (outcomes (items_places no_fraction i ds)) ≡ items_fractions i ds
unfolding items_fractions
item_fractions_joined i no_items = refl
item_fractions_joined i (item d ds) = ap (λ ms. under (at_index i) (fractions d) ++ ms) (item_fractions_joined (suc i) ds)

pub member_fractions_joined : (ms : Members) → joined (outcomes (members_places (each_member no_fraction) ms)) ≡ members_fractions ms
unfolding members_fractions
member_fractions_joined no_members = refl
member_fractions_joined (member name d ms) = ap (λ xs. under (at_name name) (fractions d) ++ xs) (member_fractions_joined ms)

-- whether what does not fit in an object of a kind is all that does not fit in its members
abbrev pub is_map : Kind → Bool
is_map (map_of k) = true
is_map (ordered_map_of k) = true
is_map (entries_of k) = true
is_map flows = true
is_map k = false

pub map_joined : (k : Kind) (d : Data) → is_map k ≡ true → joined (outcomes (object_places (kind_layout k (members_at d)) d)) ≡ object_misfits (members_at d) (checks (members_at d)) k
map_joined (map_of k) d e = members_joined k (members_at d)
map_joined (ordered_map_of k) d e = members_joined k (members_at d)
map_joined (entries_of k) d e = entries_joined k (members_at d)
map_joined flows d e = flows_joined (members_at d)
map_joined k d e = absurd (true≢false (sym e))

-- the same of an array
abbrev pub is_list : Kind → Bool
is_list (list_of k) = true
is_list schema_type = true
is_list k = false

pub list_joined : (k : Kind) (d : Data) → is_list k ≡ true → joined (outcomes (array_places (item_target (of_kind k)) (items_at d))) ≡ array_misfits (item_checkers (items_at d)) k
list_joined (list_of k) d e = items_joined k 0 (items_at d)
list_joined schema_type d e = items_joined (word_of type_word) 0 (items_at d)
list_joined k d e = absurd (true≢false (sym e))
