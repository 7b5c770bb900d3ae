-- What a builder has after the events of a tree: that tree.
use Rattle.std.proofs.Common.{◌≡◌, ◌∙◌, refl, ap, sym, ℕ, List, [], ◌∷◌, ◌++◌, append_assoc, append-nil, Bool, true, false, Option, Some, None, Ordering, Less, Equal, Greater}
use Rattle.std.specs.Ordering.{nat_cmp, is_gt, match_ordering}
use Rattle.std.specs.Option.{option_and_then}
use Rattle.std.specs.Cmp.Lexicographic.{slice_cmp}
use Rattle.serde_json.specs.Data.{Data, null, boolean, number, string, array, object, Items, no_items, item, Members, no_members, member, put}
use Rattle.serde_json.specs.View.{items_of}
use Rattle.utoipa_base.specs.Build.{Frame, array_frame, object_frame, State, state_of, is_above, placed, named_if, run, run-append}
use Rattle.utoipa_base.specs.Events as event
use Rattle.utoipa_base.specs.Events.{Event, events, items_events, members_events}
use Rattle.utoipa_base.specs.InOrder.{joined}
use Rattle.utoipa_base.proofs.BoolFacts.{and_first, and_second}
use Rattle.utoipa_base.proofs.FieldsInOrder.{joined-none, joined-joined}

abbrev data_list : Items → List Data
data_list no_items = []
data_list (item d ds) = d ∷ data_list ds

items_back : (ds : Items) → items_of (data_list ds) ≡ ds
items_back no_items = refl
items_back (item d ds) = ap (item d) (items_back ds)

-- a name above all members is put last
put_step : (o : Ordering) (k l : List ℕ) (d e : Data) (ms ns : Members) → is_gt o ≡ true → ns ≡ joined ms (member k d no_members) → match_ordering o (member k d (member l e ms)) (member l d ms) (member l e ns) ≡ member l e (joined ms (member k d no_members))
put_step Less k l d e ms ns h is = absurd cc
put_step Equal k l d e ms ns h is = absurd cc
put_step Greater k l d e ms ns h is = ap (member l e) is

put_above : (k : List ℕ) (d : Data) (ms : Members) → is_above k ms ≡ true → put k d ms ≡ joined ms (member k d no_members)
put_above k d no_members h = refl
put_above k d (member l e ms) h =
    put_step (slice_cmp nat_cmp k l) k l d e ms (put k d ms) (and_first _ (is_above k ms) h) (put_above k d ms (and_second (is_gt (slice_cmp nat_cmp k l)) _ h))

single : (o : Option State) (t : State) → option_and_then (run []) o ≡ Some t → o ≡ Some t
single None t h = h
single (Some s) t h = h

through : (fs : List Event) (o : Option State) (t : State) → option_and_then (run fs) o ≡ Some t → (m : State) × (o ≡ Some m) × (run fs m ≡ Some t)
through fs None t h = absurd cc
through fs (Some m) t h = (m, refl, h)

split : (es fs : List Event) (s t : State) → run (es ++ fs) s ≡ Some t → (m : State) × (run es s ≡ Some m) × (run fs m ≡ Some t)
split es fs s t h = through fs (run es s) t (sym (run-append es fs s) ∙ h)

same_state : (a b : State) → Some a ≡ Some b → a ≡ b
same_state a b h = cc

named_at : (b : Bool) (k : List ℕ) (before : Members) (fs : List Frame) (whole : Option Data) (rest : List Event) (t : State) → option_and_then (run rest) (named_if b k before fs whole) ≡ Some t
    → (b ≡ true) × (run rest (state_of (object_frame before (Some k) ∷ fs) whole) ≡ Some t)
named_at true k before fs whole rest t h = (refl, h)
named_at false k before fs whole rest t h = absurd cc

-- what the events of a tree lead to, where they lead anywhere
mutual
  unfolding events

  placed_by : (d : Data) (fs : List Frame) (whole : Option Data) (t : State) → run (events d) (state_of fs whole) ≡ Some t → placed d fs whole ≡ Some t
  placed_by null fs whole t h = single (placed null fs whole) t h
  placed_by (boolean b) fs whole t h = single (placed (boolean b) fs whole) t h
  placed_by (number n) fs whole t h = single (placed (number n) fs whole) t h
  placed_by (string s) fs whole t h = single (placed (string s) fs whole) t h
  placed_by (array ds) fs whole t h = ap (λ es. placed (array es) fs whole) (sym (items_back ds)) ∙ items_placed ds [] fs whole t h
  placed_by (object ms) fs whole t h = members_placed ms no_members fs whole t h

  items_placed : (ds : Items) (before : List Data) (fs : List Frame) (whole : Option Data) (t : State) → run (items_events ds ++ event.end_array ∷ []) (state_of (array_frame before ∷ fs) whole) ≡ Some t → placed (array (items_of (before ++ data_list ds))) fs whole ≡ Some t
  items_placed no_items before fs whole t h = ap (λ l. placed (array (items_of l)) fs whole) (append-nil before) ∙ single (placed (array (items_of before)) fs whole) t h
  items_placed (item d ds) before fs whole t h =
      let g : run (events d ++ (items_events ds ++ event.end_array ∷ [])) (state_of (array_frame before ∷ fs) whole) ≡ Some t = ap (λ es. run es (state_of (array_frame before ∷ fs) whole)) (sym (append_assoc (events d) (items_events ds) (event.end_array ∷ []))) ∙ h in
      let m = split (events d) (items_events ds ++ event.end_array ∷ []) (state_of (array_frame before ∷ fs) whole) t g in
      let at : state_of (array_frame (before ++ d ∷ []) ∷ fs) whole ≡ m.0 = same_state _ _ (placed_by d (array_frame before ∷ fs) whole m.0 m.1) in
      ap (λ l. placed (array (items_of l)) fs whole) (sym (append_assoc before (d ∷ []) (data_list ds)))
      ∙ items_placed ds (before ++ d ∷ []) fs whole t (ap (run (items_events ds ++ event.end_array ∷ [])) at ∙ m.2)

  members_placed : (ms : Members) (before : Members) (fs : List Frame) (whole : Option Data) (t : State) → run (members_events ms ++ event.end_object ∷ []) (state_of (object_frame before None ∷ fs) whole) ≡ Some t → placed (object (joined before ms)) fs whole ≡ Some t
  members_placed no_members before fs whole t h = ap (λ l. placed (object l) fs whole) (joined-none before) ∙ single (placed (object before) fs whole) t h
  members_placed (member k d ms) before fs whole t h =
      let g : run (event.key k ∷ (events d ++ (members_events ms ++ event.end_object ∷ []))) (state_of (object_frame before None ∷ fs) whole) ≡ Some t =
      ap (λ es. run (event.key k ∷ es) (state_of (object_frame before None ∷ fs) whole)) (sym (append_assoc (events d) (members_events ms) (event.end_object ∷ []))) ∙ h in
      let n = named_at (is_above k before) k before fs whole (events d ++ (members_events ms ++ event.end_object ∷ [])) t g in
      let m = split (events d) (members_events ms ++ event.end_object ∷ []) (state_of (object_frame before (Some k) ∷ fs) whole) t n.1 in
      let at : state_of (object_frame (put k d before) None ∷ fs) whole ≡ m.0 = same_state _ _ (placed_by d (object_frame before (Some k) ∷ fs) whole m.0 m.1) in
      let with_it : Members = joined before (member k d no_members) in
      let last : put k d before ≡ with_it = put_above k d before n.0 in
      ap (λ l. placed (object l) fs whole) (sym (joined-joined before (member k d no_members) ms))
      ∙ members_placed ms with_it fs whole t (ap (λ l. run (members_events ms ++ event.end_object ∷ []) (state_of (object_frame l None ∷ fs) whole)) (sym last) ∙ ap (run (members_events ms ++ event.end_object ∷ [])) at ∙ m.2)

-- after the events of a tree a new builder has that tree
pub built : (d : Data) (t : State) → run (events d) (state_of [] None) ≡ Some t → t.whole ≡ Some d
built d t h = ap (λ s. s.whole) (sym (same_state _ _ (placed_by d [] None t h)))
