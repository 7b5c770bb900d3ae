-- The steps of a builder of trees.
use Rattle.std.proofs.Common.{◌≡◌, ◌∙◌, refl, ap, sym, ℕ, List, [], ◌∷◌, ◌++◌, true, map, option_map, arith, suc, false, Ordering, Less, Equal, Greater, Option, Some, None, Vec, BTreeMap, String, Global, string_bytes, string_cmp}
use Rattle.std.proofs.lemmas.List.{map-append}
use Rattle.std.proofs.lemmas.Cmp.{nat_list_cmp_total}
use Rattle.std.specs.Cmp.{IsTotalOrder}
use Rattle.std.specs.Cmp.Lexicographic.{slice_cmp}
use Rattle.std.specs.Ordering.{nat_cmp, is_lt, ordering_reverse}
use Rattle.std.specs.List.{All}
use Rattle.std.specs.Map.{keys_of}
use Rattle.std.specs.BTreeMap.{insert_entry}
use Rattle.std.specs.Option.{option_and_then}
use Rattle.serde_json.specs.Data.{Data, no_members}
use Rattle.serde_json.specs.View.{view, members_view}
use Rattle.serde_json.specs.declared.value.Value.{Value, Array, Object}
use Rattle.serde_json.proofs.Views.{view-Array, view-Object, members_view-insert_entry}
use Rattle.utoipa_base.specs.Build.{Frame, array_frame, object_frame, State, state_of, is_above, placed, named, named_if, array_closed, object_closed, frame, frames_onto}
use Rattle.utoipa_base.specs.declared.builder.Open.{Open}
use Rattle.utoipa_base.specs.declared.builder.Open.TheVariants as opens

pub frames_onto-last : (fs : List Frame) (os : List Open) (o : Open) → frames_onto fs (os ++ o ∷ []) ≡ frame o ∷ frames_onto fs os
frames_onto-last fs [] o = refl
frames_onto-last fs (x ∷ os) o = frames_onto-last (frame x ∷ fs) os o

pub popped : (os rest : List Open) (o : Open) → os ≡ rest ++ o ∷ [] → frames_onto [] os ≡ frame o ∷ frames_onto [] rest
popped os rest o is = ap (frames_onto []) is ∙ frames_onto-last [] rest o

pub array_begun : (os new : List Open) (v : Vec Value Global) (d : Option Data) → v.items ≡ [] → new ≡ os ++ opens.Array v ∷ [] → Some (state_of (array_frame [] ∷ frames_onto [] os) d) ≡ Some (state_of (frames_onto [] new) d)
array_begun os new v d none is = ap (λ xs. Some (state_of (array_frame (map view xs) ∷ frames_onto [] os) d)) (sym none) ∙ ap (λ fs. Some (state_of fs d)) (sym (popped new os (opens.Array v) is))

pub object_begun : (os new : List Open) (m : BTreeMap (String Global) Value) (d : Option Data) → m.entries ≡ [] → new ≡ os ++ opens.Object m None ∷ [] → Some (state_of (object_frame no_members None ∷ frames_onto [] os) d) ≡ Some (state_of (frames_onto [] new) d)
object_begun os new m d none is = ap (λ es. Some (state_of (object_frame (members_view es) None ∷ frames_onto [] os) d)) (sym none) ∙ ap (λ fs. Some (state_of fs d)) (sym (popped new os (opens.Object m None) is))

pub in_array : (os rest new : List Open) (v w : Vec Value Global) (x : Value) (d : Option Data) → os ≡ rest ++ opens.Array v ∷ [] → w.items ≡ v.items ++ x ∷ [] → new ≡ rest ++ opens.Array w ∷ [] → placed (view x) (frames_onto [] os) d ≡ Some (state_of (frames_onto [] new) d)
in_array os rest new v w x d was more is =
    ap (λ fs. placed (view x) fs d) (popped os rest (opens.Array v) was)
    ∙ ap (λ l. Some (state_of (array_frame l ∷ frames_onto [] rest) d)) (sym (ap (map view) more ∙ map-append view v.items (x ∷ [])))
    ∙ ap (λ fs. Some (state_of fs d)) (sym (popped new rest (opens.Array w) is))

pub in_object : (os rest new : List Open) (m n : BTreeMap (String Global) Value) (k : String Global) (x : Value) (d : Option Data) → os ≡ rest ++ opens.Object m (Some k) ∷ [] → n.entries ≡ insert_entry string_cmp m.entries k x → new ≡ rest ++ opens.Object n None ∷ [] → placed (view x) (frames_onto [] os) d ≡ Some (state_of (frames_onto [] new) d)
in_object os rest new m n k x d was more is =
    ap (λ fs. placed (view x) fs d) (popped os rest (opens.Object m (Some k)) was)
    ∙ ap (λ l. Some (state_of (object_frame l None ∷ frames_onto [] rest) d)) (sym (ap members_view more ∙ members_view-insert_entry m.entries k x))
    ∙ ap (λ fs. Some (state_of fs d)) (sym (popped new rest (opens.Object n None) is))

pub just : {T : Type 0} (o : Option T) → option_and_then (λ x. Some x) o ≡ o
just None = refl
just (Some x) = refl

pub array_ended : (os rest : List Open) (v : Vec Value Global) (d : Option Data) (t : Option State) → os ≡ rest ++ opens.Array v ∷ [] → placed (view (Array v)) (frames_onto [] rest) d ≡ t → option_and_then (λ x. Some x) (array_closed (frames_onto [] os) d) ≡ t
array_ended os rest v d t was is =
    just _ ∙ ap (λ fs. array_closed fs d) (popped os rest (opens.Array v) was) ∙ ap (λ y. placed y (frames_onto [] rest) d) (sym (view-Array v)) ∙ is

pub object_ended : (os rest : List Open) (m : BTreeMap (String Global) Value) (o : Option (String Global)) (d : Option Data) (t : Option State) → os ≡ rest ++ opens.Object m o ∷ [] → placed (view (Object m)) (frames_onto [] rest) d ≡ t → option_and_then (λ x. Some x) (object_closed (frames_onto [] os) d) ≡ t
object_ended os rest m o d t was is =
    just _ ∙ ap (λ fs. object_closed fs d) (popped os rest (opens.Object m o) was) ∙ ap (λ y. placed y (frames_onto [] rest) d) (sym (view-Object m)) ∙ is

pub was_named : (os rest new : List Open) (m : BTreeMap (String Global) Value) (o : Option (String Global)) (k : String Global) (s : List ℕ) (d : Option Data) → os ≡ rest ++ opens.Object m o ∷ [] → is_above s (members_view m.entries) ≡ true → string_bytes k ≡ s → new ≡ rest ++ opens.Object m (Some k) ∷ []
    → option_and_then (λ x. Some x) (named s (frames_onto [] os) d) ≡ Some (state_of (frames_onto [] new) d)
was_named os rest new m o k s d was last same is =
    just _ ∙ ap (λ fs. named s fs d) (popped os rest (opens.Object m o) was)
    ∙ ap (λ b. named_if b s (members_view m.entries) (frames_onto [] rest) d) last
    ∙ ap (λ l. Some (state_of (object_frame (members_view m.entries) (Some l) ∷ frames_onto [] rest) d)) (sym same)
    ∙ ap (λ fs. Some (state_of fs d)) (sym (popped new rest (opens.Object m (Some k)) is))

pub of_some : (o : Option Value) (v : Value) (d : Data) → o ≡ Some v → option_map view o ≡ Some d → view v ≡ d
of_some o v d is seen = let same : Some (view v) ≡ Some d = ap (option_map view) (sym is) ∙ seen in cc

order : IsTotalOrder (slice_cmp nat_cmp)
order = nat_list_cmp_total

above_by : (o : Ordering) (last q n : List ℕ) → slice_cmp nat_cmp last q ≡ o → is_lt o ≡ false → slice_cmp nat_cmp n last ≡ Greater → slice_cmp nat_cmp n q ≡ Greater
above_by Less last q n is nl gt = absurd cc
above_by Equal last q n is nl gt =
    let back : slice_cmp nat_cmp last n ≡ Less = order.antisymm last n ∙ ap ordering_reverse gt in
    order.antisymm n q ∙ ap ordering_reverse (sym (order.congr last q n is) ∙ back)
above_by Greater last q n is nl gt =
    let back : slice_cmp nat_cmp last n ≡ Less = order.antisymm last n ∙ ap ordering_reverse gt in
    let below : slice_cmp nat_cmp q last ≡ Less = order.antisymm q last ∙ ap ordering_reverse is in
    order.antisymm n q ∙ ap ordering_reverse (order.trans q last n below back)

pub above_all : (last : String Global) (n : List ℕ) (es : List (String Global × Value)) → All (λ q. is_lt (string_cmp last q) ≡ false) (keys_of es) → slice_cmp nat_cmp n (string_bytes last) ≡ Greater → is_above n (members_view es) ≡ true
above_all last n [] h gt = refl
above_all last n (e ∷ es) h gt =
    let first : slice_cmp nat_cmp n (string_bytes e.0) ≡ Greater = above_by _ (string_bytes last) (string_bytes e.0) n refl (h 0 e.0 (omega arith)) gt in
    rw first (above_all last n es (λ k d lt. h (suc k) d (omega arith)) gt)

pub ruleset by_building = (view-Array, view-Object)
