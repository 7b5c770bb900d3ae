-- A builder of trees: the arrays and objects that are open, the innermost first, and the tree once it is whole.
use Rattle.std.proofs.Common.{◌≡◌, ◌∙◌, refl, ap, ℕ, List, [], ◌∷◌, ◌++◌, Bool, true, false, ◌&&◌, Option, Some, None, option_map, map, string_bytes}
use Rattle.std.specs.Ordering.{nat_cmp, is_gt}
use Rattle.std.specs.Option.{option_and_then}
use Rattle.std.specs.Cmp.Lexicographic.{slice_cmp}
use Rattle.serde_json.specs.Data.{Data, Members, no_members, member, put}
use Rattle.serde_json.specs.View.{view, items_of, members_view}
use Rattle.utoipa_base.specs.Events.{Event, null, boolean, number, string, begin_array, end_array, begin_object, end_object, key}
use Rattle.utoipa_base.specs.declared.builder.Open.{Open}
use Rattle.utoipa_base.specs.declared.builder.Open.TheVariants as opens
use Rattle.utoipa_base.specs.declared.builder.TreeBuilder.{TreeBuilder}

-- an array or an object that is not whole yet, and the name whose value comes next
pub data Frame : Type 0 where
  array_frame : List Data → Frame
  object_frame : Members → Option (List ℕ) → Frame

pub record State : Type 0 where
  pub frames : List Frame
  pub whole : Option Data

abbrev pub state_of : List Frame → Option Data → State
state_of fs d = record { frames = fs; whole = d }

-- whether a name comes after those of all members
abbrev pub is_above : List ℕ → Members → Bool
is_above k no_members = true
is_above k (member l d ms) = is_gt (slice_cmp nat_cmp k l) && is_above k ms

-- a whole tree goes into the innermost frame
abbrev pub placed : Data → List Frame → Option Data → Option State
placed d [] whole = Some (state_of [] (Some d))
placed d (array_frame ds ∷ fs) whole = Some (state_of (array_frame (ds ++ d ∷ []) ∷ fs) whole)
placed d (object_frame ms (Some k) ∷ fs) whole = Some (state_of (object_frame (put k d ms) None ∷ fs) whole)
placed d (object_frame ms None ∷ fs) whole = None

abbrev pub named_if : Bool → List ℕ → Members → List Frame → Option Data → Option State
named_if true k ms fs whole = Some (state_of (object_frame ms (Some k) ∷ fs) whole)
named_if false k ms fs whole = None

-- a name is taken where it comes after the others
abbrev pub named : List ℕ → List Frame → Option Data → Option State
named k [] whole = None
named k (array_frame ds ∷ fs) whole = None
named k (object_frame ms o ∷ fs) whole = named_if (is_above k ms) k ms fs whole

abbrev pub array_closed : List Frame → Option Data → Option State
array_closed [] whole = None
array_closed (array_frame ds ∷ fs) whole = placed (Data.array (items_of ds)) fs whole
array_closed (object_frame ms o ∷ fs) whole = None

abbrev pub object_closed : List Frame → Option Data → Option State
object_closed [] whole = None
object_closed (array_frame ds ∷ fs) whole = None
object_closed (object_frame ms o ∷ fs) whole = placed (Data.object ms) fs whole

-- after one event; none where it is no part of a tree there
abbrev pub step : Event → State → Option State
step null s = placed Data.null s.frames s.whole
step (boolean b) s = placed (Data.boolean b) s.frames s.whole
step (number n) s = placed (Data.number n) s.frames s.whole
step (string t) s = placed (Data.string t) s.frames s.whole
step begin_array s = Some (state_of (array_frame [] ∷ s.frames) s.whole)
step end_array s = array_closed s.frames s.whole
step begin_object s = Some (state_of (object_frame no_members None ∷ s.frames) s.whole)
step end_object s = object_closed s.frames s.whole
step (key k) s = named k s.frames s.whole

-- after some events
abbrev pub run : List Event → State → Option State
run [] s = Some s
run (e ∷ es) s = option_and_then (run es) (step e s)

-- ---- the builder's state

abbrev pub frame : Open → Frame
frame (opens.Array v) = array_frame (map view v.items)
frame (opens.Object m name) = object_frame (members_view m.entries) (option_map string_bytes name)

-- frames, and before them those of what is open, whose innermost stands last
abbrev pub frames_onto : List Frame → List Open → List Frame
frames_onto fs [] = fs
frames_onto fs (o ∷ os) = frames_onto (frame o ∷ fs) os

abbrev pub state : TreeBuilder → State
state b = state_of (frames_onto [] b.open.items) (option_map view b.whole)

-- ---- a sink

-- the events were taken
abbrev pub Builds : TreeBuilder → List Event → TreeBuilder → Type 0
Builds a es b = run es (state a) ≡ Some (state b)

pub builds_none : (a : TreeBuilder) → Builds a [] a
builds_none a = refl

then_then : (f g h : State → Option State) → ((s : State) → f s ≡ option_and_then g (h s)) → (o : Option State) → option_and_then f o ≡ option_and_then g (option_and_then h o)
then_then f g h same None = refl
then_then f g h same (Some s) = same s

pub run-append : (es fs : List Event) (s : State) → run (es ++ fs) s ≡ option_and_then (run fs) (run es s)
run-append [] fs s = refl
run-append (e ∷ es) fs s = then_then (run (es ++ fs)) (run fs) (run es) (λ t. run-append es fs t) (step e s)

pub builds_both : (a b c : TreeBuilder) (es fs : List Event) → Builds a es b → Builds b fs c → Builds a (es ++ fs) c
builds_both a b c es fs first last = run-append es fs (state a) ∙ ap (option_and_then (run fs)) first ∙ last
