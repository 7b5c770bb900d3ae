-- What is sent to a sink for a tree, one event after another.
use Rattle.std.specs.Prelude.{ℕ, List, [], ◌∷◌, ◌++◌, Bool}
use Rattle.serde_json.specs.Data.{Num, Data, Items, no_items, item, Members, no_members, member}

pub data Event : Type 0 where
  null : Event
  boolean : Bool → Event
  number : Num → Event
  string : List ℕ → Event
  begin_array : Event
  end_array : Event
  begin_object : Event
  end_object : Event
  -- the name of a member, before its value
  key : List ℕ → Event

unfoldable mutual
  -- the events of a tree
  pub events : Data → List Event
  events Data.null = null ∷ []
  events (Data.boolean b) = boolean b ∷ []
  events (Data.number n) = number n ∷ []
  events (Data.string s) = string s ∷ []
  events (Data.array ds) = begin_array ∷ (items_events ds ++ end_array ∷ [])
  events (Data.object ms) = begin_object ∷ (members_events ms ++ end_object ∷ [])

  -- those of items, without the brackets round them
  pub items_events : Items → List Event
  items_events no_items = []
  items_events (item d ds) = events d ++ items_events ds

  -- those of members, without the braces round them
  pub members_events : Members → List Event
  members_events no_members = []
  members_events (member k d ms) = key k ∷ (events d ++ members_events ms)
