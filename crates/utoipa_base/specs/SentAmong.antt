-- Members that were sent to a sink among the extensions of their object.
use Rattle.std.specs.Prelude.{◌≡◌, ℕ, List, [], ◌∷◌, ◌++◌}
use Rattle.serde_json.specs.Data.{Members}
use Rattle.utoipa_base.specs.Docs.{Doc, no_docs, doc}
use Rattle.utoipa_base.specs.Events.{Event, key, end_object, members_events}
use Rattle.utoipa_base.specs.InOrder.{row_members, among, rest_after, names_before, names_after}
use Rattle.utoipa_base.specs.Kinds.{Row}

-- members were sent, each after those of the others that come before it, and these are left
pub record SentAmong {A : Type 0} (adds : A → List Event → A → Type 0) (ms others left : Members) (old new : A) : Type 0 where
  pub rest : left ≡ rest_after ms others
  pub added : adds old (members_events (among ms others)) new

-- a name was sent, after those of the others that come before it, and these are left
pub record NameSent {A : Type 0} (adds : A → List Event → A → Type 0) (name : List ℕ) (others left : Members) (old new : A) : Type 0 where
  pub rest : left ≡ names_after name others
  pub added : adds old (members_events (names_before name others) ++ key name ∷ []) new

-- members were sent, and the end of their object after them
abbrev pub ObjectEnded : {A : Type 0} → (A → List Event → A → Type 0) → Members → A → A → Type 0
ObjectEnded adds ms old new = adds old (members_events ms ++ end_object ∷ []) new

-- the member of one row, where it is not left out
abbrev pub row_member : Row → Doc → Members
row_member r d = row_members (doc d no_docs) (r ∷ [])
