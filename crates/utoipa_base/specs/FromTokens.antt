-- What is read from the tokens of a text.
use Rattle.std.specs.Prelude.{◌≡◌, ℕ, List, false, Option, Some, Ok}
use Rattle.json.specs.Json.{value}
use Rattle.json.specs.Token.{Token}
use Rattle.serde_json.specs.Data.{Data}
use Rattle.serde_json.specs.Read.{of_json, converted}
use Rattle.serde_json.specs.Written.{has_float}
use Rattle.utoipa_base.specs.Docs.{Doc}
use Rattle.utoipa_base.specs.Reads.{Reads}
use Rattle.utoipa_base.specs.Values.{values}

-- The tree that comes first in the tokens `old`, where `new` are the tokens after it. It nests no deeper than `depth`, and no number of it is a
-- fraction. Of two members that have one name the later stands, as in the tree of a text.
pub record Comes (tree : Data) (depth : ℕ) (old new : List Token) : Type 0 where
  pub next : converted of_json (value depth old) ≡ Some (tree, new)
  pub plain : has_float tree ≡ false

-- A value read from the tree that comes first in the tokens `old`, where `new` are the tokens after it: `o` is the document that the definitions
-- give of a tree, and the counter stood at `start` and stands at `now`.
pub record FromTokens {A : Type 0} (o : Data → Option Doc) (doc : A → Doc) (v : A) (depth : ℕ) (old new : List Token) (start now : ℕ) : Type 0 where
  pub tree : Data
  pub comes : Comes tree depth old new
  pub reads : Reads {A = A} (o tree) doc (Ok v) start now (values tree)
