-- The walk over two trees at once, by a list of moves.
use Rattle.std.specs.Prelude.{ℕ, suc, ◌+◌, ◌*◌, List, [], ◌∷◌, ◌++◌, Option}
use Rattle.serde_json.specs.Data.{Data, null, boolean, number, string, array, object, Items, no_items, item, Members, no_members, member}
use Rattle.serde_json.specs.Find.{get, at}
use Rattle.utoipa_base.specs.Values.{values}
use Rattle.utoipa_check.specs.Dropped.{Dropped, behind, absence, dropped}
use Rattle.utoipa_check.specs.Misfits.{Step, at_name, at_index}

pub data Move : Type 0 where
  -- to the tree behind a step, to compare it with what was written there
  enter : Step → Data → Option Data → Move
  -- back by a step
  leave : Move

abbrev pub items_moves : ℕ → Items → Data → List Move
items_moves i no_items e = []
items_moves i (item d ds) e = enter (at_index i) d (at i e) ∷ items_moves (suc i) ds e

abbrev pub members_moves : Members → Data → List Move
members_moves no_members e = []
members_moves (member k d ms) e = enter (at_name k) d (get k e) ∷ members_moves ms e

-- the moves to what stands in a tree
abbrev pub inner_moves : Data → Data → List Move
inner_moves null e = []
inner_moves (boolean b) e = []
inner_moves (number n) e = []
inner_moves (string s) e = []
inner_moves (array ds) e = items_moves 0 ds e
inner_moves (object ms) e = members_moves ms e

-- what is dropped of a tree, by the places of the tree from which some steps lead to it, the last of which comes first
abbrev pub outward : List Step → List Step → List Step
outward [] rest = rest
outward (s ∷ ss) rest = outward ss (s ∷ rest)

abbrev pub along : List Step → List Dropped → List Dropped
along path [] = []
along path (p ∷ ps) = (outward path p.0, p.1) ∷ along path ps

-- the steps but the last, which comes first
abbrev pub back : List Step → List Step
back [] = []
back (s ∷ ss) = ss

-- What some moves find, made from the first to the last behind some steps, the last of which comes first. What is found first comes last.
abbrev pub left : List Step → List Move → List Dropped
left path [] = []
left path (enter s d o ∷ ts) = left path ts ++ along path (behind s (absence s d) (dropped d) o)
left path (leave ∷ ts) = left (back path) ts

-- how much is to be done: a move is taken off, or makes way for others that are less together
abbrev pub work_left : List Move → ℕ
work_left [] = 0
work_left (enter s d o ∷ ts) = 2 * values d + work_left ts
work_left (leave ∷ ts) = 1 + work_left ts
