-- The places of a tree that a written tree lacks, or has another value at.
use Rattle.std.specs.Prelude.{ℕ, suc, List, [], ◌∷◌, ◌++◌, ◌==◌, Bool, true, false, not, Option, None, Some, option_map}
use Rattle.std.specs.Float.Ieee.{to_bits}
use Rattle.std.specs.Float.{binary64}
use Rattle.std.specs.Ordering.{int_eq}
use Rattle.std.specs.Str.{bytes_eq}
use Rattle.serde_json.specs.Data.{Num, unsigned, negative, float, Data, null, boolean, number, string, array, object, Items, no_items, item, Members, no_members, member}
use Rattle.serde_json.specs.Find.{get, at}
use Rattle.utoipa_base.specs.Kinds.{Kind}
use Rattle.utoipa_base.specs.Reading.{read}
use Rattle.utoipa_base.specs.Writing.{write}
use Rattle.utoipa_check.specs.Misfits.{Step, at_name, at_index}

-- ---- losses

-- what has become of a tree
pub data Loss : Type 0 where
  -- nothing stands at its place
  absent : Loss
  -- it is null, {} or [], and no member of its name is written
  left_out : Loss
  -- another value stands at its place
  changed : Loss

-- a place, as the steps that lead to it, and what has become of the tree there
abbrev pub Dropped : Type 0
Dropped = List Step × Loss

-- the tree itself
abbrev pub here : Loss → List Dropped
here l = ([], l) ∷ []

-- what is dropped of a tree, by the places of the tree that it stands in
abbrev pub under : Step → List Dropped → List Dropped
under s [] = []
under s (p ∷ ps) = (s ∷ p.0, p.1) ∷ under s ps

-- ---- one value beside another

abbrev pub same_flag : Bool → Bool → Bool
same_flag true c = c
same_flag false c = not c

-- whether two numbers are the same: whole numbers by their value, fractions by the bits of their f64. A whole number is no fraction.
abbrev pub same_number : Num → Num → Bool
same_number (unsigned m) (unsigned n) = m == n
same_number (unsigned m) n = false
same_number (negative y) (negative z) = int_eq y z
same_number (negative y) n = false
same_number (float x) (float y) = to_bits binary64 x == to_bits binary64 y
same_number (float x) n = false

-- whether two trees have the same value but for what stands in them: null, the same flag, number or text, two arrays or two objects
abbrev pub is_alike : Data → Data → Bool
is_alike null null = true
is_alike null e = false
is_alike (boolean b) (boolean c) = same_flag b c
is_alike (boolean b) e = false
is_alike (number m) (number n) = same_number m n
is_alike (number m) e = false
is_alike (string s) (string t) = bytes_eq s t
is_alike (string s) e = false
is_alike (array ds) (array es) = true
is_alike (array ds) e = false
is_alike (object ms) (object ns) = true
is_alike (object ms) e = false

-- ---- what is dropped

-- whether a tree is null, {} or []
abbrev pub is_empty : Data → Bool
is_empty null = true
is_empty (boolean b) = false
is_empty (number n) = false
is_empty (string s) = false
is_empty (array no_items) = true
is_empty (array (item d ds)) = false
is_empty (object no_members) = true
is_empty (object (member k d ms)) = false

abbrev pub absent_or_left_out : Bool → Loss
absent_or_left_out true = left_out
absent_or_left_out false = absent

-- what has become of a tree at whose place nothing stands. An item is never left out as empty: `[{}]` and `[]` say different things.
abbrev pub absence : Step → Data → Loss
absence (at_name name) d = absent_or_left_out (is_empty d)
absence (at_index i) d = absent

-- what is dropped of a tree behind a step, by what is dropped of it beside the tree that was written there
abbrev pub behind : Step → Loss → (Data → List Dropped) → Option Data → List Dropped
behind s l f None = (s ∷ [], l) ∷ []
behind s l f (Some e) = under s (f e)

-- the tree itself, unless it is alike
abbrev pub unless_alike : Bool → List Dropped → List Dropped
unless_alike true ps = ps
unless_alike false ps = here changed

-- The places of the first tree that the second lacks or has another value at, in the order of the first tree. Of a place that is
-- lacking or changed, none of the places inside it. Objects are compared by name and arrays by index: where the second array is
-- shorter, the items beyond its end are absent; where it is longer, its further items drop nothing, nor do further members of an object.
abbrev mutual
  pub dropped : Data → Data → List Dropped
  dropped null e = unless_alike (is_alike null e) []
  dropped (boolean b) e = unless_alike (is_alike (boolean b) e) []
  dropped (number n) e = unless_alike (is_alike (number n) e) []
  dropped (string s) e = unless_alike (is_alike (string s) e) []
  dropped (array ds) e = unless_alike (is_alike (array ds) e) (items_dropped 0 ds e)
  dropped (object ms) e = unless_alike (is_alike (object ms) e) (members_dropped ms e)

  -- of the items from an index on
  pub items_dropped : ℕ → Items → Data → List Dropped
  items_dropped i no_items e = []
  items_dropped i (item d ds) e = behind (at_index i) (absence (at_index i) d) (dropped d) (at i e) ++ items_dropped (suc i) ds e

  pub members_dropped : Members → Data → List Dropped
  members_dropped no_members e = []
  members_dropped (member k d ms) e = behind (at_name k) (absence (at_name k) d) (dropped d) (get k e) ++ members_dropped ms e

-- what is dropped of a tree when it is read as a document of a kind and written again; of another tree that is not defined
abbrev pub dropped_by : Kind → Data → Option (List Dropped)
dropped_by k t = option_map (λ d. dropped t (write d)) (read k t)
