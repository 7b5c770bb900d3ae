-- What is noted of each holder, document by document.
use Rattle.std.specs.Prelude.{List, map, Bool, true, false, Option, None, Some, option_map}
use Rattle.std.specs.BTreeMap.{BTreeMap}
use Rattle.std.specs.Map.{lookup}
use Rattle.serde_json.specs.Data.{Data}
use Rattle.serde_json.specs.View.{view}
use Rattle.serde_json.specs.declared.value.Value.{Value}
use Rattle.utoipa_conflicts.specs.Conflicts as specs
use Rattle.utoipa_conflicts.specs.Conflicts.{Rule, first_decides, last_decides, Numbered}
use Rattle.utoipa_conflicts.specs.Holders.{same_holder}
use Rattle.utoipa_conflicts.specs.Views.{holder_of}
use Rattle.utoipa_conflicts.specs.declared.deciders.Document.{Document}
use Rattle.utoipa_conflicts.specs.declared.holder.Holder.{Holder}

abbrev pub numbered_of : Document → Numbered
numbered_of t = (t.number, view t.tree.now)

-- whether a key of the map is this holder
abbrev pub is_key : specs.Holder → Holder → Bool
is_key h k = same_holder h (holder_of k)

-- the document that is noted for a holder
abbrev pub noted : BTreeMap Holder Document → specs.Holder → Option Numbered
noted m h = option_map numbered_of (lookup (is_key h) m.entries)

abbrev pub is_last : Rule → Bool
is_last first_decides = false
is_last last_decides = true

-- what is noted for a holder that one more document has
abbrev pub with_one : Rule → Numbered → Option Numbered → Option Numbered
with_one first_decides t None = Some t
with_one first_decides t (Some u) = Some u
with_one last_decides t o = Some t

-- the trees of the program
abbrev pub trees_of : List Value → List Data
trees_of vs = map view vs
