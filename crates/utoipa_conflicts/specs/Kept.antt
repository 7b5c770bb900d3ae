-- What merging keeps in a slot.
use Rattle.std.specs.Prelude.{ℕ, List, [], ◌∷◌, Option, option_and_then, map, IsTrue, codes}
use Rattle.serde_json.specs.Data.{Data}
use Rattle.utoipa_check.specs.Misfits.{at_name}
use Rattle.utoipa_conflicts.specs.Conflicts.{Slot, document_member, component_entry, components_extension, paths_extension, operation, named_operation, base_member, holder, place, place_of_holder, rule, by_rule, deciding, numbered}
use Rattle.utoipa_conflicts.specs.IsConflict.{HasValue}
use Rattle.utoipa_conflicts.specs.Same.{is_value}
use Rattle.utoipa_conflicts.specs.Trees.{Place, at_place}

-- what the document that decides a slot has there, nothing where none decides
abbrev pub kept : Slot → List Data → Option Data
kept s ds = option_and_then (λ t. at_place (place s) t.1) (deciding (holder s) (numbered 0 ds))

-- the steps from a slot's holder to the slot
abbrev pub from_holder : Slot → Place
from_holder (document_member name) = at_name name ∷ []
from_holder (component_entry kind name) = []
from_holder (components_extension name) = at_name (codes "components") ∷ at_name name ∷ []
from_holder (paths_extension name) = []
from_holder (operation path method) = []
from_holder (named_operation path name) = []
from_holder (base_member path name) = at_name name ∷ []

-- what the documents have as a slot's holder
abbrev pub holders_of : Slot → List Data → List (Option Data)
holders_of s ds = map (at_place (place_of_holder (holder s))) ds

-- what stands behind the first holder, or the last, by the rule
abbrev pub behind_holder : Slot → List Data → Option Data
behind_holder s ds = option_and_then (at_place (from_holder s)) (by_rule (rule (holder s)) (holders_of s ds))

-- each value that a document has in a slot is the one that is kept there
abbrev pub IsAllKept : List Data → Type 0
IsAllKept ds = (j : ℕ) (s : Slot) (v : Data) → HasValue ds j s v → IsTrue (is_value v (kept s ds))
