-- Some rows of a member table, as one document.
use Rattle.std.specs.Prelude.{ℕ, ◌+◌, List, [], ◌∷◌, ◌++◌, Bool, true, false, Option, option_map}
use Rattle.std.specs.Borrow.{Bor}
use Rattle.serde_json.specs.Data.{Data}
use Rattle.serde_json.specs.Find.{get}
use Rattle.utoipa_base.specs.Docs.{Doc, list_doc}
use Rattle.utoipa_base.specs.Fields.{fields}
use Rattle.utoipa_base.specs.Kinds.{Row}
use Rattle.utoipa_base.specs.Values.{values_of}

-- the fields of some rows, as one document
abbrev pub part : List Row → Data → Option Doc
part rows d = option_map list_doc (fields rows d)

-- the values of the members of some rows
abbrev pub rows_values : List Row → Data → ℕ
rows_values [] d = 0
rows_values (r ∷ rs) d = values_of (get r.name d) + rows_values rs d

-- rows among others: at each true the next of the former, at each false the next of the latter, and at last what is left of both
abbrev pub rows_woven : List Bool → List Row → List Row → List Row
rows_woven [] rs ss = rs ++ ss
rows_woven (true ∷ order) [] ss = ss
rows_woven (true ∷ order) (r ∷ rs) ss = r ∷ rows_woven order rs ss
rows_woven (false ∷ order) rs [] = rs
rows_woven (false ∷ order) rs (s ∷ ss) = s ∷ rows_woven order rs ss

-- of rows, those at which there is true
abbrev pub rows_picked : List Bool → List Row → List Row
rows_picked [] rs = []
rows_picked (b ∷ order) [] = []
rows_picked (true ∷ order) (r ∷ rs) = r ∷ rows_picked order rs
rows_picked (false ∷ order) (r ∷ rs) = rows_picked order rs

-- the texts of a slice of names
abbrev pub texts : List (Bor (List ℕ)) → List (List ℕ)
texts [] = []
texts (n ∷ ns) = n.now ∷ texts ns

-- rows by their names: one of a form, and those after it
abbrev pub rows_from : (List ℕ → Row) → (List (List ℕ) → List Row) → List (List ℕ) → List Row
rows_from first rest [] = []
rows_from first rest (n ∷ ns) = first n ∷ rest ns
