-- The lines in which a document's operations are told.
use Rattle.std.specs.Prelude.{◌≡◌, ℕ, List, [], ◌∷◌, ◌++◌, Option, None, Some, All, codes, length, map}
use Rattle.std.specs.List.{flat_map}
use Rattle.serde_json.specs.Data.{Data, null, boolean, number, string, array, object}
use Rattle.serde_json.specs.Find.{get}
use Rattle.utoipa_check.specs.Shown.{IsOneLine, shown}
use Rattle.utoipa_outline.specs.Operations.{Operation, operations}

-- a text; another tree is told as the empty text
abbrev pub text_of : Option Data → List ℕ
text_of None = []
text_of (Some null) = []
text_of (Some (boolean b)) = []
text_of (Some (number n)) = []
text_of (Some (string s)) = s
text_of (Some (array ds)) = []
text_of (Some (object ms)) = []

abbrev pub text_at : (name : List ℕ) → Data → List ℕ
text_at name d = text_of (get name d)

-- the method, the path, `operationId` and `summary`, each shown, with a tab between two of them
abbrev pub operation_line : Operation → List ℕ
operation_line o =
    shown o.0 ++ (codes "\t" ++ (shown o.1 ++ (codes "\t" ++ (shown (text_at (codes "operationId") o.2)
    ++ (codes "\t" ++ (shown (text_at (codes "summary") o.2) ++ codes "\n"))))))

-- a line for each operation of a document
abbrev pub operation_lines : Data → List ℕ
operation_lines d = flat_map operation_line (operations d)

-- ---- what such a line has

-- texts, with a tab between two of them, and a line feed behind the last
abbrev pub row_text : List (List ℕ) → List ℕ
row_text [] = codes "\n"
row_text (t ∷ []) = t ++ codes "\n"
row_text (t ∷ u ∷ us) = t ++ (codes "\t" ++ row_text (u ∷ us))

-- a text is so many lines, each of so many texts with a tab between two of them, and nothing else is hidden in it
pub record AreRows (n width : ℕ) (text : List ℕ) : Type 0 where
  pub rows : List (List (List ℕ))
  pub count : length rows ≡ n
  pub wide : All (λ r. length r ≡ width) rows
  pub each : All (All IsOneLine) rows
  pub are : flat_map row_text rows ≡ text
