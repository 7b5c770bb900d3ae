-- Lines of what is found, one list after the other.
use Rattle.std.proofs.Common.{◌≡◌, ◌∙◌, ℕ, List, [], ◌∷◌, ◌++◌, refl, sym, ap, append_assoc, Some, Option}
use Rattle.serde_json.specs.Data.{Data}
use Rattle.utoipa_findings.specs.Findings.{Finding}
use Rattle.utoipa_findings.specs.Lines.{finding_line, lines_of}
use Rattle.utoipa_findings.specs.Told.{tree_lines}

pub lines_joined : (name : List ℕ) (xs ys : List Finding) → lines_of name (xs ++ ys) ≡ lines_of name xs ++ lines_of name ys
lines_joined name [] ys = refl
lines_joined name (x ∷ xs) ys = ap (λ bs. finding_line name x ++ bs) (lines_joined name xs ys) ∙ sym (append_assoc (finding_line name x) (lines_of name xs) (lines_of name ys))

-- lines, and further ones behind them
pub lines_behind : (name first both : List ℕ) (xs ys : List Finding) → first ≡ lines_of name xs → both ≡ first ++ lines_of name ys → both ≡ lines_of name (xs ++ ys)
lines_behind name first both xs ys is put = put ∙ ap (λ bs. bs ++ lines_of name ys) is ∙ sym (lines_joined name xs ys)

-- the lines of a tree, where there is one
pub lines_of_tree : (f : Data → List Finding) (name told : List ℕ) (o : Option Data) (t : Data) → o ≡ Some t → told ≡ lines_of name (f t) → told ≡ tree_lines f name o
lines_of_tree f name told o t has is = is ∙ sym (ap (tree_lines f name) has)
