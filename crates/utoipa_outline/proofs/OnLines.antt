-- The lines of operations are rows of texts.
use Rattle.std.proofs.Common.{◌≡◌, ◌∙◌, ℕ, zero, suc, ◌<◌, List, [], ◌∷◌, ◌++◌, All, codes, length, map, get_or, refl, ap, arith}
use Rattle.std.specs.List.{flat_map}
use Rattle.std.proofs.lemmas.List.{length-map}
use Rattle.std.proofs.lemmas.List.Elements.{All-map}
use Rattle.std.proofs.lemmas.List.Folds.{flat_map-map}
use Rattle.utoipa_check.specs.Shown.{IsOneLine, shown}
use Rattle.utoipa_check.proofs.ShownTexts.{shown_line}
use Rattle.utoipa_outline.specs.Lines.{text_at, operation_line, row_text, AreRows}
use Rattle.utoipa_outline.specs.Operations.{Operation}

-- the texts of an operation
abbrev texts : Operation → List (List ℕ)
texts o = o.0 ∷ o.1 ∷ text_at (codes "operationId") o.2 ∷ text_at (codes "summary") o.2 ∷ []

abbrev row : Operation → List (List ℕ)
row o = map shown (texts o)

each_shown : (o : Operation) → All IsOneLine (row o)
each_shown o = All-map IsOneLine shown (texts o) (λ k d less. shown_line (get_or (texts o) k d))

pub operation_rows : (os : List Operation) → AreRows (length os) 4 (flat_map operation_line os)
operation_rows os = record {
  rows = map row os;
  count = length-map os row;
  wide = All-map (λ r. length r ≡ 4) row os (λ k d less. refl);
  each = All-map (All IsOneLine) row os (λ k d less. each_shown (get_or os k d));
  are = flat_map-map row_text row os;
}
