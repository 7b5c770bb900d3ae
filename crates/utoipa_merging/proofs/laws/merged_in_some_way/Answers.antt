use Rattle.std.proofs.Common.{◌∷◌}
use Rattle.std.proofs.lemmas.List.Elements.{recursion_from_All}
use Rattle.utoipa_merging.specs.Merged.{IsOpenApi}
use Rattle.utoipa_merging.proofs.MadeDocuments.{made_of_all}
use Rattle.utoipa_merging.proofs.laws.merged_in_some_way.Goals as goal

pub returns : goal.returns
returns c = λ d ds h. let m = made_of_all d ds (recursion_from_All IsOpenApi (d ∷ ds) h) in (m.made, m.merged, m.order)
