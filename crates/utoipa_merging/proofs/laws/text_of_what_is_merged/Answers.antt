use Rattle.std.proofs.lemmas.List.Elements.{recursion_from_All}
use Rattle.utoipa_merging.specs.Texts.{IsUnambiguousText}
use Rattle.utoipa_merging.proofs.TextsMerged.{merged_text, merged_within}
use Rattle.utoipa_merging.proofs.laws.text_of_what_is_merged.Goals as goal

pub returns-clause-reads : goal.returns-clause-reads
returns-clause-reads c = λ texts d text m u w. merged_text texts d text (recursion_from_All IsUnambiguousText texts u) m w

pub returns-clause-depth : goal.returns-clause-depth
returns-clause-depth c = λ texts d m u. merged_within texts d m (recursion_from_All IsUnambiguousText texts u)
