use Rattle.utoipa_merging.proofs.SortedTexts.{text_sorted}
use Rattle.utoipa_merging.proofs.laws.texts_are_sorted.Goals as goal

pub returns : goal.returns
returns c = text_sorted
