use Rattle.utoipa_merging.proofs.TextsMerged.{written_text}
use Rattle.utoipa_merging.proofs.laws.written_text_reads_back.Goals as goal

pub returns : goal.returns
returns c = written_text
