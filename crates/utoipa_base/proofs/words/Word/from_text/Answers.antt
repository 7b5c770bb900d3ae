use Rattle.utoipa_base.proofs.ByWords.{found_exactly, unknown_exactly}
use Rattle.utoipa_base.proofs.words.Word.from_text.Goals as goal

pub returns-clause-found : goal.returns-clause-found
returns-clause-found g c = found_exactly g.Self.Word.spelling g.Self.Word.every _ _ g.met.Self.Word.found_by_text c.lookup.ensures

pub returns-clause-unknown : goal.returns-clause-unknown
returns-clause-unknown g c = unknown_exactly g.Self.Word.spelling g.Self.Word.every _ _ _ g.met.Self.Word.are_words c.lookup.ensures
