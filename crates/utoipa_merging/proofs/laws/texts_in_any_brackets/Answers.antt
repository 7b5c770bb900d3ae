use Rattle.std.proofs.lemmas.List.Elements.{recursion_from_All}
use Rattle.utoipa_merging.specs.Texts.{IsUnambiguousText, text_leaves}
use Rattle.utoipa_merging.proofs.TextsMerged.{text_brackets_agree, texts_in_brackets, written_in_brackets}
use Rattle.utoipa_merging.proofs.laws.texts_in_any_brackets.Goals as goal

pub returns-clause-at_once : goal.returns-clause-at_once
returns-clause-at_once c = texts_in_brackets

pub returns-clause-agree : goal.returns-clause-agree
returns-clause-agree c = text_brackets_agree

pub returns-clause-written : goal.returns-clause-written
returns-clause-written c = λ b d u h. written_in_brackets b d (recursion_from_All IsUnambiguousText (text_leaves b) u) h
