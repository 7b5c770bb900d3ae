-- The texts of changes are lines.
use Rattle.std.proofs.Common.{ℕ, List, ◌++◌, codes, decimal, length, refl}
use Rattle.utoipa_check.specs.Pointers.{shown_pointer}
use Rattle.utoipa_check.specs.Shown.{IsOneLine, AreLines, ended}
use Rattle.utoipa_check.proofs.SaidOnLines.{before_words}
use Rattle.utoipa_check.proofs.ShownPointers.{pointer_line}
use Rattle.utoipa_check.proofs.ShownTexts.{one_line_append, printed}
use Rattle.utoipa_check.proofs.WholeLines.{decimal_line, end_of, lines_of_each}
use Rattle.utoipa_meaning.specs.Changes.{Source, of_operation, of_path_item, of_document, by_default, Difference, other_security, other_servers, other_parameters, Change}
use Rattle.utoipa_meaning.specs.Texts.{own_text, merged_text, difference_text, change_text, change_lines}

own_line : (nothing : List ℕ) (s : Source) → IsOneLine nothing → IsOneLine (own_text nothing s)
own_line nothing of_operation h = printed (codes "the operation's") refl
own_line nothing of_path_item h = printed (codes "the path item's") refl
own_line nothing of_document h = printed (codes "the document's") refl
own_line nothing by_default h = h

merged_line : (nothing : List ℕ) (s : Source) → IsOneLine nothing → IsOneLine (merged_text nothing s)
merged_line nothing of_operation h = printed (codes "the merged operation's") refl
merged_line nothing of_path_item h = printed (codes "the merged path item's") refl
merged_line nothing of_document h = printed (codes "the merged document's") refl
merged_line nothing by_default h = h

from_to : (words nothing : List ℕ) (own merged : Source) → IsOneLine words → IsOneLine nothing → IsOneLine (words ++ own_text nothing own ++ codes " to " ++ merged_text nothing merged)
from_to words nothing own merged h none =
    let first = one_line_append words (own_text nothing own) h (own_line nothing own none) in
    let second = before_words (words ++ own_text nothing own) (codes " to ") first refl in
    one_line_append (words ++ own_text nothing own ++ codes " to ") (merged_text nothing merged) second (merged_line nothing merged none)

difference_line : (e : Difference) → IsOneLine (difference_text e)
difference_line (other_security own merged) = from_to (codes "effective security changes from ") (codes "none") own merged (printed (codes "effective security changes from ") refl) (printed (codes "none") refl)
difference_line (other_servers own merged) = from_to (codes "effective servers change from ") (codes "the default") own merged (printed (codes "effective servers change from ") refl) (printed (codes "the default") refl)
difference_line other_parameters = printed (codes "effective parameters change") refl

pub change_line : (c : Change) → IsOneLine (change_text c)
change_line c =
    let first = before_words (shown_pointer c.0) (codes ": document ") (pointer_line c.0) refl in
    let second = one_line_append (shown_pointer c.0 ++ codes ": document ") (decimal c.1) first (decimal_line c.1) in
    let third = before_words (shown_pointer c.0 ++ codes ": document " ++ decimal c.1) (codes ": ") second refl in
    one_line_append (shown_pointer c.0 ++ codes ": document " ++ decimal c.1 ++ codes ": ") (difference_text c.2) third (difference_line c.2)

pub changes_are_lines : (cs : List Change) → AreLines (length cs) (change_lines cs)
changes_are_lines cs = lines_of_each (λ c. ended (change_text c)) (λ c. end_of (change_text c) (change_line c)) cs
