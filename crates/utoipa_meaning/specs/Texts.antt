-- What a change is printed as.
use Rattle.std.specs.Prelude.{ℕ, List, ◌++◌, codes, decimal}
use Rattle.std.specs.List.{flat_map}
use Rattle.utoipa_check.specs.Pointers.{shown_pointer}
use Rattle.utoipa_check.specs.Shown.{ended}
use Rattle.utoipa_meaning.specs.Changes.{Source, of_operation, of_path_item, of_document, by_default, Difference, other_security, other_servers, other_parameters, Change}

-- whose it is in the operation's own document, with the words for what holds where nothing is said
abbrev pub own_text : (nothing : List ℕ) → Source → List ℕ
own_text nothing of_operation = codes "the operation's"
own_text nothing of_path_item = codes "the path item's"
own_text nothing of_document = codes "the document's"
own_text nothing by_default = nothing

-- whose it is in the merged document
abbrev pub merged_text : (nothing : List ℕ) → Source → List ℕ
merged_text nothing of_operation = codes "the merged operation's"
merged_text nothing of_path_item = codes "the merged path item's"
merged_text nothing of_document = codes "the merged document's"
merged_text nothing by_default = nothing

abbrev pub difference_text : Difference → List ℕ
difference_text (other_security own merged) =
    codes "effective security changes from " ++ own_text (codes "none") own ++ codes " to " ++ merged_text (codes "none") merged
difference_text (other_servers own merged) =
    codes "effective servers change from " ++ own_text (codes "the default") own ++ codes " to " ++ merged_text (codes "the default") merged
difference_text other_parameters = codes "effective parameters change"

-- the JSON Pointer of the operation, the number of its document, and what differs
abbrev pub change_text : Change → List ℕ
change_text c = shown_pointer c.0 ++ codes ": document " ++ decimal c.1 ++ codes ": " ++ difference_text c.2

-- a line for each
abbrev pub change_lines : List Change → List ℕ
change_lines cs = flat_map (λ c. ended (change_text c)) cs
