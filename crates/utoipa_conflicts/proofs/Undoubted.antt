-- What is read where nothing is in doubt is unambiguous, and so the laws of merging and nesting hold of it.
use Rattle.std.proofs.Common.{◌≡◌, ◌↔◌, ℕ, List, [], ◌∷◌, true, false, All}
use Rattle.std.proofs.lemmas.List.Elements.{All-from_recursion}
use Rattle.std.specs.List.{AllByRecursion}
use Rattle.std.specs.Option.{option_or}
use Rattle.serde_json.specs.Data.{Data}
use Rattle.utoipa_base.specs.Docs.{Doc}
use Rattle.utoipa_base.specs.Extensions.{is_extension}
use Rattle.utoipa_base.specs.Kinds.{open_api_object, named}
use Rattle.utoipa_base.specs.WellFormed.{IsUnambiguous}
use Rattle.utoipa_base.specs.Writing.{write}
use Rattle.utoipa_check.proofs.Undoubted.{undoubted_unambiguous}
use Rattle.utoipa_conflicts.specs.Conflicts.{Slot, place, place_of_item, conflicts}
use Rattle.utoipa_conflicts.specs.Holders.{IsNamedOnce}
use Rattle.utoipa_conflicts.specs.IsConflict.{IsOneOf}
use Rattle.utoipa_conflicts.specs.Kept.{kept}
use Rattle.utoipa_conflicts.specs.Merged.{AreMergedInto, IsAllThere, IsLost, is_slot, written}
use Rattle.utoipa_conflicts.specs.Nested.{answered, nested_conflicts, path_items, put_at}
use Rattle.utoipa_conflicts.specs.NestedInto.{AreNestedInto, IsLostByNesting}
use Rattle.utoipa_conflicts.specs.Trees.{Place, at_place}
use Rattle.utoipa_conflicts.specs.Undoubted.{IsRead, AreRead, AreReadAndMerged, AreReadAndNested}
use Rattle.utoipa_conflicts.proofs.MergedSlots.{merged_has_kept}
use Rattle.utoipa_conflicts.proofs.NestedPaths.{item_at_path}
use Rattle.utoipa_conflicts.proofs.NestedRest.{told_where_nested}
use Rattle.utoipa_conflicts.proofs.WhatIsLost.{told_where_lost, nothing_told_where_all_there}

one_unambiguous : (t : Data) (d : Doc) → IsRead t d → IsUnambiguous d
one_unambiguous t d h = undoubted_unambiguous (named open_api_object) t d h.0 h.1

all_unambiguous : (ts : List Data) (ds : List Doc) → AreRead ts ds → AllByRecursion IsUnambiguous ds
all_unambiguous [] [] h = tt
all_unambiguous [] (d ∷ ds) h = absurd h
all_unambiguous (t ∷ ts) [] h = absurd h
all_unambiguous (t ∷ ts) (d ∷ ds) h = (one_unambiguous t d h.0, all_unambiguous ts ds h.1)

merged_of_read : (ts : List Data) (ds : List Doc) (d : Doc) → AreReadAndMerged ts ds d → AreMergedInto ds d
merged_of_read ts ds d h = record { each = h.each; unambiguous = All-from_recursion IsUnambiguous ds (all_unambiguous ts ds h.were_read); merged = h.merged; ordered = h.ordered }

pub kept_of_read : (ts : List Data) (ds : List Doc) (d : Doc) → AreReadAndMerged ts ds d → (s : Slot) → is_slot s ≡ true → at_place (place s) (write d) ≡ kept s (written ds)
kept_of_read ts ds d h = merged_has_kept ds d (merged_of_read ts ds d h)

pub lost_of_read : (ts : List Data) (ds : List Doc) (d : Doc) → AreReadAndMerged ts ds d → All IsNamedOnce (written ds) → (p : Place) (j : ℕ) → ((i : ℕ) × IsOneOf (p, i, j) (conflicts (written ds))) ↔ IsLost ds d p j
lost_of_read ts ds d h once = told_where_lost ds d (merged_of_read ts ds d h) once

pub nothing_of_read : (ts : List Data) (ds : List Doc) (d : Doc) → AreReadAndMerged ts ds d → All IsNamedOnce (written ds) → (conflicts (written ds) ≡ []) ↔ IsAllThere ds d
nothing_of_read ts ds d h once = nothing_told_where_all_there ds d (merged_of_read ts ds d h) once

nested_of_read : (answers : List (List ℕ)) (s t : Data) (own other d : Doc) → AreReadAndNested answers s t own other d → AreNestedInto answers own other d
nested_of_read answers s t own other d h =
    record {
      own_kind = h.own_kind;
      other_kind = h.other_kind;
      own_unambiguous = one_unambiguous s own h.own_read;
      other_unambiguous = one_unambiguous t other h.other_read;
      own_ordered = h.own_ordered;
      other_ordered = h.other_ordered;
      answered = h.answered;
      nested = h.nested;
      ordered = h.ordered;
    }

pub items_of_read : (answers : List (List ℕ)) (s t : Data) (own other d : Doc) → AreReadAndNested answers s t own other d → (path : List ℕ) → is_extension path ≡ false
    → at_place (place_of_item path) (write d) ≡ option_or (put_at (answered answers (path_items (write other))) path) (at_place (place_of_item path) (write own))
items_of_read answers s t own other d h = item_at_path answers own other d (nested_of_read answers s t own other d h)

pub lost_by_nesting_read : (answers : List (List ℕ)) (s t : Data) (own other d : Doc) → AreReadAndNested answers s t own other d → IsNamedOnce (write own) → IsNamedOnce (write other) → (p : Place) (j : ℕ)
    → ((i : ℕ) × IsOneOf (p, i, j) (nested_conflicts answers (write own) (write other))) ↔ IsLostByNesting answers own other d p j
lost_by_nesting_read answers s t own other d h = told_where_nested answers own other d (nested_of_read answers s t own other d h)
