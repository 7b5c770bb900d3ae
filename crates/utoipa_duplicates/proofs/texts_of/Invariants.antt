use Rattle.std.proofs.Common.{◌≡◌, ◌++◌, map, take, string_bytes}
use Rattle.utoipa_check.specs.Pointers.{pointer_text}
use Rattle.utoipa_duplicates.specs.Views.{places_of}
use Rattle.utoipa_duplicates.proofs.texts_of.Given as goal

abbrev pub invariant-loop-pointer : goal.invariant-loop-pointer
invariant-loop-pointer l = map string_bytes l.texts.items ≡ map pointer_text (places_of (take l.pointer-index l.pointers))
