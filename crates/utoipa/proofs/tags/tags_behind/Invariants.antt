use Rattle.std.proofs.Common.{◌≡◌, ◌++◌, map, take, string_bytes}
use Rattle.utoipa_path.specs.Lists.{items_if_any}
use Rattle.utoipa.specs.Tags.{texts_of}
use Rattle.utoipa.proofs.tags.tags_behind.Given as goal

abbrev pub invariant-loop-tag : goal.invariant-loop-tag
invariant-loop-tag l = map string_bytes l.tags.items ≡ map string_bytes (items_if_any l.fn.own) ++ texts_of (take l.tag-index l.tag-items)
