use Rattle.std.proofs.Common.{◌≡◌, map, take}
use Rattle.utoipa_base.specs.Views.{tree_of}
use Rattle.utoipa.specs.OwnSchemas.{text_tree}
use Rattle.utoipa.specs.Tags.{texts_of}
use Rattle.utoipa.proofs.own_schemas.text_values.Given as goal

abbrev pub invariant-loop-text : goal.invariant-loop-text
invariant-loop-text l = map tree_of l.values.items ≡ map text_tree (texts_of (take l.text-index l.texts))
