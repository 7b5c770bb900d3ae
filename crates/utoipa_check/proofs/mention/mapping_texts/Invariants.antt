use Rattle.std.proofs.Common.{◌≡◌, ◌++◌}
use Rattle.serde_json.specs.View.{members_view}
use Rattle.utoipa_check.specs.ReferenceViews.{mentions_of}
use Rattle.utoipa_check.specs.References.{mapping_texts}
use Rattle.utoipa_check.proofs.mention.mapping_texts.Given as goal

abbrev pub invariant-loop-name : goal.invariant-loop-name
invariant-loop-name l = mentions_of l.found.items ++ mapping_texts (members_view l.name-iterator) ≡ mapping_texts (members_view l.initial.name-iterator)
