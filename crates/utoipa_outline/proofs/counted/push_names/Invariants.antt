use Rattle.std.proofs.Common.{◌≡◌, ◌++◌}
use Rattle.serde_json.specs.View.{members_view}
use Rattle.utoipa_base.specs.EachMember.{each_member}
use Rattle.utoipa_outline.specs.Counted.{path_name}
use Rattle.utoipa_outline.specs.Views.{texts_of}
use Rattle.utoipa_outline.proofs.counted.push_names.Given as goal

abbrev pub invariant-loop-name : goal.invariant-loop-name
invariant-loop-name l =
    texts_of l.names.items ++ each_member path_name (members_view l.name-iterator) ≡ texts_of l.initial.names.items ++ each_member path_name (members_view l.initial.name-iterator)
