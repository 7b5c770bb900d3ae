use Rattle.std.proofs.Common.{◌∙◌, sym, ap, ◌++◌}
use Rattle.utoipa_schema.specs.Places.{places, data_of}
use Rattle.utoipa_schema.proofs.Walks.{joined_three, combinations-parts}
use Rattle.utoipa_schema.proofs.places.push_combinations.Goals as goal

pub returns : goal.returns
returns c =
    joined_three _ _ _ _ _ _ _ c.in_ok-push_list.ensures c.in_ok-push_list-2.ensures c.in_ok-push_list-3.ensures
    ∙ ap (λ ps. places c.args.stack.now.items ++ ps) (sym (combinations-parts (data_of c.args.members.now)))
