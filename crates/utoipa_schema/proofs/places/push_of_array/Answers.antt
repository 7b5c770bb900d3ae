use Rattle.std.proofs.Common.{◌∙◌, sym, ap, ◌++◌}
use Rattle.utoipa_schema.specs.Places.{places, data_of}
use Rattle.utoipa_schema.proofs.Walks.{joined_two, array-parts}
use Rattle.utoipa_schema.proofs.places.push_of_array.Goals as goal

pub returns : goal.returns
returns c =
    joined_two _ _ _ _ _ c.in_ok-push_one.ensures c.in_ok-push_list.ensures
    ∙ ap (λ ps. places c.args.stack.now.items ++ ps) (sym (array-parts (data_of c.args.members.now)))
