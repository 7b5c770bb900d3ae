use Rattle.std.proofs.Common.{◌∙◌, sym, ap, ◌++◌}
use Rattle.utoipa_schema.specs.Places.{places, data_of}
use Rattle.utoipa_schema.proofs.Walks.{joined_three, object-parts}
use Rattle.utoipa_schema.proofs.places.push_of_object.Goals as goal

pub returns : goal.returns
returns c =
    joined_three _ _ _ _ _ _ _ c.in_ok-push_map.ensures c.in_ok-push_one.ensures c.in_ok-push_one-2.ensures
    ∙ ap (λ ps. places c.args.stack.now.items ++ ps) (sym (object-parts (data_of c.args.members.now)))
