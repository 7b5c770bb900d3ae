use Rattle.std.proofs.Common.{◌∙◌, sym, ap, ◌++◌}
use Rattle.utoipa_schema.specs.Places.{places, data_of, of_combinations, of_array, of_object, of_content}
use Rattle.utoipa_schema.proofs.Walks.{joined_two, joined_three, each-parts}
use Rattle.utoipa_schema.proofs.places.push_inner.Goals as goal

pub returns : goal.returns
returns c =
    let m = data_of c.args.members.now in
    let later = of_array m ++ (of_object m ++ of_content m) in
    joined_two (places c.args.stack.now.items) (of_combinations m) later (places c.push_combinations.new.stack.items) (places c.push_one.new.stack.items) c.in_ok-push_combinations.ensures
    (joined_three _ _ _ _ _ _ _ c.in_ok-push_of_array.ensures c.in_ok-push_of_object.ensures c.in_ok-push_one.ensures)
    ∙ ap (λ ps. places c.args.stack.now.items ++ ps) (sym (each-parts m))
