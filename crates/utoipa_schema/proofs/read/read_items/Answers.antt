use Rattle.std.proofs.Common.{◌≡◌, [], ◌++◌, true, ap, ◌∙◌, rules, arith}
use Rattle.serde_json.specs.View.{view}
use Rattle.utoipa_schema.specs.Outcomes.{grouped}
use Rattle.utoipa_schema.specs.Places.{places, total, alone}
use Rattle.utoipa_schema.proofs.Fitting.{reads_from}
use Rattle.utoipa_schema.proofs.Walks.{alone_fewer}
use Rattle.utoipa_schema.proofs.read.read_items.Goals as goal

pub returns-in_err-push_alone : goal.returns-in_err-push_alone
returns-in_err-push_alone c = record { ok = search rules; err = search rules; grows = omega arith; at_most = omega arith; at_least = search rules }

pub returns-in_err-filled : goal.returns-in_err-filled
returns-in_err-filled c =
    let none : c.new-roots.result.items ≡ [] = search rules in
    let roots : places c.push_alone.new.stack.items ≡ alone true (view c.args.tree.now) = c.in_ok-push_alone.ensures ∙ ap (λ xs. places xs ++ alone true (view c.args.tree.now)) none in
    record { ok = search rules; err = search rules; grows = c.read_places.ensures.grows; at_most = omega (arith, c.read_places.ensures.at_most, ap total roots, alone_fewer true (view c.args.tree.now)); at_least = search rules }

pub items_from-requires : goal.items_from-requires
items_from-requires c =
    let none : c.new-roots.result.items ≡ [] = search rules in
    let roots : places c.push_alone.new.stack.items ≡ alone true (view c.args.tree.now) = c.in_ok-push_alone.ensures ∙ ap (λ xs. places xs ++ alone true (view c.args.tree.now)) none in
    (c.take_alone.ensures.read true [] (c.in_ok-filled.ensures.read ∙ ap grouped roots)).0

pub returns : goal.returns
returns c =
    let none : c.new-roots.result.items ≡ [] = search rules in
    let roots : places c.push_alone.new.stack.items ≡ alone true (view c.args.tree.now) = c.in_ok-push_alone.ensures ∙ ap (λ xs. places xs ++ alone true (view c.args.tree.now)) none in
    reads_from _ c.items_from.result _ _ _ _ _ _ c.items_from.ensures c.read_places.ensures.grows c.read_places.ensures.at_most (omega (arith, ap total roots, alone_fewer true (view c.args.tree.now))) (λ below. omega (arith, c.in_ok-filled.ensures.at_least below, c.take_alone.ensures.counted))
