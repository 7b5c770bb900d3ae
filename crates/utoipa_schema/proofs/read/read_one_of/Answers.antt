use Rattle.std.proofs.Common.{◌≡◌, [], ◌++◌, true, ap, ◌∙◌, rules, arith, codes}
use Rattle.serde_json.specs.Find.{get}
use Rattle.serde_json.specs.View.{view}
use Rattle.utoipa_schema.specs.Outcomes.{grouped}
use Rattle.utoipa_schema.specs.Places.{places, total, elements, part, in_list, found}
use Rattle.utoipa_schema.proofs.Fitting.{reads_from}
use Rattle.utoipa_schema.proofs.Walks.{list_fewer}
use Rattle.utoipa_schema.proofs.read.read_one_of.Goals as goal

pub returns-in_err-push_list : goal.returns-in_err-push_list
returns-in_err-push_list c = record { ok = search rules; err = search rules; grows = omega arith; at_most = omega arith; at_least = search rules }

pub returns-in_err-filled : goal.returns-in_err-filled
returns-in_err-filled c =
    let none : c.new-roots.result.items ≡ [] = search rules in
    let here : found c.get-member.result ≡ get (codes "oneOf") (view c.args.tree.now) = search rules in
    let roots : places c.push_list.new.stack.items ≡ in_list true (codes "oneOf") (view c.args.tree.now) = c.in_ok-push_list.ensures ∙ ap (λ xs. places xs ++ part (elements true) (found c.get-member.result)) none ∙ ap (part (elements true)) here in
    record { ok = search rules; err = search rules; grows = c.read_places.ensures.grows; at_most = omega (arith, c.read_places.ensures.at_most, ap total roots, list_fewer true (codes "oneOf") (view c.args.tree.now)); at_least = search rules }

pub one_of_from-requires-clause-inside : goal.one_of_from-requires-clause-inside
one_of_from-requires-clause-inside c =
    let none : c.new-roots.result.items ≡ [] = search rules in
    let roots : places c.push_list.new.stack.items ≡ part (elements true) (found c.get-member.result) = c.in_ok-push_list.ensures ∙ ap (λ xs. places xs ++ part (elements true) (found c.get-member.result)) none in
    (c.take_list-outcome.ensures.read true [] (c.in_ok-filled.ensures.read ∙ ap grouped roots)).0

pub returns : goal.returns
returns c =
    let none : c.new-roots.result.items ≡ [] = search rules in
    let here : found c.get-member.result ≡ get (codes "oneOf") (view c.args.tree.now) = search rules in
    let roots : places c.push_list.new.stack.items ≡ in_list true (codes "oneOf") (view c.args.tree.now) = c.in_ok-push_list.ensures ∙ ap (λ xs. places xs ++ part (elements true) (found c.get-member.result)) none ∙ ap (part (elements true)) here in
    reads_from _ c.one_of_from.result _ _ _ _ _ _ c.one_of_from.ensures c.read_places.ensures.grows c.read_places.ensures.at_most (omega (arith, ap total roots, list_fewer true (codes "oneOf") (view c.args.tree.now))) (λ below. omega (arith, c.in_ok-filled.ensures.at_least below, c.take_list-outcome.ensures.counted))
