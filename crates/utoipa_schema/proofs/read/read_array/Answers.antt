use Rattle.std.proofs.Common.{◌≡◌, [], ◌++◌, true, ap, ◌∙◌, rules, arith, codes}
use Rattle.serde_json.specs.View.{view}
use Rattle.utoipa_schema.specs.Outcomes.{grouped}
use Rattle.utoipa_schema.specs.Places.{places, total, data_of, members_of, of_array, of_content}
use Rattle.utoipa_schema.proofs.Fitting.{reads_from}
use Rattle.utoipa_schema.proofs.SchemaMembers.{schema_values}
use Rattle.utoipa_schema.proofs.Walks.{total-append, array_fewer, one_fewer}
use Rattle.utoipa_schema.proofs.read.read_array.Goals as goal

pub returns-in_err-push_of_array : goal.returns-in_err-push_of_array
returns-in_err-push_of_array c = record { ok = search rules; err = search rules; grows = omega arith; at_most = omega arith; at_least = search rules }

pub returns-in_err-push_one : goal.returns-in_err-push_one
returns-in_err-push_one c = record { ok = search rules; err = search rules; grows = omega arith; at_most = omega arith; at_least = search rules }

pub returns-in_err-filled : goal.returns-in_err-filled
returns-in_err-filled c =
    let d = view c.args.tree.now in
    let m = data_of c.find_members-members.result in
    let none : c.new-roots.result.items ≡ [] = search rules in
    let first : places c.push_of_array.new.stack.items ≡ of_array m = c.in_ok-push_of_array.ensures ∙ ap (λ xs. places xs ++ of_array m) none in
    let roots : places c.push_one.new.stack.items ≡ of_array (members_of d) ++ of_content (members_of d) = c.in_ok-push_one.ensures ∙ ap (λ ps. ps ++ of_content m) first ∙ ap (λ n. of_array n ++ of_content n) c.find_members-members.ensures in
    record { ok = search rules; err = search rules; grows = c.read_places.ensures.grows; at_most = omega (arith, c.read_places.ensures.at_most, ap total roots, schema_values d, array_fewer d, one_fewer true (codes "contentSchema") d, total-append (of_array (members_of d)) (of_content (members_of d))); at_least = search rules }

pub whole_array_from-requires-clause-filled : goal.whole_array_from-requires-clause-filled
whole_array_from-requires-clause-filled c =
    let m = data_of c.find_members-members.result in
    let none : c.new-roots.result.items ≡ [] = search rules in
    let first : places c.push_of_array.new.stack.items ≡ of_array m = c.in_ok-push_of_array.ensures ∙ ap (λ xs. places xs ++ of_array m) none in
    let roots : places c.push_one.new.stack.items ≡ of_array m ++ of_content m = c.in_ok-push_one.ensures ∙ ap (λ ps. ps ++ of_content m) first in
    c.in_ok-filled.ensures.read ∙ ap grouped roots

pub returns : goal.returns
returns c =
    let d = view c.args.tree.now in
    let m = data_of c.find_members-members.result in
    let none : c.new-roots.result.items ≡ [] = search rules in
    let first : places c.push_of_array.new.stack.items ≡ of_array m = c.in_ok-push_of_array.ensures ∙ ap (λ xs. places xs ++ of_array m) none in
    let roots : places c.push_one.new.stack.items ≡ of_array (members_of d) ++ of_content (members_of d) = c.in_ok-push_one.ensures ∙ ap (λ ps. ps ++ of_content m) first ∙ ap (λ n. of_array n ++ of_content n) c.find_members-members.ensures in
    reads_from _ c.whole_array_from.result _ _ _ _ _ _ c.whole_array_from.ensures c.read_places.ensures.grows c.read_places.ensures.at_most (omega (arith, ap total roots, schema_values d, array_fewer d, one_fewer true (codes "contentSchema") d, total-append (of_array (members_of d)) (of_content (members_of d)))) c.in_ok-filled.ensures.at_least
