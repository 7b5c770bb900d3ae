use Rattle.std.proofs.Common.{◌≡◌, ◌∷◌, ◌∙◌, [], ap, refl, rules, string_cmp}
use Rattle.std.specs.BTreeMap.{insert_entry}
use Rattle.utoipa_base.specs.Views.{pairs_of}
use Rattle.utoipa_operation_parts.specs.Traits.{with_later}
use Rattle.utoipa_operation_parts.proofs.ResponsesByCode.{put_as_docs}
use Rattle.utoipa_document_cases.proofs.made.both.Goals as goal

pub returns : goal.returns
returns g c = λ f.
    let first = c.in_ok-first_key in
    let second = c.in_ok-second_key in
    let none : c.new-map.result.entries ≡ [] = search rules in
    let entries : c.put-2.new.map.entries ≡ insert_entry string_cmp (insert_entry string_cmp [] first.first_key c.args.first) second.second_key c.args.second =
    c.in_ok-put-2.ensures.ok ∙ ap (λ es. insert_entry string_cmp es second.second_key c.args.second) (c.in_ok-put.ensures.ok ∙ ap (λ es. insert_entry string_cmp es first.first_key c.args.first) none) in
    ap (pairs_of f) entries
    ∙ put_as_docs f ((first.first_key, c.args.first) ∷ (second.second_key, c.args.second) ∷ []) []
    ∙ rw (first.ensures.ok, second.ensures.ok) refl
