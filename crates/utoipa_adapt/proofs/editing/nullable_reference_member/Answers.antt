use Rattle.std.proofs.Common.{◌≡◌, ◌∙◌, ◌∷◌, [], sym, ap, subst, IfOk, None, Some, option_map, codes}
use Rattle.serde_json.specs.Data.{object, put}
use Rattle.serde_json.specs.View.{view, members_view}
use Rattle.utoipa_adapt.specs.Rules.{combination, null_schema}
use Rattle.utoipa_adapt.specs.Trees.{without, without_all, put_some, with_item}
use Rattle.utoipa_adapt.proofs.Turns.{combined_left}
use Rattle.utoipa_adapt.proofs.editing.nullable_reference_member.Goals as goal

pub returns-in-None : goal.returns-in-None
returns-in-None c =
    let ms = members_view c.args.members.entries in
    let left = c.take.ensures.rest ∙ ap (without (codes "nullable")) (c.take-any_of.ensures.rest ∙ ap (without (codes "anyOf")) (c.take-one_of.ensures.rest ∙ ap (without (codes "oneOf")) c.take-all_of.ensures.rest)) in
    let is = combined_left ms _ _ _ _ _ c.take-all_of.ensures.value c.take-all_of.ensures.rest c.take-one_of.ensures.value c.take-one_of.ensures.rest c.take-any_of.ensures.value in
    let none : combination (object ms) ≡ None = sym is ∙ ap (option_map view) (sym c.in-None.ensures) in
    left ∙ ap (λ o. put_some (codes "anyOf") (option_map (with_item null_schema) o) (without_all (codes "allOf" ∷ codes "oneOf" ∷ codes "anyOf" ∷ codes "nullable" ∷ []) ms)) (sym none)

pub returns-in_ok-with_item-in-Some : goal.returns-in_ok-with_item-in-Some
returns-in_ok-with_item-in-Some c =
    let ms = members_view c.args.members.entries in
    let only = view c.in-Some.only in
    let left = c.take.ensures.rest ∙ ap (without (codes "nullable")) (c.take-any_of.ensures.rest ∙ ap (without (codes "anyOf")) (c.take-one_of.ensures.rest ∙ ap (without (codes "oneOf")) c.take-all_of.ensures.rest)) in
    let is = combined_left ms _ _ _ _ _ c.take-all_of.ensures.value c.take-all_of.ensures.rest c.take-one_of.ensures.value c.take-one_of.ensures.rest c.take-any_of.ensures.value in
    let some : combination (object ms) ≡ Some only = sym is ∙ ap (option_map view) (sym c.in-Some.ensures) in
    let made = c.in_ok-with_item-in-Some.ensures ∙ ap (λ n. with_item n only) c.in_ok-null_schema-in-Some.ensures in
    let changed =
    ap (λ d. put (codes "anyOf") d (members_view c.take.new.members.entries)) made ∙ ap (put (codes "anyOf") (with_item null_schema only)) left
    ∙ ap (λ o. put_some (codes "anyOf") (option_map (with_item null_schema) o) (without_all (codes "allOf" ∷ codes "oneOf" ∷ codes "anyOf" ∷ codes "nullable" ∷ []) ms)) (sym some) in
    subst (λ x. IfOk c.with_entry.result (λ m. members_view m.entries ≡ x)) changed c.with_entry.ensures
