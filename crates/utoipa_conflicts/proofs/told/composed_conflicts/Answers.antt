use Rattle.std.proofs.Common.{◌≡◌, length, map, ap, sym, ◌∙◌, string_bytes}
use Rattle.std.proofs.lemmas.Result.{IfOk-weaker}
use Rattle.std.proofs.lemmas.Simd.{map-map}
use Rattle.serde_json.specs.View.{view}
use Rattle.utoipa_base.specs.Writing.{write}
use Rattle.utoipa_conflicts.specs.Merged.{in_text}
use Rattle.utoipa_conflicts.specs.Nested.{nested_conflicts, nested_paths, told_nested}
use Rattle.utoipa_conflicts.specs.Views.{conflict_of, all_told}
use Rattle.utoipa_conflicts.proofs.told.composed_conflicts.Goals as goal

pub tree_nested_conflicts-requires : goal.tree_nested_conflicts-requires
tree_nested_conflicts-requires g c = c.requires ∙ ap (λ d. length (nested_paths d)) (sym c.in_ok-nested.ensures)

pub returns : goal.returns
returns g c =
    let answers = map string_bytes c.args.answers.now in
    let all = told_nested answers (g.T.Documented.doc c.args.own.now) (g.T.Documented.doc c.args.nested.now) in
    let listed : map (λ x. in_text (conflict_of x)) c.deref.result.now ≡ all =
    ap (map (λ x. in_text (conflict_of x))) c.deref.ensures.value ∙ sym (map-map in_text conflict_of c.in_ok-conflicts.conflicts.items)
    ∙ ap (map in_text) (c.in_ok-conflicts.ensures ∙ ap (λ d. nested_conflicts answers d (view c.in_ok-nested.nested)) c.in_ok-own.ensures
    ∙ ap (nested_conflicts answers (write (g.T.Documented.doc c.args.own.now))) c.in_ok-nested.ensures)
    in
    IfOk-weaker c.all_in_text.result (λ v. all_told v.items ≡ map (λ x. in_text (conflict_of x)) c.deref.result.now) (λ v. all_told v.items ≡ all) (λ v is. is ∙ listed) c.all_in_text.ensures
