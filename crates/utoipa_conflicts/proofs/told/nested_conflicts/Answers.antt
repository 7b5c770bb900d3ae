use Rattle.std.proofs.Common.{◌≡◌, ◌++◌, List, ℕ, String, Global, length, map, ap, sym, ◌∙◌, string_bytes}
use Rattle.std.proofs.lemmas.List.{length-map}
use Rattle.std.proofs.lemmas.Result.{IfOk-weaker}
use Rattle.std.proofs.lemmas.Simd.{map-map}
use Rattle.serde_json.specs.Data.{Data}
use Rattle.utoipa_base.specs.Writing.{write}
use Rattle.utoipa_conflicts.specs.Nested.{behind, nested_paths, path_items, told_nested}
use Rattle.utoipa_conflicts.specs.Views.{item_of, all_told}
use Rattle.utoipa_conflicts.proofs.told.nested_conflicts.Goals as goal

-- there are as many paths behind a base as paths
as_many : (base : List ℕ) (nested : Data) (paths : List (String Global)) → map string_bytes paths ≡ behind base nested → length paths ≡ length (nested_paths nested)
as_many base nested paths are =
    sym (length-map paths string_bytes) ∙ ap length are ∙ length-map (path_items nested) (λ i. base ++ i.0) ∙ sym (length-map (path_items nested) (λ i. i.0))

pub composed_conflicts-requires : goal.composed_conflicts-requires
composed_conflicts-requires g c =
    let base = c.args.base.now in
    let nested = g.T.Documented.doc c.args.nested.now in
    let answers : map string_bytes c.deref.result.now ≡ behind base (write nested) =
    ap (map string_bytes) c.deref.ensures.value ∙ c.in_ok-answers.ensures ∙ sym (map-map (λ i. base ++ i.0) item_of c.in_ok-items.items.items)
    ∙ ap (map (λ i. base ++ i.0)) c.in_ok-items.ensures ∙ ap (behind base) c.in_ok-tree.ensures
    in
    as_many base (write nested) c.deref.result.now answers

pub returns : goal.returns
returns g c =
    let base = c.args.base.now in
    let own = g.T.Documented.doc c.args.own.now in
    let nested = g.T.Documented.doc c.args.nested.now in
    let answers : map string_bytes c.deref.result.now ≡ behind base (write nested) =
    ap (map string_bytes) c.deref.ensures.value ∙ c.in_ok-answers.ensures ∙ sym (map-map (λ i. base ++ i.0) item_of c.in_ok-items.items.items)
    ∙ ap (map (λ i. base ++ i.0)) c.in_ok-items.ensures ∙ ap (behind base) c.in_ok-tree.ensures
    in
    IfOk-weaker c.composed_conflicts.result (λ v. all_told v.items ≡ told_nested (map string_bytes c.deref.result.now) own nested) (λ v. all_told v.items ≡ told_nested (behind base (write nested)) own nested)
    (λ v is. is ∙ ap (λ a. told_nested a own nested) answers) c.composed_conflicts.ensures
