use Rattle.std.proofs.Common.{◌≡◌, ◌∙◌, ◌++◌, map, ap, sym, codes, string_bytes}
use Rattle.std.proofs.lemmas.Result.{IfOk-weaker}
use Rattle.std.proofs.lemmas.Simd.{map-map}
use Rattle.std.specs.List.{flat_map}
use Rattle.serde_json.specs.View.{view}
use Rattle.utoipa_conflicts.specs.Nested.{behind, nested_conflicts, path_items}
use Rattle.utoipa_conflicts.specs.Views.{all_conflicts}
use Rattle.utoipa_findings.specs.Lines.{dropped_line}
use Rattle.utoipa_findings.specs.Views.{names_of}
use Rattle.utoipa_findings.proofs.conflict.nested_conflict_lines.Goals as goal

pub returns : goal.returns
returns c =
    let base = c.args.base.now in
    let own = view c.args.own.now in
    let nested = view c.args.nested.now in
    let answers : map string_bytes c.deref-2.result.now ≡ behind base nested =
    ap (map string_bytes) c.deref-2.ensures.value ∙ c.in_ok-answers.ensures ∙ ap (map (λ p. base ++ p.now)) c.deref.ensures.value
    ∙ sym (map-map (λ b. base ++ b) (λ p. p.now) c.in_ok-paths.paths.items) ∙ ap (map (λ b. base ++ b)) c.in_ok-paths.ensures.paths ∙ map-map (λ b. base ++ b) (λ i. i.0) (path_items nested)
    in
    let found : all_conflicts c.deref-3.result.now ≡ nested_conflicts (behind base nested) own nested =
    ap all_conflicts c.deref-3.ensures.value ∙ c.in_ok-found.ensures ∙ ap (λ a. nested_conflicts a own nested) answers
    in
    IfOk-weaker c.lines_of_conflicts.result _ _ (λ lines is. is ∙ ap (flat_map (dropped_line (codes "nesting") (names_of c.args.sources.now))) found) c.lines_of_conflicts.ensures
