use Rattle.std.proofs.Common.{Some, ap, ◌∙◌, sym, string_bytes, nat_cmp}
use Rattle.std.specs.BTreeMap.{insert_entry}
use Rattle.std.specs.Cmp.Lexicographic.{slice_cmp}
use Rattle.utoipa_base.specs.Kinds.{schema}
use Rattle.utoipa_base.specs.Refs.{ref_or_doc}
use Rattle.utoipa_base.specs.Views.{pairs_of}
use Rattle.utoipa_schema.specs.Docs.{schema_doc}
use Rattle.utoipa_schema.specs.Outcomes.{of_map, outcome_doc, map_docs, add_entry}
use Rattle.utoipa_schema.proofs.Groups.{pairs_entered}
use Rattle.utoipa_schema.proofs.outcomes.with_entry.Goals as goal

pub returns : goal.returns
returns c =
    let f = ref_or_doc schema schema_doc in
    let es = c.in-Some-Some.map.entries in
    let name = string_bytes c.args.name.now in
    ap (λ l. of_map (Some (pairs_of f l))) c.in_ok-insert.ensures.entries
    ∙ ap (λ l. of_map (Some l)) (pairs_entered f es c.in_ok-name.name c.into_inner.result)
    ∙ ap (λ k. of_map (Some (insert_entry (slice_cmp nat_cmp) (pairs_of f es) k (f c.into_inner.result)))) c.in_ok-name.ensures.cases
    ∙ ap (λ v. of_map (Some (insert_entry (slice_cmp nat_cmp) (pairs_of f es) name (f v)))) c.into_inner.ensures
    ∙ sym (ap (λ m. add_entry name (outcome_doc c.args.outcome) (of_map (map_docs m))) c.in-Some-Some.is-0 ∙ ap (λ o. add_entry name (outcome_doc o) (of_map (map_docs (Some c.in-Some-Some.map)))) c.in-Some-Some.is-1)
