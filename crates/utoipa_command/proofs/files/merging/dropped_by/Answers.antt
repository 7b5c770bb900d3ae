use Rattle.std.proofs.Common.{◌∙◌, ap, sym}
use Rattle.std.proofs.lemmas.Simd.{map-map}
use Rattle.std.specs.List.{flat_map}
use Rattle.utoipa_conflicts.specs.Conflicts.{conflicts}
use Rattle.utoipa_conflicts.specs.Deciders.{trees_of}
use Rattle.utoipa_findings.specs.Lines.{conflict_line}
use Rattle.utoipa_findings.specs.Views.{names_of}
use Rattle.utoipa_base.specs.Writing.{write}
use Rattle.utoipa.specs.OpenApi.{openapi_doc}
use Rattle.utoipa_command.proofs.Documents.{if_ok}
use Rattle.utoipa_command.proofs.files.merging.dropped_by.Goals as goal

pub returns : goal.returns
returns c =
    let trees = ap trees_of c.deref.ensures.value ∙ c.in_ok-trees.ensures ∙ sym (map-map write openapi_doc c.args.documents.now) in
    if_ok _ _ c.conflict_lines.result c.conflict_lines.ensures (λ lines is. is ∙ ap (λ ts. flat_map (conflict_line (names_of c.args.sources.now)) (conflicts ts)) trees)
