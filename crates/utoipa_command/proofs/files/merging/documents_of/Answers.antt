use Rattle.std.proofs.Common.{◌≡◌, ◌∙◌, ◌++◌, [], inl, inr, get_or, refl, sym, ap, string_bytes}
use Rattle.std.proofs.lemmas.List.{append-nil}
use Rattle.utoipa_findings.specs.Sources.{file_of}
use Rattle.utoipa_findings.specs.Told.{IsRefused}
use Rattle.utoipa_findings.proofs.ComesBack.{second_none}
use Rattle.utoipa_findings.proofs.NothingTold.{refused_some}
use Rattle.utoipa.specs.OpenApi.{openapi_doc}
use Rattle.utoipa_command.specs.Files.{document_kind}
use Rattle.utoipa_command.proofs.EachFile.{sources_put, losses_put, told_put, told_lines}
use Rattle.utoipa_command.proofs.files.merging.documents_of.Goals as goal
use Rattle.utoipa_command.proofs.files.merging.documents_of.Goals.{in-Ok+in_ok-push-in-Ok, in-Err-Told+in_ok-push_str-in-Err-Told}

pub loop-source-preserved : goal.loop-source-preserved
loop-source-preserved c =
    let sources = c.args.sources.now in
    let i = c.loop-source.source-index in
    let so_far = string_bytes c.loop-source.refused in
    let within = c.loop-source-test.true in
    elim c.match-document.branch [
      | in-Ok+in_ok-push-in-Ok w ↦
          let pushed = ap (λ v. v.items) w.documents-is ∙ w.in_ok-push-in-Ok.ensures.items in
          let refused : string_bytes c.match-document.refused ≡ so_far = ap string_bytes w.refused-is in
          record {
            kept =
                λ none. let k = c.loop-source.invariant.kept (sym refused ∙ none) in (
                  sources_put openapi_doc c.loop-source.documents.items _ w.in-Ok.document sources i _ k.0 within pushed w.in-Ok.ensures.ok,
                  losses_put sources i _ (string_bytes c.args.lost.now) (string_bytes c.loop-source.lost) _ within k.1 w.in-Ok.ensures.told,
                );
            told = told_put sources i _ so_far [] _ within c.loop-source.invariant.told (inr ((_, w.in-Ok.ensures.ok), refl)) (refused ∙ sym (append-nil so_far));
          }
      | in-Err-Told+in_ok-push_str-in-Err-Told w ↦
          let told = w.in-Err-Told in
          let lines = string_bytes told.lines in
          let file = file_of (get_or sources i _) in
          let why : IsRefused document_kind file lines = told_lines (IsRefused document_kind file) told.field-0 told.lines told.ensures.err told.field-0-is in
          let joined : string_bytes c.match-document.refused ≡ so_far ++ lines =
          ap string_bytes w.refused-is ∙ w.in_ok-push_str-in-Err-Told.ensures.bytes ∙ ap (λ x. so_far ++ x) w.as_str.ensures.value
          in
          record {
            kept = λ none. absurd (refused_some document_kind file lines why (second_none so_far lines (sym joined ∙ none)));
            told = told_put sources i _ so_far lines _ within c.loop-source.invariant.told (inl why) joined;
          }
    ]
