use Rattle.std.proofs.Common.{◌≡◌, [], map, take, string_bytes}
use Rattle.utoipa.specs.OpenApi.{openapi_doc}
use Rattle.utoipa_findings.specs.Sources.{file_of}
use Rattle.utoipa_command.specs.Files.{AreTold}
use Rattle.utoipa_command.proofs.EachFile.{AreKept}
use Rattle.utoipa_command.proofs.files.merging.documents_of.Given as goal

abbrev pub invariant-loop-source : goal.invariant-loop-source
invariant-loop-source l = record {
  kept : string_bytes l.refused ≡ [] → AreKept openapi_doc l.documents.items (map file_of (take l.source-index l.sources)) (string_bytes l.initial.lost) (string_bytes l.lost);
  told : AreTold (map file_of (take l.source-index l.sources)) (string_bytes l.refused);
}
