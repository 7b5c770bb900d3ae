use Rattle.utoipa.specs.OpenApi.{openapi_doc}
use Rattle.utoipa_findings.specs.Sources.{file_of}
use Rattle.utoipa_command.proofs.EachFile.{second_refused_told}
use Rattle.utoipa_command.proofs.FileDocuments.{passed_beside}
use Rattle.utoipa_command.proofs.files.nesting.both_documents.Goals as goal

pub returns-in-Ok-clause-err : goal.returns-in-Ok-clause-err
returns-in-Ok-clause-err c =
    passed_beside _ _ c.beside.result c.document-in-Ok.result c.beside.ensures.err c.document-in-Ok.ensures.err
    (λ w. second_refused_told (file_of c.args.own) (file_of c.args.nested) (openapi_doc c.in-Ok.own_document) w c.in-Ok.ensures.ok)
