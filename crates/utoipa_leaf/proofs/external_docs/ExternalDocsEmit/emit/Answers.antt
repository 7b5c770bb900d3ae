-- Written by tools/answers.py utoipa_leaf external_docs ExternalDocs
use Rattle.std.proofs.Common.{refl}
use Rattle.utoipa_leaf.proofs.external_docs.ExternalDocsEmit.emit.Goals as goal

pub returns : goal.returns
returns g c = c.emit_table.ensures _ refl
