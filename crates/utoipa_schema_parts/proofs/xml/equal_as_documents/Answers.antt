use Rattle.utoipa_schema_parts.proofs.SameXml.{same_xml}
use Rattle.utoipa_schema_parts.proofs.xml.equal_as_documents.Goals as goal

pub returns : goal.returns
returns c = same_xml c.args.left.now c.args.right.now
