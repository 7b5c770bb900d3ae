-- Written by tools/answers.py utoipa_schema_parts xml Xml
use Rattle.std.proofs.Common.{refl}
use Rattle.utoipa_schema_parts.proofs.xml.XmlEmit.emit.Goals as goal

pub returns : goal.returns
returns g c = c.emit_table.ensures _ refl
