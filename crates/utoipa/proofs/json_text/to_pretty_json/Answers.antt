use Rattle.utoipa.proofs.PrettyTexts.{pretty_as, reads_back_as}
use Rattle.utoipa.proofs.json_text.to_pretty_json.Goals as goal

pub returns-clause-text : goal.returns-clause-text
returns-clause-text g c = pretty_as c.to_string_pretty.result _ _ c.in_ok-to_value.ensures c.to_string_pretty.ensures.layout c.to_string_pretty.ensures.order

pub returns-clause-reads_back : goal.returns-clause-reads_back
returns-clause-reads_back g c = reads_back_as c.to_string_pretty.result _ _ c.in_ok-to_value.ensures c.to_string_pretty.ensures.reads_back
