use Rattle.std.proofs.Common.{◌≡◌, None, Some, sym, ◌∙◌}
use Rattle.utoipa_findings.proofs.Texts.{no_tree_without}
use Rattle.utoipa_c.proofs.why.first_in_text.Goals as goal

pub returns-in_default : goal.returns-in_default
returns-in_default c = λ t has. let both : None ≡ Some t = sym (no_tree_without c.args.text.now c.in_default.ensures.cases.0) ∙ has in cc
