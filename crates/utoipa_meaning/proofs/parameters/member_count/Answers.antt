use Rattle.std.proofs.Common.{◌∙◌}
use Rattle.utoipa_meaning.proofs.Meant.{counted}
use Rattle.utoipa_meaning.proofs.parameters.member_count.Goals as goal

pub returns : goal.returns
returns c = c.len.ensures.len ∙ counted c.args.members.now.entries
