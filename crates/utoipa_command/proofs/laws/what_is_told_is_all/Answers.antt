use Rattle.utoipa_command.proofs.Whole.{stands_formatted, stand_merged, stand_nested}
use Rattle.utoipa_command.proofs.laws.what_is_told_is_all.Goals as goal

pub returns-clause-format : goal.returns-clause-format
returns-clause-format c = stands_formatted

pub returns-clause-merge : goal.returns-clause-merge
returns-clause-merge c = stand_merged

pub returns-clause-nest : goal.returns-clause-nest
returns-clause-nest c = stand_nested
