use Rattle.std.proofs.Common.{◌∙◌}
use Rattle.utoipa_command.proofs.Told.{told}
use Rattle.utoipa_command.proofs.command.report.Goals as goal

pub returns-clause-told : goal.returns-clause-told
returns-clause-told g c =
    told c.args.outcome _ _ _ _ _ _ (c.as_bytes.ensures.value ∙ c.message.ensures) c.write_whole.ensures.front c.write_whole.ensures.fits
