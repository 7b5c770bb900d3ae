use Rattle.std.proofs.Common.{refl}
use Rattle.utoipa_base.proofs.TokenTables.{from_tokens_as}
use Rattle.utoipa_paths.proofs.paths.PathsTree.from_tokens.Goals as goal

pub returns-clause-read : goal.returns-clause-read
returns-clause-read c = from_tokens_as _ _ _ _ _ _ _ _ _ _ refl c.in_ok-paths.ensures.read
