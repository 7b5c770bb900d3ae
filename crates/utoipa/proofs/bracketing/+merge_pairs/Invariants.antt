use Rattle.std.proofs.Common.{length}
use Rattle.utoipa.specs.Merging.{leaves_of}
use Rattle.utoipa.proofs.bracketing.+merge_pairs.Given as goal

abbrev pub decreases-merge_pairs : goal.decreases-merge_pairs
decreases-merge_pairs l = length (leaves_of l.bracketing)
