use Rattle.std.proofs.Common.{◌≡◌}
use Rattle.serde_json.specs.Data.{no_members}
use Rattle.serde_json.specs.View.{members_view}
use Rattle.utoipa_base.specs.Extensions.{put_pairs}
use Rattle.utoipa_base.proofs.extensions.Extensions.from_pairs.Given as goal

abbrev pub invariant-loop-name : goal.invariant-loop-name
invariant-loop-name g l = members_view l.entries.entries ≡ put_pairs l.yielded no_members
