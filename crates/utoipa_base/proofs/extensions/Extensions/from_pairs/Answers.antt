use Rattle.utoipa_base.proofs.ExtensionMembers.{put_pairs-insert_entry}
use Rattle.utoipa_base.proofs.extensions.Extensions.from_pairs.Goals as goal

pub loop-name-preserved : goal.loop-name-preserved
loop-name-preserved g c = put_pairs-insert_entry c.loop-name.entries.entries _ c.loop-name.yielded c.in-Some.name c.in-Some.value c.in_ok-insert.ensures.entries c.loop-name.invariant
