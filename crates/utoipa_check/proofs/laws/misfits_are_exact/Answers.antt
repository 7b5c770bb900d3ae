use Rattle.serde_json.specs.View.{view}
use Rattle.utoipa_check.proofs.Exact.{misfits_exact}
use Rattle.utoipa_check.proofs.Sound.{misfits_sound, misfits_and_fractions_exact, misfits_and_fractions_sound}
use Rattle.utoipa_check.proofs.laws.misfits_are_exact.Goals as goal

pub returns-clause-exact : goal.returns-clause-exact
returns-clause-exact c k = misfits_exact k (view c.args.tree.now)

pub returns-clause-sound : goal.returns-clause-sound
returns-clause-sound c k = misfits_sound k (view c.args.tree.now)

pub returns-clause-exact_with_fractions : goal.returns-clause-exact_with_fractions
returns-clause-exact_with_fractions c k = misfits_and_fractions_exact k (view c.args.tree.now)

pub returns-clause-sound_with_fractions : goal.returns-clause-sound_with_fractions
returns-clause-sound_with_fractions c k = misfits_and_fractions_sound k (view c.args.tree.now)
