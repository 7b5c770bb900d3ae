use Rattle.std.proofs.Common.{◌∙◌, sym, subst}
use Rattle.serde_json.specs.View.{view}
use Rattle.utoipa_check.specs.Truth.{AllTrue}
use Rattle.utoipa_tables.specs.Tables.{kind_of}
use Rattle.utoipa_check.proofs.Reports.{with_fractions, plain_found, empty_exactly}
use Rattle.utoipa_check.proofs.Sound.{misfits_and_fractions_sound}
use Rattle.utoipa_check.proofs.report.misfits.Goals as goal

pub returns-then-not-has_fraction-clause-found : goal.returns-then-not-has_fraction-clause-found
returns-then-not-has_fraction-clause-found c = plain_found (kind_of c.args.kind) (view c.args.tree.now) _ c.in_ok-found.ensures.found (sym c.has_fraction.ensures ∙ c.if-not-has_fraction.true)

pub returns-then-not-has_fraction-clause-exact : goal.returns-then-not-has_fraction-clause-exact
returns-then-not-has_fraction-clause-exact c = empty_exactly (kind_of c.args.kind) (view c.args.tree.now) _ (returns-then-not-has_fraction-clause-found c)

pub returns-then-not-has_fraction-clause-sound : goal.returns-then-not-has_fraction-clause-sound
returns-then-not-has_fraction-clause-sound c = subst (AllTrue (kind_of c.args.kind) (view c.args.tree.now)) (sym (returns-then-not-has_fraction-clause-found c)) (misfits_and_fractions_sound (kind_of c.args.kind) (view c.args.tree.now))

pub returns-clause-found : goal.returns-clause-found
returns-clause-found c = with_fractions (kind_of c.args.kind) (view c.args.tree.now) _ _ _ _ c.in_ok-found.ensures.found c.in_ok-misfits.ensures c.in_ok-fractions.ensures.found c.in_ok-append.ensures.items

pub returns-clause-exact : goal.returns-clause-exact
returns-clause-exact c = empty_exactly (kind_of c.args.kind) (view c.args.tree.now) _ (returns-clause-found c)

pub returns-clause-sound : goal.returns-clause-sound
returns-clause-sound c = subst (AllTrue (kind_of c.args.kind) (view c.args.tree.now)) (sym (returns-clause-found c)) (misfits_and_fractions_sound (kind_of c.args.kind) (view c.args.tree.now))
