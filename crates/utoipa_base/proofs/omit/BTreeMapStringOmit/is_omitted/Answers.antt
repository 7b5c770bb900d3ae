use Rattle.utoipa_base.proofs.Empties.{vacant_entries}
use Rattle.utoipa_base.proofs.omit.BTreeMapStringOmit.is_omitted.Goals as goal

pub returns : goal.returns
returns g c = vacant_entries g.T.Documented.doc _ c.args.self.now.entries c.is_empty.ensures
