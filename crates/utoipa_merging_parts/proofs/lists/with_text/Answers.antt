use Rattle.utoipa_base.proofs.Plain.{write_plain}
use Rattle.utoipa_merging_parts.proofs.lists.with_text.Goals as goal

pub returns-clause-written : goal.returns-clause-written
returns-clause-written g c = (c.requires.plain, c.in_ok-text.ensures.text (write_plain (g.T.Documented.doc c.args.entry) c.requires.plain))
