use Rattle.utoipa_base.proofs.WithoutReference.{places_read_alone}
use Rattle.utoipa_base.proofs.unambiguous.BTreeMapStringRefOrNoReference.is_no_reference.Goals as goal

pub returns : goal.returns
returns g c = places_read_alone g.T.Documented.kind g.T.Documented.doc g.met.T.NeverText.is_no_text c.args.self.now
