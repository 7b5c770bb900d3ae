use Rattle.utoipa_security.proofs.SchemesWithoutReference.{scheme_reads_alone}
use Rattle.utoipa_security.proofs.unambiguous.SecuritySchemeNoReference.is_no_reference.Goals as goal

pub returns : goal.returns
returns c = scheme_reads_alone c.args.self.now c.requires
