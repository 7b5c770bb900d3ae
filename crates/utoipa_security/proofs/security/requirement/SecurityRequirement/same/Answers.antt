use Rattle.utoipa_security.proofs.Requirement.{requirement_whole}
use Rattle.utoipa_security.proofs.security.requirement.SecurityRequirement.same.Goals as goal

pub same-requires-clause-whole : goal.same-requires-clause-whole
same-requires-clause-whole c = requirement_whole c.args.self.now

pub same-requires-clause-other_whole : goal.same-requires-clause-other_whole
same-requires-clause-other_whole c = requirement_whole c.args.other.now
