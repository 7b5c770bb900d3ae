use Rattle.std.proofs.Common.{string_bytes}
use Rattle.utoipa_schema.specs.Outcomes.{outcome_doc, add_entry}
use Rattle.utoipa_schema.proofs.Taken.{last_put}
use Rattle.utoipa_schema.proofs.outcomes.put_entry.Goals as goal

pub returns-in_ok-push-in-Some : goal.returns-in_ok-push-in-Some
returns-in_ok-push-in-Some c = last_put (add_entry (string_bytes c.args.name.now) (outcome_doc c.args.outcome)) _ _ c.pop.new.self.items c.in-Some.group c.in_ok-group-in-Some.group c.in-Some.ensures.items c.in_ok-push-in-Some.ensures.items c.in_ok-group-in-Some.ensures
