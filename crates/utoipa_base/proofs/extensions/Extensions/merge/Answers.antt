use Rattle.std.proofs.Common.{ap, ◌∙◌}
use Rattle.std.proofs.lemmas.Result.{on_ok_weaker}
use Rattle.serde_json.specs.Find.{get_member}
use Rattle.serde_json.specs.View.{members_view}
use Rattle.utoipa_base.proofs.ExtensionMembers.{put_each-overlaid, get_member-overlaid}
use Rattle.utoipa_base.proofs.extensions.Extensions.merge.Goals as goal

pub returns-clause-ok : goal.returns-clause-ok
returns-clause-ok c = on_ok_weaker c.put_all.result (λ h. ap members_view h ∙ put_each-overlaid c.args.other.entries.entries c.args.self.now.entries.entries) c.put_all.ensures.ok

pub returns-clause-by_name : goal.returns-clause-by_name
returns-clause-by_name c =
    on_ok_weaker c.put_all.result
    (λ h name. ap (λ es. get_member name (members_view es)) h ∙ ap (get_member name) (put_each-overlaid c.args.other.entries.entries c.args.self.now.entries.entries) ∙ get_member-overlaid name c.args.other.entries.entries (members_view c.args.self.now.entries.entries) c.put_all.ensures.ordered)
    c.put_all.ensures.ok
