use Rattle.std.proofs.Common.{◌∙◌, sym, ap, not}
use Rattle.serde_json.specs.View.{view}
use Rattle.serde_json.proofs.Views.{view-Object}
use Rattle.utoipa_adapt.specs.Trees.{lacks}
use Rattle.utoipa_adapt.proofs.Turns.{named_there}
use Rattle.utoipa_adapt.proofs.looking.lacks.Goals as goal

pub returns-in-Object : goal.returns-in-Object
returns-in-Object c =
    ap not (c.contains_key.ensures ∙ named_there c.args.name.now c.in-Object.members.entries) ∙ ap (lacks c.args.name.now) (sym (ap view c.in-Object.is ∙ view-Object c.in-Object.members))
