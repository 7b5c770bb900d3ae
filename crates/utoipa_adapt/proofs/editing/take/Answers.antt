use Rattle.std.proofs.Common.{◌∙◌, sym, ap, option_map}
use Rattle.std.specs.Map.{lookup}
use Rattle.serde_json.specs.View.{view, members_view}
use Rattle.serde_json.proofs.Views.{view-lookup}
use Rattle.utoipa_adapt.proofs.Turns.{is_named, removed}
use Rattle.utoipa_adapt.proofs.editing.take.Goals as goal

pub returns-clause-value : goal.returns-clause-value
returns-clause-value c = ap (option_map view) c.remove.ensures.value ∙ view-lookup c.args.name.now c.args.members.now.entries

pub returns-clause-rest : goal.returns-clause-rest
returns-clause-rest c =
    let name = c.args.name.now in
    let gone = ap (lookup (is_named name)) (sym c.remove.ensures.entries) ∙ c.remove.ensures.updates.1 in
    ap members_view c.remove.ensures.entries ∙ removed name c.args.members.now.entries gone
