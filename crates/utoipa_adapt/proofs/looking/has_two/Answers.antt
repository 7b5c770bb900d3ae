use Rattle.std.proofs.Common.{◌∙◌, sym, ap}
use Rattle.std.proofs.Math.Dec.{leb}
use Rattle.serde_json.specs.View.{view}
use Rattle.utoipa_adapt.specs.Trees.{has_two}
use Rattle.utoipa_adapt.proofs.Turns.{object_of_two}
use Rattle.utoipa_adapt.proofs.looking.has_two.Goals as goal

pub returns-in-Object : goal.returns-in-Object
returns-in-Object c = ap (leb 2) c.len.ensures.len ∙ object_of_two c.in-Object.members ∙ ap has_two (sym (ap view c.in-Object.is))
