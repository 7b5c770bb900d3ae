use Rattle.std.proofs.Common.{◌∙◌, sym, ap}
use Rattle.serde_json.specs.View.{view}
use Rattle.utoipa_adapt.specs.Views.{all_told}
use Rattle.utoipa_adapt.specs.Rules.{of_model}
use Rattle.utoipa_adapt.proofs.Same.{made_same}
use Rattle.utoipa_tables.specs.Tables.{kind_of}
use Rattle.utoipa_findings.proofs.Fitting.{none_there}
use Rattle.utoipa_findings.proofs.text.adapted.Goals as goal

pub returns-then-is_plain : goal.returns-then-is_plain
returns-then-is_plain c =
    let told = c.in_ok-adaptations.field-0 in
    let none = none_there told.items _ _ c.is_empty-is_plain.ensures told.ok.0 c.if-is_plain.true in
    sym (made_same of_model (view c.args.tree) (kind_of c.args.kind) (sym c.in_ok-adaptations.ensures ∙ ap all_told none))
