use Rattle.std.proofs.Common.{◌∙◌}
use Rattle.serde_json.specs.View.{view}
use Rattle.utoipa_meaning.specs.Operations.{first_with}
use Rattle.utoipa_meaning.specs.Views.{noted, trees_of}
use Rattle.utoipa_meaning.proofs.Changing.{each_document}
use Rattle.utoipa_meaning.proofs.change.changed_meanings.Goals as goal

pub returns : goal.returns
returns c =
    let ds = trees_of c.args.documents.now in
    c.in_ok-found.ensures ∙ each_document (noted c.in_ok-origins.origins) (λ p. first_with p 0 ds) 0 ds (view c.args.merged.now) c.in_ok-origins.ensures
