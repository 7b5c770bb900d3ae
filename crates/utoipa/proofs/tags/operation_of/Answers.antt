use Rattle.std.proofs.Common.{◌∙◌, ap}
use Rattle.std.proofs.lemmas.Result.{on_ok_weaker}
use Rattle.utoipa_path.specs.Docs.{operation_doc}
use Rattle.utoipa_path.proofs.Built.{built_where_done}
use Rattle.utoipa.specs.Tags.{with_tags}
use Rattle.utoipa.proofs.tags.operation_of.Goals as goal

pub returns : goal.returns
returns g c =
    let made = c.in_ok-tags.ensures in
    let own = operation_doc c.in_ok-tags.operation in
    built_where_done c.add_tags.result c.add_tags.new.operation c.and.result _ c.and.ensures
    (on_ok_weaker c.add_tags.result (λ h. (own, made.1, h ∙ ap (λ further. with_tags further own) made.0)) c.add_tags.ensures)
