use Rattle.std.proofs.Common.{◌≡◌, ◌∙◌, ap, subst}
use Rattle.std.proofs.lemmas.Result.{on_ok_weaker, on_err_weaker, IfOk-weaker}
use Rattle.utoipa_merging_parts.specs.Filled.{AreFilled}
use Rattle.utoipa_components.proofs.FilledMaps.{docs_of_maps, made_anew, unchanged, refilled, refilled_in_order, noted}
use Rattle.utoipa_components.proofs.merging.filled_with.Goals as goal

pub returns-clause-merged : goal.returns-clause-merged
returns-clause-merged c =
    let parts = c.maps_of-maps.ensures in
    let anew = made_anew c.args.standing c.components_of.result _ _ (ap (λ p. p.0) parts) c.components_of.ensures.maps (c.components_of.ensures.extensions ∙ ap (λ p. p.1) parts) in
    on_ok_weaker c.filled-maps.result.1
    (λ filled. refilled c.args.standing c.args.later c.components_of.result _ _ anew
    (subst (λ l. AreFilled (docs_of_maps c.maps_of-maps.result.0) l (docs_of_maps c.filled-maps.result.0)) (ap (λ p. docs_of_maps p.0) c.maps_of.ensures) filled))
    c.filled-maps.ensures.filled

pub returns-clause-noted : goal.returns-clause-noted
returns-clause-noted c =
    let parts = c.maps_of-maps.ensures in
    let anew = made_anew c.args.standing c.components_of.result _ _ (ap (λ p. p.0) parts) c.components_of.ensures.maps (c.components_of.ensures.extensions ∙ ap (λ p. p.1) parts) in
    IfOk-weaker c.filled-maps.result.1 _ _ (λ filled back. noted filled c.args.standing c.components_of.result _ _ anew back) c.filled-maps.ensures.noted

pub returns-clause-err : goal.returns-clause-err
returns-clause-err c =
    let parts = c.maps_of-maps.ensures in
    let anew = made_anew c.args.standing c.components_of.result _ _ (ap (λ p. p.0) parts) c.components_of.ensures.maps (c.components_of.ensures.extensions ∙ ap (λ p. p.1) parts) in
    on_err_weaker c.filled-maps.result.1 (λ same. unchanged c.args.standing c.components_of.result _ _ anew same) c.filled-maps.ensures.err

pub returns-clause-ordered : goal.returns-clause-ordered
returns-clause-ordered c =
    let parts = c.maps_of-maps.ensures in
    let anew = made_anew c.args.standing c.components_of.result _ _ (ap (λ p. p.0) parts) c.components_of.ensures.maps (c.components_of.ensures.extensions ∙ ap (λ p. p.1) parts) in
    refilled_in_order c.args.standing c.components_of.result _ _ anew c.filled-maps.ensures.ordered
