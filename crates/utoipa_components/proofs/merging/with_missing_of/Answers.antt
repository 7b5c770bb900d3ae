use Rattle.std.proofs.Common.{◌≡◌, ◌∷◌, [], Some, ap, sym, ◌∙◌, subst}
use Rattle.std.specs.Prelude.{IfOk}
use Rattle.std.specs.List.{AllByRecursion}
use Rattle.utoipa_base.specs.Docs.{some_doc}
use Rattle.utoipa_base.specs.Views.{option_of}
use Rattle.utoipa_merging.specs.Merged.{AreComponentsMerged, IsInOrder}
use Rattle.utoipa_merging_parts.specs.Filled.{AreFilled}
use Rattle.utoipa_components.specs.Components.{components_doc}
use Rattle.utoipa_components.specs.Filled.{AreComponentsInOrder}
use Rattle.utoipa_components.proofs.FilledMaps.{docs_of_maps, made_anew, refilled, refilled_in_order}
use Rattle.utoipa_components.proofs.merging.with_missing_of.Goals as goal

pub returns-in_default-own-clause-ordered : goal.returns-in_default-own-clause-ordered
returns-in_default-own-clause-ordered c = λ own later. subst (λ l. AreComponentsInOrder (Some l)) (sym c.without_extensions.ensures) (subst AreComponentsInOrder c.in-Some.is later)

pub returns-clause-merged : goal.returns-clause-merged
returns-clause-merged c =
    let standing = c.in-Some-own.standing in
    let made = c.components_of.result in
    let parts = c.maps_of-maps.ensures in
    let given = c.in_ok-extensions.ensures.ok in
    let anew = made_anew standing made _ _ (ap (λ p. p.0) parts) c.components_of.ensures.maps (c.components_of.ensures.extensions ∙ given.0 ∙ ap (λ p. p.1) parts) in
    let filled : AreFilled (docs_of_maps c.maps_of-maps.result.0) (docs_of_maps c.maps_of.result.0) (docs_of_maps c.in_ok-extensions.maps) =
    subst (λ r. IfOk r (λ maps. AreFilled (docs_of_maps c.maps_of-maps.result.0) (docs_of_maps c.maps_of.result.0) (docs_of_maps maps))) given.1 c.with_missing_of-filled.ensures.filled in
    let merged = refilled standing c.in-Some.later made _ _ anew (subst (λ l. AreFilled (docs_of_maps c.maps_of-maps.result.0) l (docs_of_maps c.in_ok-extensions.maps)) (ap (λ p. docs_of_maps p.0) c.maps_of.ensures) filled) in
    subst (λ own. AreComponentsMerged (option_of components_doc own ∷ option_of components_doc c.args.later ∷ []) (some_doc (components_doc made))) (sym c.in-Some-own.is)
    (subst (λ later. AreComponentsMerged (some_doc (components_doc standing) ∷ option_of components_doc later ∷ []) (some_doc (components_doc made))) (sym c.in-Some.is) merged)

pub returns-clause-ordered : goal.returns-clause-ordered
returns-clause-ordered c =
    let standing = c.in-Some-own.standing in
    let parts = c.maps_of-maps.ensures in
    let given = c.in_ok-extensions.ensures.ok in
    let anew = made_anew standing c.components_of.result _ _ (ap (λ p. p.0) parts) c.components_of.ensures.maps (c.components_of.ensures.extensions ∙ given.0 ∙ ap (λ p. p.1) parts) in
    let step = subst (λ r. IfOk r (λ maps. AllByRecursion IsInOrder (docs_of_maps c.maps_of-maps.result.0) → AllByRecursion IsInOrder (docs_of_maps maps))) given.1 c.with_missing_of-filled.ensures.ordered in
    λ own later. refilled_in_order standing c.components_of.result _ _ anew step (subst AreComponentsInOrder c.in-Some-own.is own)
