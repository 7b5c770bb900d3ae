use Rattle.std.proofs.Common.{ap, sym, ◌∙◌, subst}
use Rattle.utoipa_components.specs.Filled.{maps_in}
use Rattle.utoipa_components.proofs.FilledMaps.{docs_of_maps, MapsGoBack, maps_back, same_components}
use Rattle.utoipa_components.proofs.merging.without_filled.Goals as goal

pub returns : goal.returns
returns c = λ before back.
    let standing = c.args.standing in
    let maps = subst (λ m. MapsGoBack c.args.filled m (maps_in before)) (sym (ap (λ p. p.0) c.maps_of-maps.ensures)) (maps_back c.args.filled standing before back) in
    same_components c.components_of.result before (ap docs_of_maps c.components_of.ensures.maps ∙ c.taken_back.ensures (maps_in before) maps) (c.components_of.ensures.extensions ∙ ap (λ p. p.1) c.maps_of-maps.ensures ∙ back.extensions)
