use Rattle.std.proofs.Common.{◌≡◌, ◌∷◌, [], ◌∙◌, Option, refl, ap, subst}
use Rattle.utoipa_base.specs.Views.{option_of}
use Rattle.utoipa_components.specs.Components.{components_doc}
use Rattle.utoipa_components.specs.declared.components.Components.{Components}
use Rattle.utoipa_leaf.specs.Server.{server_doc}
use Rattle.utoipa_leaf.specs.Tag.{tag_doc}
use Rattle.utoipa_merging.specs.Merged.{ArePathsMerged, AreComponentsMerged}
use Rattle.utoipa_paths.specs.Paths.{paths_doc}
use Rattle.utoipa_paths.specs.declared.paths.Paths.{Paths}
use Rattle.utoipa_security.specs.Requirement.{requirement_doc}
use Rattle.utoipa.proofs.MergedDocuments.{merged_by_parts, list_taken, requirements_plain}
use Rattle.utoipa.proofs.document.OpenApi.merge_plain.Goals as goal

pub make_room-requires-2-clause-plain : goal.make_room-requires-2-clause-plain
make_room-requires-2-clause-plain c = requirements_plain _

pub make_room-requires-2-clause-later_plain : goal.make_room-requires-2-clause-later_plain
make_room-requires-2-clause-later_plain c = requirements_plain _

pub returns-clause-ok : goal.returns-clause-ok
returns-clause-ok c =
    let own = c.args.self.now in
    let other = c.args.other in
    let merged = record own {
      servers = c.take_entries.new.own;
      security = c.take_entries-2.new.own;
      tags = c.take_entries-3.new.own;
      paths = c.merge_maps.new.paths;
      components = c.merge_maps.new.components;
    } in
    let given = c.parts_of-servers.ensures in
    let maps : c.in_ok-maps-3.maps ≡ (other.components, other.paths) = c.in_ok-maps-3.ensures.ok.0 ∙ c.in_ok-maps-2.ensures.ok.0 ∙ c.in_ok-maps.ensures.ok.0 ∙ ap (λ p. p.3) given in
    merged_by_parts own (other ∷ []) merged refl (record {
      servers = list_taken server_doc own.servers _ other.servers _ _ _ c.make_room.result c.make_room.ensures.merged (ap (λ p. p.0) given) c.in_ok-maps.ensures.ok.1 c.take_entries.ensures;
      security = list_taken requirement_doc own.security _ other.security _ _ _ c.make_room-2.result c.make_room-2.ensures.merged (ap (λ p. p.1) given) c.in_ok-maps-2.ensures.ok.1 c.take_entries-2.ensures;
      tags = list_taken tag_doc own.tags _ other.tags _ _ _ c.make_room-3.result c.make_room-3.ensures.merged (ap (λ p. p.2) given) c.in_ok-maps-3.ensures.ok.1 c.take_entries-3.ensures;
      paths = subst (λ (m : Option Components × Paths). ArePathsMerged (paths_doc own.paths ∷ paths_doc m.1 ∷ []) (paths_doc merged.paths)) maps c.in_ok-merge_maps.ensures.paths;
      components = subst (λ (m : Option Components × Paths). AreComponentsMerged (option_of components_doc own.components ∷ option_of components_doc m.0 ∷ []) (option_of components_doc merged.components)) maps c.in_ok-merge_maps.ensures.components;
    })
