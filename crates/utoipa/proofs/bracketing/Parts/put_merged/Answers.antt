use Rattle.std.proofs.Common.{◌∷◌, ◌<◌, length, map}
use Rattle.std.proofs.lemmas.Result.{on_ok_weaker}
use Rattle.utoipa_base.specs.Views.{option_of}
use Rattle.utoipa_components.specs.Components.{components_doc}
use Rattle.utoipa_leaf.specs.Server.{server_doc}
use Rattle.utoipa_leaf.specs.Tag.{tag_doc}
use Rattle.utoipa_merging.specs.Merged.{IsListMerged, ArePathsMerged, AreComponentsMerged}
use Rattle.utoipa_paths.specs.Paths.{paths_doc}
use Rattle.utoipa_security.specs.Requirement.{requirement_doc}
use Rattle.utoipa.proofs.MadeBeside.{made_is}
use Rattle.utoipa.proofs.MergedDocuments.{list_doc_of, merged_by_parts}
use Rattle.utoipa.proofs.PartsOfDocuments.{all_requirements_plain, of_documents, some_part}
use Rattle.utoipa.proofs.bracketing.Parts.put_merged.Goals as goal

pub join_lists-requires-2 : goal.join_lists-requires-2
join_lists-requires-2 c = record { plain = all_requirements_plain c.args.self.security.items }

pub returns : goal.returns
returns c =
    record {
      ok = let all = c.args.self in
          let merged = record c.args.document.now {
            servers = c.set.new.field;
            security = c.set-2.new.field;
            tags = c.set-3.new.field;
            paths = c.set-4.new.field;
            components = c.set-5.new.field;
          } in
          let servers = made_is (λ v. IsListMerged (map (list_doc_of server_doc) all.servers.items) (list_doc_of server_doc v)) c.join_lists.result merged.servers c.join_lists.ensures c.in_ok-set.ensures.ok in
          let security = made_is (λ v. IsListMerged (map (list_doc_of requirement_doc) all.security.items) (list_doc_of requirement_doc v)) c.join_lists-2.result merged.security c.join_lists-2.ensures c.in_ok-set-2.ensures.ok in
          let tags = made_is (λ v. IsListMerged (map (list_doc_of tag_doc) all.tags.items) (list_doc_of tag_doc v)) c.join_lists-3.result merged.tags c.join_lists-3.ensures c.in_ok-set-3.ensures.ok in
          let paths = made_is (λ v. ArePathsMerged (map paths_doc all.paths.items) (paths_doc v)) c.merge_paths.result merged.paths c.merge_paths.ensures.merged c.in_ok-set-4.ensures.ok in
          on_ok_weaker c.set-5.result
          (λ made. λ documents first parts same.
          let components =
          made_is (λ v. 0 < length all.components.items → AreComponentsMerged (map (option_of components_doc) all.components.items) (option_of components_doc v)) c.merge_components.result merged.components c.merge_components.ensures.merged made in
          merged_by_parts first documents merged same (record {
            servers = of_documents (λ ls. IsListMerged ls (list_doc_of server_doc merged.servers)) (list_doc_of server_doc) (λ d. d.servers) (first ∷ documents) all.servers.items parts.servers servers;
            security = of_documents (λ ls. IsListMerged ls (list_doc_of requirement_doc merged.security)) (list_doc_of requirement_doc) (λ d. d.security) (first ∷ documents) all.security.items parts.security security;
            tags = of_documents (λ ls. IsListMerged ls (list_doc_of tag_doc merged.tags)) (list_doc_of tag_doc) (λ d. d.tags) (first ∷ documents) all.tags.items parts.tags tags;
            paths = of_documents (λ ps. ArePathsMerged ps (paths_doc merged.paths)) paths_doc (λ d. d.paths) (first ∷ documents) all.paths.items parts.paths paths;
            components = of_documents (λ cs. AreComponentsMerged cs (option_of components_doc merged.components)) (option_of components_doc) (λ d. d.components) (first ∷ documents) all.components.items parts.components
                (components (some_part (λ d. d.components) first documents all.components.items parts.components));
          }))
          c.set-5.ensures.ok;
    }
