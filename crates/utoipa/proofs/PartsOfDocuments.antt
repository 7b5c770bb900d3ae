-- The parts of documents, taken one after the other and merged.
use Rattle.std.proofs.Common.{◌≡◌, ◌<◌, List, [], ◌∷◌, ◌++◌, length, Option, Result, Ok, OnOk, false, map, All, sym, ap, ◌∙◌, subst, arith, Global}
use Rattle.std.specs.Prelude.{Vec}
use Rattle.std.specs.List.{AllByRecursion}
use Rattle.std.proofs.lemmas.List.{map-append}
use Rattle.std.proofs.lemmas.List.Elements.{All-nil, All-cons}
use Rattle.utoipa_base.specs.WellFormed.{has_fraction, IsPlain}
use Rattle.utoipa_leaf.specs.Server.{server_doc}
use Rattle.utoipa_leaf.specs.Tag.{tag_doc}
use Rattle.utoipa_components.specs.Filled.{AreComponentsInOrder}
use Rattle.utoipa_merging.specs.Merged.{ArePathsInOrder, IsInKeyOrder}
use Rattle.utoipa_components.specs.declared.components.Components.{Components}
use Rattle.utoipa_paths.specs.Paths.{paths_doc}
use Rattle.utoipa_paths.specs.declared.paths.Paths.{Paths}
use Rattle.utoipa_security.specs.Requirement.{requirement_doc}
use Rattle.utoipa_security.specs.declared.security.requirement.SecurityRequirement.{SecurityRequirement}
use Rattle.utoipa.specs.Merging.{ArePartsOf, ArePartsPlain, lists_have_fraction}
use Rattle.utoipa.specs.OpenApi.{openapi_doc}
use Rattle.utoipa.specs.declared.bracketing.Parts.{Parts}
use Rattle.utoipa.specs.declared.document.OpenApi.{OpenApi}
use Rattle.utoipa.proofs.Bracketed.{any_fraction}
use Rattle.utoipa.proofs.MadeBeside.{holds_where_made}
use Rattle.utoipa.proofs.MergedDocuments.{list_doc_of, map-map, or_first, or_second, requirements_plain}

-- one more part
pub one_taken : {X : Type 0} (field : OpenApi → X) (documents : List OpenApi) (d : OpenApi) (taken : X) (old new : List X) → new ≡ old ++ taken ∷ [] → taken ≡ field d → old ≡ map field documents → new ≡ map field (documents ++ d ∷ [])
one_taken field documents d taken old new is from before =
    is ∙ ap (λ x. old ++ x ∷ []) from ∙ ap (λ l. l ++ field d ∷ []) before ∙ sym (map-append field documents (d ∷ []))

-- the parts of all were taken, and kept beside
pub all_taken : {X E : Type 0} (first : OpenApi) (others : List OpenApi) (none taken parts : Parts) (r : Result X E) (v : X) → OnOk r (ArePartsOf [] none → ArePartsOf (first ∷ others) taken) → r ≡ Ok v → parts ≡ taken → ArePartsOf [] none → ArePartsOf (first ∷ others) parts
all_taken first others none taken parts r v h is kept empty =
    subst (ArePartsOf (first ∷ others)) (sym kept) (holds_where_made (ArePartsOf [] none → ArePartsOf (first ∷ others) taken) r v h is empty)

pub all_requirements_plain : (ls : List (Option (Vec SecurityRequirement Global))) → All (λ l. IsPlain (list_doc_of requirement_doc l)) ls
all_requirements_plain ls = λ k l below. requirements_plain _

-- what was merged of a part, as a part of the documents
pub of_documents : {X D : Type 0} (P : List D → Type 0) (f : X → D) (field : OpenApi → X) (documents : List OpenApi) (parts : List X) → parts ≡ map field documents → P (map f parts) → P (map (λ d. f (field d)) documents)
of_documents P f field documents parts is h = subst P (ap (map f) is ∙ map-map f field documents) h

pub some_part : {X : Type 0} (field : OpenApi → X) (d : OpenApi) (documents : List OpenApi) (parts : List X) → parts ≡ map field (d ∷ documents) → 0 < length parts
some_part field d documents parts is = subst (λ l. 0 < length l) (sym is) (omega arith)

-- ---- parts without fractions

servers_plain : (ds : List OpenApi) → any_fraction ds ≡ false → All (λ l. IsPlain (list_doc_of server_doc l)) (map (λ d. d.servers) ds)
servers_plain [] h = All-nil _
servers_plain (d ∷ ds) h =
    All-cons (λ l. IsPlain (list_doc_of server_doc l)) d.servers (map (λ e. e.servers) ds)
    (or_first (has_fraction (list_doc_of server_doc d.servers)) (has_fraction (list_doc_of tag_doc d.tags)) (or_first (lists_have_fraction (openapi_doc d)) (any_fraction ds) h))
    (servers_plain ds (or_second (lists_have_fraction (openapi_doc d)) (any_fraction ds) h))

tags_plain : (ds : List OpenApi) → any_fraction ds ≡ false → All (λ l. IsPlain (list_doc_of tag_doc l)) (map (λ d. d.tags) ds)
tags_plain [] h = All-nil _
tags_plain (d ∷ ds) h =
    All-cons (λ l. IsPlain (list_doc_of tag_doc l)) d.tags (map (λ e. e.tags) ds)
    (or_second (has_fraction (list_doc_of server_doc d.servers)) (has_fraction (list_doc_of tag_doc d.tags)) (or_first (lists_have_fraction (openapi_doc d)) (any_fraction ds) h))
    (tags_plain ds (or_second (lists_have_fraction (openapi_doc d)) (any_fraction ds) h))

pub parts_plain : (ds : List OpenApi) (p : Parts) → ArePartsOf ds p → any_fraction ds ≡ false → ArePartsPlain p
parts_plain ds p of_ds h = record {
  servers = subst (All (λ l. IsPlain (list_doc_of server_doc l))) (sym of_ds.servers) (servers_plain ds h);
  tags = subst (All (λ l. IsPlain (list_doc_of tag_doc l))) (sym of_ds.tags) (tags_plain ds h);
}
