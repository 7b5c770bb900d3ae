-- Merging and nesting documents: what is merged, and when it is refused.
use Rattle.std.specs.Prelude.{◌≡◌, ◌∷◌, ◌||◌, ◌++◌, List, [], Bool, false, map, All}
use Rattle.std.specs.List.{list_any}
use Rattle.utoipa_base.specs.Docs.{Doc}
use Rattle.utoipa_base.specs.Views.{list_of_docs, option_of}
use Rattle.utoipa_base.specs.WellFormed.{has_fraction, IsPlain}
use Rattle.utoipa_leaf.specs.Server.{server_doc}
use Rattle.utoipa_leaf.specs.Tag.{tag_doc}
use Rattle.utoipa_merging.specs.Slots.{servers_joined, tags_joined, joined_of, fixed_members, parts}
use Rattle.utoipa.specs.OpenApi.{openapi_doc}
use Rattle.utoipa.specs.declared.bracketing.Bracketing.{Bracketing}
use Rattle.utoipa.specs.declared.bracketing.Parts.{Parts}
use Rattle.utoipa.specs.declared.bracketing.Bracketing.TheVariants.{Leaf, Join'}
use Rattle.utoipa.specs.declared.document.OpenApi.{OpenApi}

-- whether an entry of `servers` or `tags` holds a fraction
abbrev pub lists_have_fraction : Doc → Bool
lists_have_fraction d = has_fraction (joined_of servers_joined d) || has_fraction (joined_of tags_joined d)

-- whether there are at least two documents, and one of them has such an entry
abbrev pub any_list_has_fraction : List Doc → Bool
any_list_has_fraction [] = false
any_list_has_fraction (d ∷ []) = false
any_list_has_fraction (d ∷ e ∷ ds) = list_any lists_have_fraction (d ∷ e ∷ ds)

-- the documents of brackets from left to right
abbrev pub leaves_of : Bracketing → List OpenApi
leaves_of (Leaf d) = d ∷ []
leaves_of (Join' p left q right) = leaves_of left ++ leaves_of right

-- ---- for private clauses: the parts of documents

-- the parts are those of the documents, in turn
pub record ArePartsOf (documents : List OpenApi) (p : Parts) : Type 0 where
  pub servers : p.servers.items ≡ map (λ d. d.servers) documents
  pub security : p.security.items ≡ map (λ d. d.security) documents
  pub tags : p.tags.items ≡ map (λ d. d.tags) documents
  pub paths : p.paths.items ≡ map (λ d. d.paths) documents
  pub components : p.components.items ≡ map (λ d. d.components) documents

-- all else than the parts is the same
abbrev pub IsSameButParts : OpenApi → OpenApi → Type 0
IsSameButParts d e = parts fixed_members (openapi_doc e) ≡ parts fixed_members (openapi_doc d)

-- no server and no tag holds a fraction
pub record ArePartsPlain (p : Parts) : Type 0 where
  pub servers : All (λ l. IsPlain (option_of (list_of_docs server_doc) l)) p.servers.items
  pub tags : All (λ l. IsPlain (option_of (list_of_docs tag_doc) l)) p.tags.items
