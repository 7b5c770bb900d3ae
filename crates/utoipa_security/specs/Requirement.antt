-- Security requirements, and their documents.
use Rattle.std.specs.Prelude.{List, String, Vec}
use Rattle.std.specs.declared.alloc.Global.{Global}
use Rattle.utoipa_base.specs.Kinds.{text, list_of}
use Rattle.utoipa_base.specs.Tables.{security_requirement}
use Rattle.utoipa_base.specs.Docs.{Doc}
use Rattle.utoipa_base.specs.Shape.{IsOf, value_of}
use Rattle.utoipa_base.specs.Views.{text_of, list_of_docs, map_of_docs}
use Rattle.utoipa_base.specs.OfKind.{text_of_kind, list_of_kind, map_of_kind}
use Rattle.utoipa_security.specs.declared.security.requirement.SecurityRequirement.{SecurityRequirement}

-- the scopes that a requirement lists for a scheme
abbrev pub ScopeNames : Type 0
ScopeNames = Vec (String Global) Global

-- the scopes of each scheme, by the schemes' names
abbrev pub requirement_entries : SecurityRequirement → List (String Global × ScopeNames)
requirement_entries r = r.value.entries

-- a requirement as a document
abbrev pub requirement_doc : SecurityRequirement → Doc
requirement_doc r = map_of_docs (list_of_docs text_of) r.value

-- a requirement is a map of lists of texts
pub requirement_of_kind : (r : SecurityRequirement) → IsOf (requirement_doc r) (value_of security_requirement)
requirement_of_kind r = map_of_kind (list_of_docs text_of) (list_of text) (list_of_kind text_of text text_of_kind) r.value
