-- A requirement holds texts only, and so no fraction.
use Rattle.std.proofs.Common.{◌≡◌, List, [], ◌∷◌, ◌∙◌, ap, false, refl, String, Global, map, ◌||◌}
use Rattle.utoipa_base.specs.Docs.{docs_of, entries_of_list}
use Rattle.utoipa_base.specs.Views.{text_of, list_of_docs, pairs_of}
use Rattle.utoipa_base.specs.WellFormed.{has_fraction, docs_have_fraction, entries_have_fraction}
use Rattle.utoipa_security.specs.Requirement.{ScopeNames, requirement_doc}
use Rattle.utoipa_security.specs.declared.security.requirement.SecurityRequirement.{SecurityRequirement}

-- names of scopes hold none
scopes_whole : (names : List (String Global)) → docs_have_fraction (docs_of (map text_of names)) ≡ false
unfolding docs_have_fraction has_fraction
scopes_whole [] = refl
scopes_whole (name ∷ names) = scopes_whole names

-- nor do the scopes of schemes
entries_whole : (es : List (String Global × ScopeNames)) → entries_have_fraction (entries_of_list (pairs_of (list_of_docs text_of) es)) ≡ false
unfolding entries_have_fraction has_fraction
entries_whole [] = refl
entries_whole (e ∷ es) = ap (λ b. b || entries_have_fraction (entries_of_list (pairs_of (list_of_docs text_of) es))) (scopes_whole e.1.items) ∙ entries_whole es

-- no requirement holds a fraction
pub requirement_whole : (r : SecurityRequirement) → has_fraction (requirement_doc r) ≡ false
unfolding has_fraction
requirement_whole r = entries_whole r.value.entries

pub ruleset by_requirements = (requirement_whole)
