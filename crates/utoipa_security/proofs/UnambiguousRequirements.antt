-- Security requirements are always unambiguous.
use Rattle.std.proofs.Common.{◌≡◌, true, Option, Global, Vec}
use Rattle.utoipa_base.specs.Unambiguous.{is_unambiguous}
use Rattle.utoipa_base.specs.Views.{option_of, list_of_docs}
use Rattle.utoipa_security.specs.Requirement.{requirement_doc}
use Rattle.utoipa_security.specs.declared.security.requirement.SecurityRequirement.{SecurityRequirement}
use Rattle.utoipa_base.proofs.UnambiguousParts.{list-always, map-lists, option-always}

pub option-requirements : (o : Option (Vec SecurityRequirement Global)) → is_unambiguous (option_of (list_of_docs requirement_doc) o) ≡ true
option-requirements = option-always (list_of_docs requirement_doc) (list-always requirement_doc (λ r. map-lists r.value))
