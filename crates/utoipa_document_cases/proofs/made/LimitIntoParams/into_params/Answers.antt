use Rattle.std.proofs.Common.{◌≡◌, ◌∷◌, ◌∙◌, [], ap, codes, map, refl, subst, sym}
use Rattle.std.proofs.lemmas.Fn.{says}
use Rattle.std.proofs.lemmas.Result.{IfOk-weaker}
use Rattle.std.specs.Fn.{FnReturns}
use Rattle.std.specs.Option.{unwrap_or}
use Rattle.utoipa_operation_parts.specs.Described.{named_parameter, parameter_is_named}
use Rattle.utoipa_operation_parts.specs.Parameter.{in_path, is_required, parameter_doc}
use Rattle.utoipa_operation_parts.specs.Traits.{ArePlaced, ByPlace}
use Rattle.utoipa_document_cases.proofs.made.LimitIntoParams.into_params.Goals as goal

abbrev told : ByPlace
told = (λ place. named_parameter (codes "limit") (unwrap_or place in_path) is_required) ∷ []

pub returns : goal.returns
returns g c =
    let name = c.in_ok-name in
    let place = c.parameter_in_provider-place.result in
    let parameter = c.placed-parameter.result in
    let is : parameter_doc parameter ≡ named_parameter (codes "limit") (unwrap_or place in_path) is_required =
    parameter_is_named name.name (unwrap_or place in_path) is_required parameter (c.placed-parameter.ensures name.name c.new.ensures) ∙ ap (λ n. named_parameter n (unwrap_or place in_path) is_required) name.ensures.ok in
    let one : ArePlaced (λ p. FnReturns g.F.Fn c.args.parameter_in_provider tt p) told (map parameter_doc (parameter ∷ [])) = ((place, says g.F.Fn c.parameter_in_provider-place.ensures refl, is), tt) in
    IfOk-weaker c.list_of_one.result _ _ (λ made items. subst (λ xs. ArePlaced (λ p. FnReturns g.F.Fn c.args.parameter_in_provider tt p) told (map parameter_doc xs)) (sym items) one) c.list_of_one.ensures
