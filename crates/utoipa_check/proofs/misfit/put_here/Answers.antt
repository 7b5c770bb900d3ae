use Rattle.std.proofs.Common.{◌∷◌, [], ◌++◌, ◌∙◌, ap}
use Rattle.utoipa_check.specs.Views.{misfits_of, outwards, cause_of}
use Rattle.utoipa_check.proofs.Steps.{misfits_of_join}
use Rattle.utoipa_check.proofs.misfit.put_here.Goals as goal

pub returns : goal.returns
returns c =
    let old = misfits_of c.args.found.now.items in
    ap misfits_of c.in_ok-push.ensures.items ∙ misfits_of_join c.args.found.now.items _ ∙ ap (λ s. old ++ (outwards s [], cause_of c.args.cause) ∷ []) c.new.ensures.items
