use Rattle.std.proofs.Common.{◌≡◌, Some, ap, sym, ◌∙◌, subst}
use Rattle.utoipa_base.specs.Docs.{some_doc}
use Rattle.utoipa_base.specs.Views.{option_of}
use Rattle.utoipa_merging.proofs.Determined.{of_some}
use Rattle.utoipa_components.specs.Components.{components_doc}
use Rattle.utoipa_components.specs.Filled.{GoBack, EntriesGoBack}
use Rattle.utoipa_components.proofs.merging.take_back_components.Goals as goal

pub returns-in-Some : goal.returns-in-Some
returns-in-Some c = λ before back.
    let g = subst (λ f. GoBack f c.args.own.now before) c.in-Entries.is back in
    let standing = c.in-Some.standing in
    let some_n : Some g.0 ≡ Some standing = sym g.2 ∙ sym c.take-in-Entries.ensures.value ∙ c.in-Some.is in
    let same : g.0 ≡ standing = of_some g.0 standing some_n in
    ap (option_of components_doc) c.replace.ensures.after
    ∙ ap some_doc (c.without_filled.ensures g.1 (subst (λ k. EntriesGoBack c.in-Entries.filled k g.1) same g.4))
    ∙ ap (option_of components_doc) (sym g.3)
