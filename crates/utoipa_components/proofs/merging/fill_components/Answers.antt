use Rattle.std.proofs.Common.{◌≡◌, ◌∷◌, [], Some, ap, sym, ◌∙◌, subst}
use Rattle.std.specs.Prelude.{OnOk, OnErr, IfOk}
use Rattle.utoipa_base.specs.Docs.{some_doc}
use Rattle.utoipa_base.specs.Views.{option_of}
use Rattle.utoipa_merging.specs.Merged.{AreComponentsMerged}
use Rattle.utoipa_components.specs.Components.{components_doc}
use Rattle.utoipa_components.specs.Filled.{AreComponentsInOrder, EntriesGoBack}
use Rattle.utoipa_components.proofs.merging.fill_components.Goals as goal

pub returns-in_default-take-clause-ordered : goal.returns-in_default-take-clause-ordered
returns-in_default-take-clause-ordered c = λ own later.
    subst AreComponentsInOrder (sym c.replace.ensures.after) (subst (λ l. AreComponentsInOrder (Some l)) (sym c.without_extensions.ensures) (subst AreComponentsInOrder c.in-Some.is later))

pub returns-in-Err-clause-err : goal.returns-in-Err-clause-err
returns-in-Err-clause-err c =
    let standing = c.in-Some-take.standing in
    let made = c.filled_with-standing.result.0 in
    let own : c.args.own.now ≡ Some standing = sym c.take.ensures.value ∙ c.in-Some-take.is in
    let same : components_doc made ≡ components_doc standing = subst (λ r. OnErr r (components_doc made ≡ components_doc standing)) c.in-Err.is c.filled_with-standing.ensures.err in
    ap (option_of components_doc) c.replace-2.ensures.after ∙ ap some_doc same ∙ ap (option_of components_doc) (sym own)

pub returns-in-Err-clause-ordered : goal.returns-in-Err-clause-ordered
returns-in-Err-clause-ordered c = λ mine later.
    subst AreComponentsInOrder (sym c.replace-2.ensures.after) (c.filled_with-standing.ensures.ordered (subst AreComponentsInOrder (sym c.take.ensures.value ∙ c.in-Some-take.is) mine))

pub returns-in-Ok-clause-merged : goal.returns-in-Ok-clause-merged
returns-in-Ok-clause-merged c =
    let standing = c.in-Some-take.standing in
    let made = c.filled_with-standing.result.0 in
    let own : c.args.own.now ≡ Some standing = sym c.take.ensures.value ∙ c.in-Some-take.is in
    let both = some_doc (components_doc standing) ∷ some_doc (components_doc c.in-Some.later) ∷ [] in
    let merged : AreComponentsMerged both (some_doc (components_doc made)) = subst (λ r. OnOk r (AreComponentsMerged both (some_doc (components_doc made)))) c.in-Ok.is c.filled_with-standing.ensures.merged in
    subst (λ n. AreComponentsMerged (option_of components_doc c.args.own.now ∷ option_of components_doc c.args.later ∷ []) (option_of components_doc n)) (sym c.replace-2.ensures.after)
    (subst (λ o. AreComponentsMerged (option_of components_doc o ∷ option_of components_doc c.args.later ∷ []) (some_doc (components_doc made))) (sym own)
    (subst (λ l. AreComponentsMerged (some_doc (components_doc standing) ∷ option_of components_doc l ∷ []) (some_doc (components_doc made))) (sym c.in-Some.is) merged))

pub returns-in-Ok-clause-noted : goal.returns-in-Ok-clause-noted
returns-in-Ok-clause-noted c =
    let standing = c.in-Some-take.standing in
    let made = c.filled_with-standing.result.0 in (
      made,
      standing,
      c.replace-2.ensures.after,
      sym c.take.ensures.value ∙ c.in-Some-take.is,
      subst (λ r. IfOk r (λ filled. EntriesGoBack filled made standing)) c.in-Ok.is c.filled_with-standing.ensures.noted,
    )

pub returns-in-Ok-clause-ordered : goal.returns-in-Ok-clause-ordered
returns-in-Ok-clause-ordered c = λ mine later.
    subst AreComponentsInOrder (sym c.replace-2.ensures.after) (c.filled_with-standing.ensures.ordered (subst AreComponentsInOrder (sym c.take.ensures.value ∙ c.in-Some-take.is) mine))
