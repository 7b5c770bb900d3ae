use Rattle.std.proofs.Common.{◌≡◌, ◌∙◌, ap, sym, IfOk, subst}
use Rattle.serde_json.specs.View.{view}
use Rattle.utoipa_check.specs.Mentioned.{all_mentioned}
use Rattle.utoipa_check.specs.Misfits.{checks}
use Rattle.utoipa_check.specs.Places.{outcomes, object_places, kind_layout, members_at}
use Rattle.utoipa_check.specs.References as specs
use Rattle.utoipa_check.specs.ReferenceViews.{mentions_of}
use Rattle.utoipa_check.specs.Views.{object_kind}
use Rattle.utoipa_tables.specs.Tables.{kind_of}
use Rattle.utoipa_check.proofs.ReferenceObjects.{same_layout, taking_none}
use Rattle.utoipa_check.proofs.Referrers.{mentions_otherwise}
use Rattle.utoipa_check.proofs.referrer.object_mentions.Goals as goal
use Rattle.utoipa_check.proofs.referrer.object_mentions.Goals.{then-takes_references+in_ok-is_reference+else-is_reference, else-takes_references}

pub own_mentions-requires-clause-outcomes : goal.own_mentions-requires-clause-outcomes
own_mentions-requires-clause-outcomes c =
    let ms = members_at (view c.args.tree.now) in
    c.requires.outcomes ∙ ap (λ l. outcomes (object_places l (view c.args.tree.now))) (sym (same_layout (kind_of c.args.kind) ms) ∙ ap (λ k. kind_layout k ms) (sym c.object_kind.ensures.kind))

pub own_mentions-requires-clause-inner : goal.own_mentions-requires-clause-inner
own_mentions-requires-clause-inner c =
    let ms = members_at (view c.args.tree.now) in
    c.requires.inner ∙ ap (λ l. all_mentioned (object_places l (view c.args.tree.now))) (sym (same_layout (kind_of c.args.kind) ms) ∙ ap (λ k. kind_layout k ms) (sym c.object_kind.ensures.kind))

pub returns : goal.returns
returns c =
    let ms = members_at (view c.args.tree.now) in
    let cs = checks ms in
    let fs = specs.mentioners ms in
    let same : specs.object_mentions ms cs fs (object_kind (kind_of c.args.kind)) ≡ specs.object_mentions ms cs fs (kind_of c.args.kind) =
    elim c.if-takes_references.branch [
      | then-takes_references+in_ok-is_reference+else-is_reference w ↦
          sym (mentions_otherwise (kind_of c.args.kind) ms cs fs (sym c.takes_references.ensures ∙ w.if-takes_references.true) (sym w.in_ok-is_reference.ensures ∙ w.if-is_reference.false))
      | else-takes_references w ↦ ap (specs.object_mentions ms cs fs) (taking_none (kind_of c.args.kind) (sym c.takes_references.ensures ∙ w.if-takes_references.false))
    ]
    in
    subst (λ x. IfOk c.own_mentions.result (λ v. mentions_of v.items ≡ x)) (ap (specs.object_mentions ms cs fs) c.object_kind.ensures.kind ∙ same) c.own_mentions.ensures
