use Rattle.std.proofs.Common.{◌≡◌, ◌∙◌, ap, sym, IfOk, subst, true, false, rules, is_some, codes}
use Rattle.serde_json.specs.Find.{get}
use Rattle.serde_json.specs.View.{view}
use Rattle.utoipa_base.specs.Kinds as kinds
use Rattle.utoipa_check.specs.Misfits as specs
use Rattle.utoipa_check.specs.Places.{outcomes, object_places, kind_layout, members_at}
use Rattle.utoipa_check.specs.Views.{misfits_of, object_kind}
use Rattle.utoipa_tables.specs.Tables.{kind_of}
use Rattle.utoipa_check.proofs.ReferenceObjects.{same_layout, named_reference, no_reference, taking_none}
use Rattle.utoipa_check.proofs.object.object_misfits.Goals as goal
use Rattle.utoipa_check.proofs.object.object_misfits.Goals.{else-takes_references-via-then-takes_references+else-is_some, else-takes_references-via-else-takes_references}

pub reference_or_own_misfits-requires-clause-inner : goal.reference_or_own_misfits-requires-clause-inner
reference_or_own_misfits-requires-clause-inner c =
    let ms = members_at (view c.args.tree.now) in
    c.requires ∙ ap (λ l. outcomes (object_places l (view c.args.tree.now))) (sym (same_layout (kind_of c.args.kind) ms) ∙ ap (λ k. kind_layout k ms) (sym c.object_kind.ensures.kind))

pub returns-then-is_some : goal.returns-then-is_some
returns-then-is_some c =
    let d = view c.args.tree.now in
    let ms = members_at d in
    let cs = specs.checks ms in
    let there : is_some (get (codes "$ref") d) ≡ true = search rules in
    subst (λ x. IfOk c.reference_or_own_misfits.result (λ v. misfits_of v.items ≡ x))
    (ap (λ k. specs.reference_or true (specs.table_misfits kinds.reference_object cs) (specs.object_misfits ms cs k)) c.object_kind.ensures.kind ∙ sym (named_reference (kind_of c.args.kind) d (sym c.takes_references.ensures ∙ c.if-takes_references.true) there))
    c.reference_or_own_misfits.ensures

pub own_misfits-requires-clause-inner : goal.own_misfits-requires-clause-inner
own_misfits-requires-clause-inner c =
    let ms = members_at (view c.args.tree.now) in
    c.requires ∙ ap (λ l. outcomes (object_places l (view c.args.tree.now))) (sym (same_layout (kind_of c.args.kind) ms) ∙ ap (λ k. kind_layout k ms) (sym c.object_kind-2.ensures.kind))

pub returns : goal.returns
returns c =
    let d = view c.args.tree.now in
    let ms = members_at d in
    let cs = specs.checks ms in
    let same : specs.object_misfits ms cs (object_kind (kind_of c.args.kind)) ≡ specs.object_misfits ms cs (kind_of c.args.kind) =
    elim c.else-takes_references.branch [
      | else-takes_references-via-then-takes_references+else-is_some w ↦
          let gone : is_some (get (codes "$ref") d) ≡ false = search rules in
          sym (no_reference (kind_of c.args.kind) d (sym c.takes_references.ensures ∙ w.if-takes_references.true) gone)
      | else-takes_references-via-else-takes_references w ↦ ap (specs.object_misfits ms cs) (taking_none (kind_of c.args.kind) (sym c.takes_references.ensures ∙ w.if-takes_references.false))
    ]
    in
    subst (λ x. IfOk c.own_misfits.result (λ v. misfits_of v.items ≡ x)) (ap (specs.object_misfits ms cs) c.object_kind-2.ensures.kind ∙ same) c.own_misfits.ensures
