use Rattle.std.proofs.Common.{◌≡◌, ◌∙◌, ap, sym, IfOk, subst, true, false, rules, is_some, codes}
use Rattle.serde_json.specs.Find.{get}
use Rattle.serde_json.specs.View.{view}
use Rattle.utoipa_base.specs.Kinds as kinds
use Rattle.utoipa_check.specs.Doubted.{all_doubted}
use Rattle.utoipa_check.specs.Doubts as specs
use Rattle.utoipa_check.specs.Misfits.{checks, table_misfits, object_misfits}
use Rattle.utoipa_check.specs.Places.{outcomes, object_places, kind_layout, members_at}
use Rattle.utoipa_check.specs.Views.{misfits_of, object_kind}
use Rattle.utoipa_tables.specs.Tables.{kind_of}
use Rattle.utoipa_check.proofs.Doubters.{referring, taking_none, naming_none}
use Rattle.utoipa_check.proofs.ReferenceObjects.{same_layout}
use Rattle.utoipa_check.proofs.doubter.object_doubts.Goals as goal
use Rattle.utoipa_check.proofs.doubter.object_doubts.Goals.{else-takes_references-via-then-takes_references+else-is_some, else-takes_references-via-else-takes_references}

pub own_doubts-requires-clause-misfits : goal.own_doubts-requires-clause-misfits
own_doubts-requires-clause-misfits c =
    let ms = members_at (view c.args.tree.now) in
    c.requires.misfits ∙ ap (λ l. outcomes (object_places l (view c.args.tree.now))) (sym (same_layout (kind_of c.args.kind) ms) ∙ ap (λ k. kind_layout k ms) (sym c.object_kind.ensures.kind))

pub own_doubts-requires-clause-inner : goal.own_doubts-requires-clause-inner
own_doubts-requires-clause-inner c =
    let ms = members_at (view c.args.tree.now) in
    c.requires.inner ∙ ap (λ l. all_doubted (object_places l (view c.args.tree.now))) (sym (same_layout (kind_of c.args.kind) ms) ∙ ap (λ k. kind_layout k ms) (sym c.object_kind.ensures.kind))

pub reference_doubts-requires-clause-misfits : goal.reference_doubts-requires-clause-misfits
reference_doubts-requires-clause-misfits c =
    let ms = members_at (view c.args.tree.now) in
    c.requires.misfits ∙ ap (λ l. outcomes (object_places l (view c.args.tree.now))) (sym (same_layout (kind_of c.args.kind) ms) ∙ ap (λ k. kind_layout k ms) (sym c.object_kind-then-is_some.ensures.kind))

pub returns-then-is_some : goal.returns-then-is_some
returns-then-is_some c =
    let d = view c.args.tree.now in
    let ms = members_at d in
    let cs = checks ms in
    let ds = specs.doubters ms in
    let there : is_some (get (codes "$ref") d) ≡ true = search rules in
    let own = c.in_ok-own.ensures ∙ ap (specs.own_doubts ms cs ds) c.object_kind.ensures.kind in
    subst (λ x. IfOk c.reference_doubts.result (λ v. misfits_of v.items ≡ x))
    (ap (λ k. specs.reference_doubts true (table_misfits kinds.reference_object cs) (object_misfits ms cs k) (misfits_of c.in_ok-own.own.items)) c.object_kind-then-is_some.ensures.kind
    ∙ ap (specs.reference_doubts true (table_misfits kinds.reference_object cs) (object_misfits ms cs (object_kind (kind_of c.args.kind)))) own
    ∙ referring (kind_of c.args.kind) d (sym c.takes_references.ensures ∙ c.if-takes_references.true) there)
    c.reference_doubts.ensures

pub returns : goal.returns
returns c =
    let d = view c.args.tree.now in
    let ms = members_at d in
    let same : specs.own_doubts ms (checks ms) (specs.doubters ms) (object_kind (kind_of c.args.kind)) ≡ specs.object_doubts ms (checks ms) (specs.doubters ms) (kind_of c.args.kind) =
    elim c.else-takes_references.branch [
      | else-takes_references-via-then-takes_references+else-is_some w ↦
          let gone : is_some (get (codes "$ref") d) ≡ false = search rules in
          naming_none (kind_of c.args.kind) d gone
      | else-takes_references-via-else-takes_references w ↦ taking_none (kind_of c.args.kind) d (sym c.takes_references.ensures ∙ w.if-takes_references.false)
    ]
    in
    c.in_ok-own.ensures ∙ ap (specs.own_doubts ms (checks ms) (specs.doubters ms)) c.object_kind.ensures.kind ∙ same
