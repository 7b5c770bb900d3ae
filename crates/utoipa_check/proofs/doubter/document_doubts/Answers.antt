use Rattle.std.proofs.Common.{◌≡◌, ◌∙◌, [], ap, sym, refl, IfOk, subst, rules, string_bytes, inl, inr}
use Rattle.serde_json.specs.Data as value
use Rattle.serde_json.specs.View.{view, items_view, members_view, number_view}
use Rattle.serde_json.specs.declared.value.Value.{the_lemmas}
use Rattle.utoipa_check.specs.Doubted.{all_doubted}
use Rattle.utoipa_check.specs.Doubts.{doubts}
use Rattle.utoipa_check.specs.Views.{misfits_of}
use Rattle.utoipa_tables.specs.Tables.{kind_of}
use Rattle.utoipa_check.proofs.Doubters.{array_doubted, object_doubted, leaf_doubted}
use Rattle.utoipa_check.proofs.Leaves.{inside_array}
use Rattle.utoipa_check.proofs.doubter.document_doubts.Goals as goal

pub array_doubts-requires-clause-inner : goal.array_doubts-requires-clause-inner
array_doubts-requires-clause-inner c =
    let seen : value.array (items_view c.in-Array.field-0.items) ≡ view c.args.tree.now = rw c.in-Array.is (search (rules, the_lemmas)) in
    c.requires.inner ∙ ap all_doubted (inside_array (kind_of c.args.kind) _ _ _ seen c.own_kind.ensures.own)

pub returns-in-Array : goal.returns-in-Array
returns-in-Array c =
    let seen : value.array (items_view c.in-Array.field-0.items) ≡ view c.args.tree.now = rw c.in-Array.is (search (rules, the_lemmas)) in
    subst (λ x. IfOk c.array_doubts.result (λ v. misfits_of v.items ≡ x)) (sym (array_doubted (kind_of c.args.kind) _ _ _ seen c.own_kind.ensures.own)) c.array_doubts.ensures

pub returns-in-Object : goal.returns-in-Object
returns-in-Object c =
    let seen : value.object (members_view c.in-Object.field-0.entries) ≡ view c.args.tree.now = rw c.in-Object.is (search (rules, the_lemmas)) in
    subst (λ x. IfOk c.object_doubts.result (λ v. misfits_of v.items ≡ x)) (sym (object_doubted (kind_of c.args.kind) _ _ seen)) c.object_doubts.ensures

pub returns : goal.returns
returns c =
    let k = kind_of c.args.kind in
    let d = view c.args.tree.now in
    let none : doubts k d ≡ [] =
    elim c.in-Null.is [
      | inl h ↦
          let seen : value.null ≡ view c.args.tree.now = rw h (search (rules, the_lemmas)) in
          leaf_doubted k _ d refl seen
      | inr h ↦
          elim h [
            | inl h ↦
                let seen : value.boolean h.0 ≡ view c.args.tree.now = rw h.1 (search (rules, the_lemmas)) in
                leaf_doubted k _ d refl seen
            | inr h ↦
                elim h [
                  | inl h ↦
                      let seen : value.number (number_view h.0) ≡ view c.args.tree.now = rw h.1 (search (rules, the_lemmas)) in
                      leaf_doubted k _ d refl seen
                  | inr h ↦
                      let seen : value.string (string_bytes h.0) ≡ view c.args.tree.now = rw h.1 (search (rules, the_lemmas)) in
                      leaf_doubted k _ d refl seen
                ]
          ]
    ]
    in
    ap misfits_of c.new.ensures.items ∙ sym none
