use Rattle.std.proofs.Common.{◌≡◌, ◌∙◌, ap, IfOk, subst, true, inl, inr}
use Rattle.serde_json.specs.View.{view}
use Rattle.utoipa_check.specs.Places.{joined}
use Rattle.utoipa_check.specs.Views.{misfits_of}
use Rattle.utoipa_tables.specs.Tables.{kind_of}
use Rattle.utoipa_check.proofs.DoubtsJoined.{is_entry_map, map_doubted}
use Rattle.utoipa_check.proofs.doubter.own_doubts.Goals as goal

pub returns-in-MapOf : goal.returns-in-MapOf
returns-in-MapOf c =
    let map : is_entry_map (kind_of c.args.kind) ≡ true =
    elim c.in-MapOf.is [
      | inl h ↦ ap (λ k. is_entry_map (kind_of k)) h.1
      | inr h ↦
          elim h [
            | inl h ↦ ap (λ k. is_entry_map (kind_of k)) h.1
            | inr h ↦ elim h [ inl h ↦ ap (λ k. is_entry_map (kind_of k)) h.1 | inr h ↦ ap (λ k. is_entry_map (kind_of k)) h ]
          ]
    ]
    in
    subst (λ x. IfOk c.join_all.result (λ v. misfits_of v.items ≡ x)) (ap joined c.requires.inner ∙ map_doubted (kind_of c.args.kind) (view c.args.tree.now) map) c.join_all.ensures
