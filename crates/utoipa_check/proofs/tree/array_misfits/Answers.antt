use Rattle.std.proofs.Common.{◌≡◌, ◌∙◌, ap, IfOk, subst, true, inl, inr}
use Rattle.serde_json.specs.View.{view}
use Rattle.utoipa_check.specs.Places.{joined}
use Rattle.utoipa_check.specs.Views.{misfits_of}
use Rattle.utoipa_tables.specs.Tables.{kind_of}
use Rattle.utoipa_check.proofs.Joined.{is_list, list_joined}
use Rattle.utoipa_check.proofs.tree.array_misfits.Goals as goal

pub returns-in-ListOf : goal.returns-in-ListOf
returns-in-ListOf c =
    let list : is_list (kind_of c.args.kind) ≡ true = elim c.in-ListOf.is [ inl h ↦ ap (λ k. is_list (kind_of k)) h.1 | inr h ↦ ap (λ k. is_list (kind_of k)) h ] in
    subst (λ x. IfOk c.join_all.result (λ v. misfits_of v.items ≡ x)) (ap joined c.requires.inner ∙ list_joined (kind_of c.args.kind) (view c.args.tree.now) list) c.join_all.ensures
