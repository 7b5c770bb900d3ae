use Rattle.std.proofs.Common.{◌≡◌, ◌∙◌, ap, IfOk, subst, true}
use Rattle.serde_json.specs.View.{view}
use Rattle.utoipa_check.specs.Places.{joined}
use Rattle.utoipa_check.specs.Views.{misfits_of}
use Rattle.utoipa_tables.specs.Tables.{kind_of}
use Rattle.utoipa_check.proofs.DoubtsJoined.{list_doubted, is_list_of}
use Rattle.utoipa_check.proofs.doubter.array_doubts.Goals as goal

pub returns-in-ListOf : goal.returns-in-ListOf
returns-in-ListOf c =
    let list : is_list_of (kind_of c.args.kind) ≡ true = ap (λ k. is_list_of (kind_of k)) c.in-ListOf.is in
    subst (λ x. IfOk c.join_all.result (λ v. misfits_of v.items ≡ x)) (ap joined c.requires.inner ∙ list_doubted (kind_of c.args.kind) (view c.args.tree.now) list) c.join_all.ensures
