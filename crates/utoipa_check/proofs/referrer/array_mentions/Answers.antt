use Rattle.std.proofs.Common.{◌≡◌, ◌∙◌, ap, IfOk, subst, true}
use Rattle.serde_json.specs.View.{view}
use Rattle.utoipa_check.specs.Mentioned.{joined}
use Rattle.utoipa_check.specs.ReferenceViews.{mentions_of}
use Rattle.utoipa_tables.specs.Tables.{kind_of}
use Rattle.utoipa_check.proofs.MentionsJoined.{list_mentioned, is_list_of}
use Rattle.utoipa_check.proofs.referrer.array_mentions.Goals as goal

pub returns-in-ListOf : goal.returns-in-ListOf
returns-in-ListOf c =
    let list : is_list_of (kind_of c.args.kind) ≡ true = ap (λ k. is_list_of (kind_of k)) c.in-ListOf.is in
    subst (λ x. IfOk c.join_mentions.result (λ v. mentions_of v.items ≡ x)) (ap joined c.requires.inner ∙ list_mentioned (kind_of c.args.kind) (view c.args.tree.now) list) c.join_mentions.ensures
