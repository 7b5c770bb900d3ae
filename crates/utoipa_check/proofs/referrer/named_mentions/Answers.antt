use Rattle.std.proofs.Common.{◌≡◌, ◌∙◌, ◌++◌, ap, IfOk, subst}
use Rattle.serde_json.specs.View.{view}
use Rattle.utoipa_check.specs.Places.{members_at}
use Rattle.utoipa_check.specs.References as specs
use Rattle.utoipa_check.specs.ReferenceViews.{mentions_of}
use Rattle.utoipa_check.proofs.Mentions.{mentions_of_join}
use Rattle.utoipa_check.proofs.Referrers.{path_item_mentions, other_mentions}
use Rattle.utoipa_check.proofs.referrer.named_mentions.Goals as goal

pub returns-in-PathItemObject : goal.returns-in-PathItemObject
returns-in-PathItemObject c =
    let ms = members_at (view c.args.tree.now) in
    let fs = specs.mentioners ms in
    let others = c.in_ok-others-in-PathItemObject.others.items in
    ap mentions_of c.in_ok-append-in-PathItemObject.ensures.items ∙ mentions_of_join c.in_ok-found-in-PathItemObject.found.items others ∙ ap (λ xs. xs ++ mentions_of others) c.in_ok-found-in-PathItemObject.ensures
    ∙ ap (λ xs. specs.own_mention ms ++ xs) c.in_ok-others-in-PathItemObject.ensures ∙ ap (λ rs. specs.own_mention ms ++ specs.rows_mentions rs fs) c.rows.ensures.table
    ∙ path_item_mentions c.args.object_type ms fs c.in-PathItemObject.is

pub returns : goal.returns
returns c =
    let ms = members_at (view c.args.tree.now) in
    let fs = specs.mentioners ms in
    subst (λ x. IfOk c.mentions_by_rows-in_default.result (λ v. mentions_of v.items ≡ x))
    (ap (λ rs. specs.rows_mentions rs fs) c.rows-in_default.ensures.table ∙ other_mentions c.args.object_type ms fs c.in_default.not-ReferenceObject c.in_default.not-DiscriminatorObject c.in_default.not-PathItemObject)
    c.mentions_by_rows-in_default.ensures
