use Rattle.std.proofs.Common.{◌≡◌, ◌∙◌, ap, cond, is_some, sym, true, false, rules, [], ◌++◌}
use Rattle.serde_json.specs.Find.{get}
use Rattle.serde_json.specs.View.{view}
use Rattle.utoipa_check.specs.References.{under}
use Rattle.utoipa_check.specs.ReferenceViews.{mentioned_of, mentions_of, stacked_mentioned}
use Rattle.utoipa_check.specs.Views.{step_of}
use Rattle.utoipa_check.proofs.ByMentions.{mentions_absent, mentions_there}
use Rattle.utoipa_check.proofs.Mentions.{stacked_mentioned_last}
use Rattle.utoipa_check.proofs.referrer.put_row_mentions.Goals as goal

pub returns-then-is_none : goal.returns-then-is_none
returns-then-is_none c = λ rest is.
    let gone : is_some (get c.args.row.now.name.now (view c.args.tree.now)) ≡ false = search rules in
    mentions_absent c.args.row.now (view c.args.tree.now) _ rest _ gone is

pub returns-in_ok-put_mentions : goal.returns-in_ok-put_mentions
returns-in_ok-put_mentions c = λ rest is.
    let there : is_some (get c.args.row.now.name.now (view c.args.tree.now)) ≡ true = search rules in
    let top = ap stacked_mentioned c.in-Some.ensures.items ∙ stacked_mentioned_last c.pop.new.self.items c.in-Some.mentioned in
    let m = c.in-Some.mentioned in
    let old = mentions_of c.args.found.now.items in
    let put = c.in_ok-put_mentions.ensures ∙ ap (λ b. old ++ cond b (under (step_of m.step) (mentions_of m.mentions.items)) []) (sym c.if-is_kept.true ∙ c.is_kept.ensures) in
    mentions_there c.args.row.now (view c.args.tree.now) _ _ rest (mentioned_of m) old _ there top is put
