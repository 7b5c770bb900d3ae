use Rattle.utoipa_check.specs.declared.mention.Mention.{Mention}
use Rattle.utoipa_check.proofs.Mentions.{put_first}
use Rattle.utoipa_check.proofs.mention.put_mention.Goals as goal

pub returns : goal.returns
returns c =
    let made : Mention = record { pointer = record { steps = c.push.new.self }; way = c.args.way; text = c.args.text } in
    put_first c.args.found.now.items c.push-2.new.self.items made c.new-steps.result.items c.args.step c.in_ok-push.ensures.items c.new-steps.ensures.items c.in_ok-push-2.ensures.items
