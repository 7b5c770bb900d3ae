use Rattle.std.proofs.Common.{rules, ap, ◌∙◌, ◌++◌, ◌∷◌, [], ◌≡◌, true}
use Rattle.utoipa_base.proofs.Building.{was_named}
use Rattle.utoipa_base.proofs.builder.TreeBuilderJsonSink.key.Goals as goal

pub returns : goal.returns
returns c = was_named _ c.pop.new.self.items _ c.in-Some-Object.members _ c.in_ok-copy.copy c.args.name.now _ (c.in-Some-Object.ensures.items ∙ ap (λ o. c.pop.new.self.items ++ o ∷ []) c.in-Some-Object.field-0-is) (let yes : c.comes_last.result ≡ true = search rules in c.comes_last.ensures yes) c.in_ok-copy.ensures.ok c.in_ok-push.ensures.items
