use Rattle.std.proofs.Common.{ap, ◌∙◌, ◌++◌, ◌∷◌, []}
use Rattle.utoipa_base.specs.declared.builder.Open.TheVariants as opens
use Rattle.utoipa_base.proofs.Building.{in_array, in_object}
use Rattle.utoipa_base.proofs.builder.TreeBuilder.place.Goals as goal

pub returns-in_ok-push-in-Some-Array-2 : goal.returns-in_ok-push-in-Some-Array-2
returns-in_ok-push-in-Some-Array-2 c = in_array _ c.pop.new.self.items _ c.in-Some-Array.items c.push.new.self c.args.value _ (c.in-Some-Array.ensures.items ∙ ap (λ o. c.pop.new.self.items ++ o ∷ []) c.in-Some-Array.field-0-is) c.in_ok-push-in-Some-Array.ensures.items c.in_ok-push-in-Some-Array-2.ensures.items

pub returns-in_ok-push-in-Some : goal.returns-in_ok-push-in-Some
returns-in_ok-push-in-Some c =
    in_object _ c.pop.new.self.items _ c.in-Some-Object.members c.insert.new.self c.in-Some.name c.args.value _
    ((c.in-Some-Object.ensures.items ∙ ap (λ o. c.pop.new.self.items ++ o ∷ []) c.in-Some-Object.field-0-is) ∙ ap (λ o. c.pop.new.self.items ++ opens.Object c.in-Some-Object.members o ∷ []) c.in-Some.is)
    c.in_ok-insert-in-Some.ensures.entries c.in_ok-push-in-Some.ensures.items
