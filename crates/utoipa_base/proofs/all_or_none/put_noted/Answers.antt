use Rattle.std.proofs.Common.{◌≡◌, ◌++◌, ◌∷◌, [], ap, ◌∙◌}
use Rattle.utoipa_base.specs.AllOrNone.{put_back, undone}
use Rattle.utoipa_base.specs.declared.all_or_none.Replaced.{Replaced}
use Rattle.utoipa_base.proofs.TakenBack.{undone-last, put_back-insert_entry}
use Rattle.utoipa_base.proofs.all_or_none.put_noted.Goals as goal

pub returns-clause-undone : goal.returns-clause-undone
returns-clause-undone g c =
    let r : Replaced _ = record { name = c.in_ok-noted.noted; value = c.in_ok-earlier.earlier } in
    let pushed : c.push.new.self.items ≡ c.args.replaced.now.items ++ r ∷ [] = c.in_ok-push.ensures.items ∙ ap (λ rs. rs ++ r ∷ []) c.reserve.ensures.items in
    ap (λ rs. undone rs c.insert.new.self.entries) pushed
    ∙ undone-last c.args.replaced.now.items r c.insert.new.self.entries
    ∙ ap (undone c.args.replaced.now.items) (ap (λ es. put_back r es) c.in_ok-earlier.ensures.entries ∙ put_back-insert_entry c.args.map.now.entries c.args.name c.in_ok-noted.noted c.args.value _ c.in_ok-earlier.ensures.was_ordered c.in_ok-noted.ensures.cases c.in_ok-earlier.ensures.old)
