use Rattle.std.proofs.Common.{sym, ap, ◌∙◌, subst, string_cmp}
use Rattle.std.specs.List.Sorted.{IsStrictlySortedBy}
use Rattle.std.specs.Map.{keys_of}
use Rattle.utoipa_base.proofs.TokenOrderedMaps.{moved_one}
use Rattle.utoipa_base.proofs.ordered_map.in_order_of_names.Goals as goal

pub loop-name-preserved : goal.loop-name-preserved
loop-name-preserved g c =
    let all = c.into_iter-name-iterator.ensures.into_iter_gives in
    let sorted = subst (λ r. IsStrictlySortedBy string_cmp (keys_of r)) (sym all.0) all.5 in
    (moved_one _ _ _ _ (c.in-Some.name, c.in-Some.value) _ c.loop-name.invariant.0 c.in-Some.ensures.steps sorted c.in_ok-insert.ensures.entries, c.in_ok-insert.ensures.hasher ∙ c.loop-name.invariant.1)

pub returns-clause-salt : goal.returns-clause-salt
returns-clause-salt g c = ap (λ h. h.salt) c.loop-name.invariant.1 ∙ c.with_names-map.ensures.salt
