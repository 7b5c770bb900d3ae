use Rattle.std.proofs.Common.{◌≡◌, ◌||◌, ◌∙◌, [], ap, sym, rules, nat_cmp, string_bytes}
use Rattle.std.specs.Option.{is_some}
use Rattle.std.specs.BTreeMap.{is_at}
use Rattle.std.specs.Cmp.Lexicographic.{slice_cmp}
use Rattle.std.proofs.lemmas.Map.Made.{is_some-lookup}
use Rattle.utoipa_merging.proofs.Lookups.{found}
use Rattle.utoipa_merging_parts.proofs.Noted.{is_to_come, noted_step, noted_all}
use Rattle.utoipa_merging_parts.proofs.maps.names_of.Goals as goal

pub loop-name-init : goal.loop-name-init
loop-name-init g c =
    let none : c.new-names.result.entries ≡ [] = search rules in
    λ name.
    ap (λ es. is_some (found es name) || is_to_come name c.into_iter-name-iterator.result) none
    ∙ ap (is_to_come name) (c.into_iter-name-iterator.ensures.into_iter_gives ∙ c.keys-name-items.ensures.rest)
    ∙ sym (is_some-lookup (is_at (λ k. slice_cmp nat_cmp name (string_bytes k))) c.args.map.now.entries)

pub loop-name-preserved : goal.loop-name-preserved
loop-name-preserved g c =
    λ name. noted_step c.loop-name.names c.insert.new.self _ _ _ _ _ name (c.loop-name.invariant name) c.in-Some.ensures.steps c.in_ok-clone.ensures.cases c.in_ok-insert.ensures.entries

pub returns : goal.returns
returns g c = λ name. noted_all c.loop-name.names _ _ name (c.loop-name.invariant name) c.in-None.ensures.steps.0
