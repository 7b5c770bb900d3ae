use Rattle.std.proofs.Common.{ap, sym, ◌∙◌, subst, string_cmp}
use Rattle.std.specs.BTreeMap.{get_by_text}
use Rattle.std.specs.List.Sorted.{IsStrictlySortedBy}
use Rattle.std.specs.Map.{keys_of}
use Rattle.std.specs.Option.{option_or}
use Rattle.utoipa_merging.proofs.Filled.{missing_put}
use Rattle.utoipa_merging.proofs.Lookups.{found}
use Rattle.utoipa_merging.proofs.PutEach.{found-put_each, sorted-put_each}
use Rattle.utoipa_merging_parts.proofs.Noted.{goes_back}
use Rattle.utoipa_merging_parts.proofs.maps.fill_noted.Goals as goal

pub returns-clause-ok : goal.returns-clause-ok
returns-clause-ok g c =
    λ name.
    ap (λ es. found es name) c.in_ok-put_all.ensures.ok
    ∙ found-put_each c.keep_missing.new.entries.entries c.args.map.now.entries c.in_ok-put_all.ensures.ordered name
    ∙ ap (λ o. option_or o (get_by_text c.args.map.now name)) (c.keep_missing.ensures name)
    ∙ missing_put (get_by_text c.args.map.now name) (get_by_text c.args.later name)

pub returns-clause-noted : goal.returns-clause-noted
returns-clause-noted g c = goes_back c.in_ok-names.names c.keep_missing.new.entries c.args.map.now c.args.later c.put_all.new.map.entries c.in_ok-names.ensures c.keep_missing.ensures c.in_ok-put_all.ensures.ok

pub returns-clause-ordered : goal.returns-clause-ordered
returns-clause-ordered g c =
    λ ordered. subst (λ es. IsStrictlySortedBy string_cmp (keys_of es)) (sym c.in_ok-put_all.ensures.ok) (sorted-put_each c.keep_missing.new.entries.entries c.args.map.now.entries ordered)
