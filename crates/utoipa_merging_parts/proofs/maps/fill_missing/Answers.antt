use Rattle.std.proofs.Common.{ap, ◌∙◌}
use Rattle.std.proofs.lemmas.Result.{on_ok_weaker}
use Rattle.std.specs.BTreeMap.{get_by_text}
use Rattle.std.specs.Option.{option_or}
use Rattle.utoipa_merging.proofs.Filled.{missing_put}
use Rattle.utoipa_merging.proofs.Lookups.{found}
use Rattle.utoipa_merging.proofs.PutEach.{found-put_each, sorted-put_all}
use Rattle.utoipa_merging_parts.proofs.maps.fill_missing.Goals as goal

pub returns-clause-ok : goal.returns-clause-ok
returns-clause-ok g c =
    let missing = c.keep_missing.new.entries in
    let old = c.args.map.now in
    on_ok_weaker c.put_all.result
    (λ put name.
    ap (λ es. found es name) put
    ∙ found-put_each missing.entries old.entries c.put_all.ensures.ordered name
    ∙ ap (λ o. option_or o (get_by_text old name)) (c.keep_missing.ensures name)
    ∙ missing_put (get_by_text old name) (get_by_text c.args.later name))
    c.put_all.ensures.ok

pub returns-clause-ordered : goal.returns-clause-ordered
returns-clause-ordered g c =
    sorted-put_all c.put_all.result c.keep_missing.new.entries.entries c.args.map.now.entries c.put_all.new.map.entries c.put_all.ensures.ok c.put_all.ensures.err
