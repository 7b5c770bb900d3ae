use Rattle.std.proofs.Common.{◌∙◌, ap}
use Rattle.std.proofs.lemmas.Result.{on_ok_weaker}
use Rattle.utoipa_merging.proofs.Lookups.{found}
use Rattle.utoipa_merging.proofs.PutEach.{found-put_each}
use Rattle.utoipa_paths.proofs.ItemSteps.{over_merged, all_or_none_in_order}
use Rattle.utoipa_paths.proofs.items.merge_items.Goals as goal

pub returns-clause-ok : goal.returns-clause-ok
returns-clause-ok c =
    let merged = c.in_ok-merged.merged in
    on_ok_weaker c.put_all.result
    (λ put.
    over_merged c.args.items.now c.args.later merged c.put_all.new.map c.in_ok-merged.ensures.merged
    (λ path. ap (λ es. found es path) put ∙ found-put_each merged.entries c.args.items.now.entries c.put_all.ensures.ordered path))
    c.put_all.ensures.ok

pub returns-clause-ordered : goal.returns-clause-ordered
returns-clause-ordered c = λ standing later.
    all_or_none_in_order c.put_all.result c.args.items.now c.in_ok-merged.merged c.put_all.new.map standing (c.in_ok-merged.ensures.ordered standing later) c.put_all.ensures.ok c.put_all.ensures.err
