use Rattle.std.proofs.Common.{String, Global, ◌∙◌, sym, ap, subst, string_bytes, string_cmp}
use Rattle.std.specs.List.Sorted.{IsStrictlySortedBy}
use Rattle.std.specs.Map.{keys_of}
use Rattle.std.specs.BTreeMap.{get_by_text}
use Rattle.std.proofs.lemmas.Map.Text.{btree_map_updates_text}
use Rattle.utoipa_merging.proofs.Lookups.{found, sorted_rest}
use Rattle.utoipa_path.specs.declared.types.PathItem.{PathItem}
use Rattle.utoipa_paths.specs.Items.{IsMergedWith, IsInOrderIfAny}
use Rattle.utoipa_paths.proofs.ItemSteps.{AreComingInOrder, over_first, over_step, over_all, coming_in_order, none_in_order, put_in_order}
use Rattle.utoipa_paths.proofs.items.merged_items.Goals as goal

pub loop-path-init : goal.loop-path-init
loop-path-init c =
    let h = c.into_iter-path-iterator.ensures.into_iter_gives in
    let sorted = subst (λ es. IsStrictlySortedBy string_cmp (keys_of es)) (sym h.0) h.5 in
    record {
      sorted = sorted;
      over = over_first _ c.args.later c.new-merged.result _ c.new-merged.ensures.empty h.0;
      in_order = λ standing later. (none_in_order c.new-merged.result c.new-merged.ensures.empty, coming_in_order _ sorted (λ q. subst (λ es. IsInOrderIfAny (found es q)) (sym h.0) (later.operations q)));
    }

pub loop-path-preserved : goal.loop-path-preserved
loop-path-preserved c =
    let e : String Global × PathItem = (c.in-Some.path, c.in-Some.item) in
    let before = c.loop-path.invariant in
    let updated = btree_map_updates_text (string_bytes c.in-Some.path) c.loop-path.merged c.insert.new.self _ c.in_ok-insert.ensures.updates in
    let stood = c.get.ensures.value ∙ ap (get_by_text c.args.items.now) c.as_str.ensures.value in
    record {
      sorted = sorted_rest e _ _ c.in-Some.ensures.steps before.sorted;
      over =
          over_step (get_by_text c.args.items.now) (get_by_text c.args.later) (get_by_text c.loop-path.merged) (get_by_text c.insert.new.self) e _ _ c.in_ok-put.put before.over c.in-Some.ensures.steps before.sorted
          (subst (λ o. IsMergedWith o c.in-Some.item c.in_ok-put.put) stood c.in_ok-put.ensures.merged) updated;
      in_order = λ standing later.
          let both = before.in_order standing later in
          let coming = subst AreComingInOrder c.in-Some.ensures.steps both.1 in (
            put_in_order c.loop-path.merged c.insert.new.self (string_bytes c.in-Some.path) c.in_ok-put.put both.0 c.in_ok-insert.ensures.ordered
                (c.in_ok-put.ensures.ordered (subst IsInOrderIfAny (sym stood) (standing.operations (string_bytes c.in-Some.path))) coming.0) updated,
            coming.1,
          );
    }

pub returns-clause-merged : goal.returns-clause-merged
returns-clause-merged c = over_all c.args.items.now c.args.later c.loop-path.merged c.loop-path.path-iterator c.loop-path.invariant.over c.in-None.ensures.steps.0

pub returns-clause-ordered : goal.returns-clause-ordered
returns-clause-ordered c = λ standing later. (c.loop-path.invariant.in_order standing later).0
