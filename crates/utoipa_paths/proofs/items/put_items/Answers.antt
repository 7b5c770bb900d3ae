use Rattle.std.proofs.Common.{String, Global, sym, ap, subst, string_cmp}
use Rattle.std.specs.Option.{option_or}
use Rattle.std.specs.List.Sorted.{IsStrictlySortedBy}
use Rattle.std.specs.Map.{keys_of}
use Rattle.std.specs.BTreeMap.{get_by_text}
use Rattle.utoipa_merging.proofs.ItemWalks.{slot_in, merged_step, merged_all}
use Rattle.utoipa_merging.proofs.Lookups.{found, sorted_rest}
use Rattle.utoipa_path.specs.Docs.{path_item_doc}
use Rattle.utoipa_paths.proofs.ItemSteps.{AreComingInOrder, slots_merged, coming_in_order}
use Rattle.utoipa_path.specs.declared.types.PathItem.{PathItem}
use Rattle.utoipa_paths.specs.Items.{IsInOrderIfAny}
use Rattle.utoipa_paths.proofs.items.put_items.Goals as goal

pub loop-path-init : goal.loop-path-init
loop-path-init c =
    let h = c.into_iter-path-iterator.ensures.into_iter_gives in
    let sorted = subst (λ es. IsStrictlySortedBy string_cmp (keys_of es)) (sym h.0) h.5 in
    record {
      sorted = sorted;
      merged = λ q s. ap (λ es. option_or (slot_in path_item_doc s (get_by_text c.args.items.now q)) (slot_in path_item_doc s (found es q))) h.0;
      in_order = λ before later. (before, coming_in_order _ sorted (λ q. subst (λ es. IsInOrderIfAny (found es q)) (sym h.0) (later.operations q)));
    }

pub loop-path-preserved : goal.loop-path-preserved
loop-path-preserved c =
    let e : String Global × PathItem = (c.in-Some.path, c.in-Some.item) in
    let put = c.in_ok-put_item.ensures.ok in
    let before = c.loop-path.invariant in
    record {
      sorted = sorted_rest e _ _ c.in-Some.ensures.steps before.sorted;
      merged =
          merged_step path_item_doc _ (get_by_text c.loop-path.items) (get_by_text c.put_item.new.items) e _ _ put.now before.merged c.in-Some.ensures.steps before.sorted
          (slots_merged _ c.in-Some.item put.now put.merged) put.items;
      in_order = λ standing later.
          let both = before.in_order standing later in
          let coming = subst AreComingInOrder c.in-Some.ensures.steps both.1 in
          (c.in_ok-put_item.ensures.ordered both.0 coming.0, coming.1);
    }

pub returns-clause-ok : goal.returns-clause-ok
returns-clause-ok c = merged_all path_item_doc c.args.items.now c.args.later c.loop-path.items c.loop-path.path-iterator c.loop-path.invariant.merged c.in-None.ensures.steps.0

pub returns-clause-ordered : goal.returns-clause-ordered
returns-clause-ordered c = λ standing later. (c.loop-path.invariant.in_order standing later).0
