use Rattle.std.proofs.Common.{◌≡◌, ◌∙◌, ℕ, List, refl, sym, ap, subst, string_bytes, cond, Some, None, IsSome}
use Rattle.std.specs.Str.{bytes_eq}
use Rattle.std.specs.BTreeMap.{get_by_text}
use Rattle.std.proofs.lemmas.Map.Text.{btree_map_updates_text}
use Rattle.std.proofs.lemmas.Result.{on_ok_weaker}
use Rattle.utoipa_path.specs.declared.types.PathItem.{PathItem}
use Rattle.utoipa_paths.specs.Items.{IsMergedWith, IsInOrderIfAny}
use Rattle.utoipa_paths.proofs.ItemSteps.{put_in_order}
use Rattle.utoipa_paths.proofs.items.put_item.Goals as goal

-- ---- where an item stands

stood : (c : goal.After-drop-path) → get_by_text c.args.items.now (string_bytes c.args.path) ≡ Some c.in-Some.standing.now
stood c =
    let text : c.as_str.result.now ≡ string_bytes c.args.path = c.as_str.ensures.value in
    ap (get_by_text c.args.items.now) (sym text) ∙ sym c.in-Some.ensures.value

written : (c : goal.After-drop-path) (q : List ℕ)
    → get_by_text (c.get_mut.follows.lender c.merge_operations.new.self) q ≡ cond (bytes_eq (string_bytes c.args.path) q) (Some c.merge_operations.new.self) (get_by_text c.args.items.now q)
written c q =
    let old = c.args.items.now in
    let new : PathItem = c.merge_operations.new.self in
    let text : c.as_str.result.now ≡ string_bytes c.args.path = c.as_str.ensures.value in
    let there : IsSome (get_by_text old c.as_str.result.now) = subst IsSome c.in-Some.ensures.value refl in
    btree_map_updates_text c.as_str.result.now old (c.get_mut.follows.lender new) _ ((c.get_mut.follows.holds new).3 there) q
    ∙ ap (λ t. cond (bytes_eq t q) (Some new) (get_by_text old q)) text

pub returns-in-Some-clause-ok : goal.returns-in-Some-clause-ok
returns-in-Some-clause-ok c =
    on_ok_weaker c.merge_operations.result
    (λ merged.
    record {
      now = c.merge_operations.new.self;
      merged = subst (λ o. IsMergedWith o c.args.item c.merge_operations.new.self) (sym (stood c)) merged;
      items = written c;
    })
    c.merge_operations.ensures.ok

pub returns-in-Some-clause-ordered : goal.returns-in-Some-clause-ordered
returns-in-Some-clause-ordered c = λ before item.
    put_in_order c.args.items.now (c.get_mut.follows.lender c.merge_operations.new.self) (string_bytes c.args.path) c.merge_operations.new.self before (c.get_mut.follows.holds c.merge_operations.new.self).4
    (c.merge_operations.ensures.ordered (subst IsInOrderIfAny (stood c) (before.operations (string_bytes c.args.path)))) (written c)

-- ---- where none does

put_there : (c : goal.After-drop) (q : List ℕ) → get_by_text c.insert.new.self q ≡ cond (bytes_eq (string_bytes c.args.path) q) (Some c.args.item) (get_by_text c.args.items.now q)
put_there c q =
    let path = string_bytes c.args.path in
    btree_map_updates_text path c.get_mut.follows.lender-at-none c.insert.new.self _ c.in_ok-insert-in-None.ensures.updates q
    ∙ ap (λ m. cond (bytes_eq path q) (Some c.args.item) (get_by_text m q)) c.get_mut.follows.holds-at-none

pub returns-in_ok-insert-in-None-clause-ok : goal.returns-in_ok-insert-in-None-clause-ok
returns-in_ok-insert-in-None-clause-ok c =
    let path = string_bytes c.args.path in
    let text : c.as_str.result.now ≡ path = c.as_str.ensures.value in
    let none : get_by_text c.args.items.now path ≡ None = ap (get_by_text c.args.items.now) (sym text) ∙ sym c.in-None.ensures.value in
    record {
      now = c.args.item;
      merged = subst (λ o. IsMergedWith o c.args.item c.args.item) (sym none) refl;
      items = put_there c;
    }

pub returns-in_ok-insert-in-None-clause-ordered : goal.returns-in_ok-insert-in-None-clause-ordered
returns-in_ok-insert-in-None-clause-ordered c = λ before item. put_in_order c.args.items.now c.insert.new.self (string_bytes c.args.path) c.args.item before c.in_ok-insert-in-None.ensures.ordered item (put_there c)
