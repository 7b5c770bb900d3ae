use Rattle.std.proofs.Common.{◌≡◌, ◌∙◌, ℕ, List, refl, sym, ap, subst, cond, Some, IsSome}
use Rattle.std.specs.Str.{bytes_eq}
use Rattle.std.specs.BTreeMap.{get_by_text}
use Rattle.std.proofs.lemmas.Map.Text.{btree_map_updates_text}
use Rattle.std.proofs.lemmas.Result.{on_ok_weaker, on_err_weaker}
use Rattle.utoipa_path.specs.Docs.{operation_doc}
use Rattle.utoipa_path.specs.Methods.{HoldAtMethods}
use Rattle.utoipa_path.specs.declared.types.PathItem.{PathItem, out-PathItem}
use Rattle.utoipa_paths.specs.Items.{IsInOrderIfAny, AreItemsInOrder}
use Rattle.utoipa_paths.specs.Paths.{AreFieldsOf}
use Rattle.utoipa_paths.proofs.ItemSteps.{put_in_order, put_or_kept_in_order}
use Rattle.utoipa_paths.proofs.OperationAdded.{vector_drained, taken_over, still_in_order, new_in_order}
use Rattle.utoipa_paths.proofs.PathsViews.{paths_in_order, items_in_order, same_paths}
use Rattle.utoipa_paths.proofs.paths.Paths.add_path_operation.Goals as goal

-- ---- where an item stands

written : (c : goal.After-self-in-Some-1) (q : List ℕ)
    → get_by_text (c.get_mut.follows.lender c.take_operations.new.item) q ≡ cond (bytes_eq c.args.path.now q) (Some c.take_operations.new.item) (get_by_text c.args.self.now.paths q)
written c q =
    let old = c.args.self.now.paths in
    let new : PathItem = c.take_operations.new.item in
    let there : IsSome (get_by_text old c.args.path.now) = subst IsSome c.in-Some.ensures.value refl in
    btree_map_updates_text c.args.path.now old (c.get_mut.follows.lender new) _ ((c.get_mut.follows.holds new).3 there) q

pub returns-in-Some-clause-ok : goal.returns-in-Some-clause-ok
returns-in-Some-clause-ok c =
    let made = c.in_ok-item.ensures in
    let given = vector_drained made.2.0 c.args.methods.items made.0 made.2.1.0 (made.2.1.1 ∙ c.args.methods.ok.0) made.2.2 in
    record {
      now = c.take_operations.new.item;
      before = out-PathItem c.in-Some.standing.now;
      stood = subst (λ o. AreFieldsOf o (out-PathItem c.in-Some.standing.now)) c.in-Some.ensures.value refl;
      added =
          subst (λ ms. HoldAtMethods ms (operation_doc c.args.operation) (out-PathItem c.in-Some.standing.now) (out-PathItem c.take_operations.new.item)) given
          (taken_over made.0 (operation_doc c.args.operation) made.1 (out-PathItem c.in_ok-item.item) (out-PathItem c.in-Some.standing.now) (out-PathItem c.take_operations.new.item) made.3 made.4 c.take_operations.ensures.taken c.take_operations.ensures.rest);
      items = written c;
      extensions = refl;
    }

pub returns-in-Some-clause-ordered : goal.returns-in-Some-clause-ordered
returns-in-Some-clause-ordered c = λ before.
    let items = items_in_order c.args.self.now before in
    let new : PathItem = c.take_operations.new.item in
    let stood = subst IsInOrderIfAny (sym c.in-Some.ensures.value) (items.operations c.args.path.now) in
    paths_in_order (record { paths = c.get_mut.follows.lender new; extensions = c.args.self.now.extensions })
    (put_in_order c.args.self.now.paths (c.get_mut.follows.lender new) c.args.path.now new items (c.get_mut.follows.holds new).4 (still_in_order c.in-Some.standing.now new c.take_operations.ensures.rest stood) (written c)) before.extensions

-- ---- where none does

pub returns-in-None-clause-ok : goal.returns-in-None-clause-ok
returns-in-None-clause-ok c =
    let made = c.in_ok-item.ensures in
    let given = vector_drained made.2.0 c.args.methods.items made.0 made.2.1.0 (made.2.1.1 ∙ c.args.methods.ok.0) made.2.2 in
    on_ok_weaker c.put_under.result
    (λ put.
    record {
      now = c.in_ok-item.item;
      before = made.1;
      stood = subst (λ o. AreFieldsOf o made.1) c.in-None.ensures.value made.3;
      added = subst (λ ms. HoldAtMethods ms (operation_doc c.args.operation) made.1 (out-PathItem c.in_ok-item.item)) given made.4;
      items = λ q. put.values q ∙ ap (λ m. cond (bytes_eq c.args.path.now q) (Some c.in_ok-item.item) (get_by_text m q)) c.get_mut.follows.holds-at-none;
      extensions = refl;
    })
    c.put_under.ensures.ok

pub returns-in-None-clause-err : goal.returns-in-None-clause-err
returns-in-None-clause-err c =
    on_err_weaker c.put_under.result
    (λ kept. same_paths (record { paths = c.put_under.new.map; extensions = c.args.self.now.extensions }) c.args.self.now (kept ∙ ap (λ m. m.entries) c.get_mut.follows.holds-at-none) refl)
    c.put_under.ensures.err

pub returns-in-None-clause-ordered : goal.returns-in-None-clause-ordered
returns-in-None-clause-ordered c = λ before.
    let made = c.in_ok-item.ensures in
    let items = subst AreItemsInOrder (sym c.get_mut.follows.holds-at-none) (items_in_order c.args.self.now before) in
    paths_in_order (record { paths = c.put_under.new.map; extensions = c.args.self.now.extensions })
    (put_or_kept_in_order c.put_under.result c.get_mut.follows.lender-at-none c.put_under.new.map c.args.path.now c.in_ok-item.item items (new_in_order made.1 c.in_ok-item.item made.3 made.4.rest) c.put_under.ensures.ok c.put_under.ensures.err)
    before.extensions
