use Rattle.std.proofs.Common.{refl, ap, sym, ◌∙◌, subst, string_bytes, string_cmp}
use Rattle.std.specs.List.Sorted.{IsStrictlySortedBy}
use Rattle.std.specs.Map.{keys_of}
use Rattle.std.proofs.lemmas.Map.Text.{btree_map_updates_text}
use Rattle.utoipa_base.specs.Views.{pairs_of}
use Rattle.utoipa_path.specs.Docs.{path_item_doc}
use Rattle.utoipa_paths.specs.Items.{IsInOrderIfAny}
use Rattle.utoipa_paths.proofs.ItemSteps.{AreComingInOrder, coming_in_order, put_in_order}
use Rattle.utoipa_merging.proofs.Lookups.{found}
use Rattle.utoipa.proofs.Mounted.{none_mounted, one_mounted, one_refused, all_mounted, entries_of_map, entry_put}
use Rattle.utoipa.proofs.nesting.mount.Goals as goal

pub loop-path-init : goal.loop-path-init
loop-path-init g c =
    let h = c.into_iter-path-iterator.ensures.into_iter_gives in
    record {
      mounted = none_mounted g.F.Fn c.args.composer.now c.args.base.now _ _ _ (entries_of_map path_item_doc c.args.nested ∙ sym (ap (pairs_of path_item_doc) h.0));
      in_order = λ standing nested.
          (standing, coming_in_order _ (subst (λ es. IsStrictlySortedBy string_cmp (keys_of es)) (sym h.0) h.5) (λ q. subst (λ es. IsInOrderIfAny (found es q)) (sym h.0) (nested.operations q)));
    }

pub loop-path-preserved : goal.loop-path-preserved
loop-path-preserved g c =
    let before = c.loop-path.invariant in
    let steps = c.in-Some.ensures.steps in
    let name = string_bytes c.in-Some.path in
    let answer = string_bytes c.in-Ok.answer in
    record {
      mounted =
          one_mounted g.F.Fn c.args.composer.now c.args.base.now _ _ _ name answer (path_item_doc c.in-Some.item) _ _ _ before.mounted (ap (pairs_of path_item_doc) steps)
          (c.in-Ok.answer, record { first = c.args.base; second = c.as_str.result; shows = (refl, c.as_str.ensures.value); says = record { met = c.in-Ok.ensures } }, refl) (entry_put path_item_doc c.loop-path.items c.insert.new.self c.in-Ok.answer c.in-Some.item c.in_ok-insert.ensures.entries);
      in_order = λ standing nested.
          let both = before.in_order standing nested in
          let coming = subst AreComingInOrder steps both.1 in
          (put_in_order c.loop-path.items c.insert.new.self answer c.in-Some.item both.0 c.in_ok-insert.ensures.ordered coming.0 (btree_map_updates_text answer c.loop-path.items c.insert.new.self _ c.in_ok-insert.ensures.updates), coming.1);
    }

pub returns-clause-ok : goal.returns-clause-ok
returns-clause-ok g c = all_mounted g.F.Fn c.args.composer.now c.args.base.now _ _ _ _ c.loop-path.invariant.mounted (ap (pairs_of path_item_doc) c.in-None.ensures.steps.0)

pub returns-clause-ordered : goal.returns-clause-ordered
returns-clause-ordered g c = λ standing nested. (c.loop-path.invariant.in_order standing nested).0

pub returns-in_default-clause-composer : goal.returns-in_default-clause-composer
returns-in_default-clause-composer g c = λ told.
    one_refused g.F.Fn c.args.composer.now c.args.base.now _ _ _ (string_bytes c.in-Some.path) (path_item_doc c.in-Some.item) _ _ c.in_default.field-0 c.loop-path.invariant.mounted (ap (pairs_of path_item_doc) c.in-Some.ensures.steps)
    (record { first = c.args.base; second = c.as_str.result; shows = (refl, c.as_str.ensures.value); says = record { met = c.in_default.ensures } })
