use Rattle.std.proofs.Common.{◌≡◌, ◌∙◌, ◌∷◌, ◌++◌, ◌+◌, sym, ap, subst, arith, rules, drop, true≢false}
use Rattle.std.proofs.lemmas.List.{drop_more, drop_all}
use Rattle.utoipa_check.specs.Misfits.{at_index}
use Rattle.utoipa_tables.specs.Tables.{kind_of}
use Rattle.serde_json.specs.View.{view, members_view}
use Rattle.utoipa_adapt.specs.Adapted.{under, members_told, changes}
use Rattle.utoipa_adapt.specs.Views.{set_of, all_told}
use Rattle.utoipa_adapt.proofs.Same.{told_any}
use Rattle.utoipa_adapt.proofs.Turns.{item_step, items_end, member_step, members_end}
use Rattle.utoipa_adapt.proofs.telling.+told.Goals as goal
use Rattle.utoipa_adapt.proofs.telling.+told.Goals.{told_of_tree-in-Any, told_of_tree-in_default}

pub told_of_tree-returns-then-matches : goal.told_of_tree-returns-then-matches
told_of_tree-returns-then-matches t c =
    let tree = view c.args.tree.now in
    elim c.match-matches.branch [ told_of_tree-in-Any w ↦ ap all_told c.new.ensures.items ∙ sym (ap (λ k. changes (set_of c.args.set) (kind_of k) tree) w.in-Any.is ∙ told_any (set_of c.args.set) tree) | told_of_tree-in_default w ↦ absurd (true≢false (sym c.if-matches.true ∙ w.matches-is)) ]

pub told_of_items-loop-item-preserved : goal.told_of_items-loop-item-preserved
told_of_items-loop-item-preserved t c =
    let l = c.loop-item in
    let xs = c.args.items.now.items in
    let x = c.item-item.result in
    let same = c.deref-item-items.ensures.value in
    let there = c.deref-item-items.result.now in
    let here : drop l.item-index there ≡ x ∷ drop (l.item-index + 1) there = drop_more there l.item-index x (omega arith) ∙ ap (λ y. y ∷ drop (l.item-index + 1) there) (sym c.item-item.is) in
    let here = subst (λ ys. drop l.item-index ys ≡ x ∷ drop (l.item-index + 1) ys) same here in
    let put = c.in_ok-put_under.ensures ∙ ap (λ n. all_told l.told.items ++ under (at_index n) (all_told c.in_ok-inner.inner.items)) l.invariant.counted in
    record { counted = omega (arith, l.invariant.counted); found = item_step (set_of c.args.set) (kind_of c.args.kind) xs l.item-index x l.told.items _ c.in_ok-inner.inner.items _ here l.invariant.found c.in_ok-inner.ensures put }

pub told_of_items-returns : goal.told_of_items-returns
told_of_items-returns t c =
    let l = c.loop-item in
    items_end (set_of c.args.set) (kind_of c.args.kind) c.args.items.now.items l.item-index l.told.items _ (drop_all l.item-index c.args.items.now.items (omega arith)) l.invariant.found

pub told_of_members-loop-name-preserved : goal.told_of_members-loop-name-preserved
told_of_members-loop-name-preserved t c =
    let l = c.loop-name in
    member_step (set_of c.args.set) (kind_of c.args.kind) l.name-iterator c.next.new.self (c.in-Some.name.now, c.in-Some.member.now) l.told.items _ c.in_ok-inner.inner.items _ c.in-Some.ensures.steps l.invariant (search rules) (search rules)

pub told_of_members-returns : goal.told_of_members-returns
told_of_members-returns t c =
    let l = c.loop-name in
    let begun : c.into_iter-name-iterator.result ≡ c.args.members.now.entries = search rules in
    members_end (set_of c.args.set) (kind_of c.args.kind) l.name-iterator l.told.items _ (c.in-None.ensures.steps.0) l.invariant ∙ ap (λ es. members_told (set_of c.args.set) (members_view es) (kind_of c.args.kind)) begun
