use Rattle.std.proofs.Common.{◌≡◌, ◌∙◌, ◌∷◌, ◌++◌, ◌+◌, [], IfOk, refl, sym, ap, subst, arith, rules, drop, List, inl, inr}
use Rattle.std.proofs.lemmas.List.{drop_more, drop_all}
use Rattle.json.specs.Json as json
use Rattle.json.specs.Value.{value_view, items_view, members_view}
use Rattle.json.specs.declared.value.Value.{the_lemmas}
use Rattle.json.proofs.Trees.{view-Array, view-Object}
use Rattle.utoipa_check.specs.Misfits.{at_index}
use Rattle.utoipa_duplicates.specs.Duplicates.{duplicates, behind}
use Rattle.utoipa_duplicates.specs.Views.{places_of}
use Rattle.utoipa_duplicates.proofs.Places.{leaf, view-Null, view-Bool, view-Number, view-String, item_step, items_end, member_step, members_end}
use Rattle.utoipa_duplicates.proofs.+places.Goals as goal

pub places_in_value-returns-in-Array : goal.places_in_value-returns-in-Array
unfolding duplicates
places_in_value-returns-in-Array t c =
    let seen : value_view c.args.value.now ≡ json.array (items_view c.in-Array.items.items) = ap value_view c.in-Array.is ∙ view-Array c.in-Array.items in
    subst (λ x. IfOk c.places_in_items.result (λ v. places_of v.items ≡ x)) (ap duplicates (sym seen)) c.places_in_items.ensures

pub places_in_value-returns-in-Object : goal.places_in_value-returns-in-Object
unfolding duplicates
places_in_value-returns-in-Object t c =
    let seen : value_view c.args.value.now ≡ json.object (members_view c.in-Object.members.items) = ap value_view c.in-Object.is ∙ view-Object c.in-Object.members in
    subst (λ x. IfOk c.places_in_members.result (λ v. places_of v.items ≡ x)) (ap duplicates (sym seen)) c.places_in_members.ensures

pub places_in_items-loop-item-preserved : goal.places_in_items-loop-item-preserved
places_in_items-loop-item-preserved t c =
    let l = c.loop-item in
    let xs = c.args.items.now.items in
    let x = c.item-item.result in
    let same = c.deref-item-items.ensures.value in
    let there = c.deref-item-items.result.now in
    let here : drop l.item-index there ≡ x ∷ drop (l.item-index + 1) there = drop_more there l.item-index x (omega arith) ∙ ap (λ y. y ∷ drop (l.item-index + 1) there) (sym c.item-item.is) in
    let here = subst (λ ys. drop l.item-index ys ≡ x ∷ drop (l.item-index + 1) ys) same here in
    let put = c.in_ok-put_behind.ensures ∙ ap (λ n. places_of l.found.items ++ behind (at_index n) (places_of c.in_ok-inner.inner.items)) l.invariant.counted in
    record { counted = omega (arith, l.invariant.counted); found = item_step xs l.item-index x l.found.items _ c.in_ok-inner.inner.items _ here l.invariant.found c.in_ok-inner.ensures put }

pub places_in_items-returns : goal.places_in_items-returns
places_in_items-returns t c =
    let l = c.loop-item in
    items_end c.args.items.now.items l.item-index l.found.items _ (drop_all l.item-index c.args.items.now.items (omega arith)) l.invariant.found

pub places_in_value-returns-in-Null : goal.places_in_value-returns-in-Null
unfolding duplicates
places_in_value-returns-in-Null t c =
    ap places_of c.new.ensures.items ∙ elim c.in-Null.is [ inl h ↦ leaf h (view-Null _) | inr h ↦ elim h [ inl k ↦ leaf k.1 (view-Bool _ k.0) | inr k ↦ elim k [ inl n ↦ leaf n.1 (view-Number _ n.0) | inr n ↦ leaf n.1 (view-String _ n.0) ] ] ]

pub places_in_members-loop-name-preserved : goal.places_in_members-loop-name-preserved
places_in_members-loop-name-preserved t c =
    let l = c.loop-name in
    let xs = c.args.members.now.items in
    let x = c.loop-name-item.result in
    let same = c.deref-name-items.ensures.value in
    let there = c.deref-name-items.result.now in
    let here : drop l.name-index there ≡ x ∷ drop (l.name-index + 1) there = drop_more there l.name-index x (omega arith) ∙ ap (λ y. y ∷ drop (l.name-index + 1) there) (sym c.loop-name-item.is) in
    let here = subst (λ ys. drop l.name-index ys ≡ x ∷ drop (l.name-index + 1) ys) same here in
    let noted = c.in_ok-note_name.ensures l.invariant.names l.invariant.noted in
    record {
      names = x.0.now ∷ l.invariant.names;
      noted = noted.0;
      found = member_step xs l.name-index x l.invariant.names l.found.items c.note_name.new.found.items _ c.in_ok-inner.inner.items _ here l.invariant.found noted.1 c.in_ok-inner.ensures c.in_ok-put_behind.ensures;
    }

pub places_in_members-returns : goal.places_in_members-returns
places_in_members-returns t c =
    let l = c.loop-name in
    members_end c.args.members.now.items l.name-index l.invariant.names l.found.items _ (drop_all l.name-index c.args.members.now.items (omega arith)) l.invariant.found
