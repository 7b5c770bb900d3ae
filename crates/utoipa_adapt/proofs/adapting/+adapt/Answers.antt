use Rattle.std.proofs.Common.{◌≡◌, ◌∙◌, ◌∷◌, ◌++◌, [], sym, ap, subst, append_assoc, rules, string_cmp, true≢false}
use Rattle.std.proofs.lemmas.List.{append-nil}
use Rattle.std.specs.List.Sorted.{IsStrictlySortedBy}
use Rattle.std.specs.Map.{keys_of}
use Rattle.serde_json.specs.View.{view, items_of, members_view}
use Rattle.serde_json.proofs.Views.{Entry}
use Rattle.utoipa_check.proofs.Steps.{none_left}
use Rattle.utoipa_tables.specs.Tables.{kind_of}
use Rattle.utoipa_adapt.specs.Adapted.{made, made_members}
use Rattle.utoipa_adapt.specs.Views.{set_of}
use Rattle.utoipa_adapt.proofs.Same.{made_any}
use Rattle.utoipa_adapt.proofs.Turns.{each_made, items_made, one_made, member_made}
use Rattle.utoipa_adapt.proofs.adapting.+adapt.Goals as goal
use Rattle.utoipa_adapt.proofs.adapting.+adapt.Goals.{adapt_tree-in-Any, adapt_tree-in_default}

pub adapt_tree-returns-then-matches : goal.adapt_tree-returns-then-matches
adapt_tree-returns-then-matches t c =
    let tree = view c.args.tree in
    elim c.match-matches.branch [ adapt_tree-in-Any w ↦ sym (ap (λ k. made (set_of c.args.set) (kind_of k) tree) w.in-Any.is ∙ made_any (set_of c.args.set) tree) | adapt_tree-in_default w ↦ absurd (true≢false (sym c.if-matches.true ∙ w.matches-is)) ]

pub adapt_items-loop-item-preserved : goal.adapt_items-loop-item-preserved
adapt_items-loop-item-preserved t c =
    let l = c.loop-item in
    record {
      passed = append_assoc l.yielded (c.in-Some.item ∷ []) _ ∙ ap (λ r. l.yielded ++ r) (sym c.in-Some.ensures.steps.0) ∙ l.invariant.passed;
      adapted = one_made (set_of c.args.set) (kind_of c.args.kind) l.done.items _ l.yielded c.in-Some.item _ l.invariant.adapted c.in_ok-push.ensures.items c.in_ok-adapt_tree.ensures;
    }

pub adapt_items-returns : goal.adapt_items-returns
adapt_items-returns t c =
    let l = c.loop-item in
    let rest = l.item-iterator.rest in
    let none = none_left rest.items rest.len rest.ok.0 c.in-None.ensures.steps.0 in
    let all : l.yielded ≡ c.args.items.items = sym (append-nil l.yielded) ∙ ap (λ r. l.yielded ++ r) (sym none) ∙ l.invariant.passed in
    ap items_of l.invariant.adapted ∙ ap (λ vs. items_of (each_made (set_of c.args.set) (kind_of c.args.kind) vs)) all ∙ sym (items_made (set_of c.args.set) (kind_of c.args.kind) c.args.items.items)

pub adapt_members-loop-name-preserved : goal.adapt_members-loop-name-preserved
adapt_members-loop-name-preserved t c =
    let l = c.loop-name in
    let done = l.invariant.passed in
    let e : Entry = (c.in-Some.name, c.in-Some.member) in
    let left = c.next.new.self in
    let all = l.invariant.all ∙ ap (λ es. done ++ es) c.in-Some.ensures.steps in
    let sorted = subst (λ es. IsStrictlySortedBy string_cmp (keys_of es)) all c.into_iter-name-iterator.ensures.into_iter_gives.5 in
    record {
      passed = done ++ e ∷ [];
      all = all ∙ sym (append_assoc done (e ∷ []) left);
      adapted = member_made (set_of c.args.set) (kind_of c.args.kind) done e left l.done.entries _ c.in_ok-inner.inner sorted l.invariant.adapted (search rules) c.in_ok-insert.ensures.entries;
    }

pub adapt_members-returns : goal.adapt_members-returns
adapt_members-returns t c =
    let l = c.loop-name in
    let all : c.args.members.entries ≡ l.invariant.passed = l.invariant.all ∙ ap (λ es. l.invariant.passed ++ es) c.in-None.ensures.steps.0 ∙ append-nil l.invariant.passed in
    l.invariant.adapted ∙ ap (λ es. made_members (set_of c.args.set) (members_view es) (kind_of c.args.kind)) (sym all)
