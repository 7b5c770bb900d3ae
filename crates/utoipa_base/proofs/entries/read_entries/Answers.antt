use Rattle.std.proofs.Common.{◌≡◌, Some, true, false, ◌∙◌, ap, sym, subst, rules, string_bytes, string_cmp}
use Rattle.std.specs.List.Sorted.{IsStrictlySortedBy}
use Rattle.std.specs.Map.{keys_of}
use Rattle.serde_json.specs.Find.{as_object}
use Rattle.serde_json.specs.View.{view, members_view}
use Rattle.utoipa_base.specs.Extensions.{is_extension}
use Rattle.utoipa_base.proofs.EntryMaps.{entries_begin, entries_skip, entries_more, entries_refused, entries_within, entries_within_next, entries_read}
use Rattle.utoipa_base.proofs.entries.read_entries.Goals as goal

pub loop-key-init : goal.loop-key-init
loop-key-init g c = entries_begin _ _ _ _ _ (search rules)

pub loop-key-preserved : goal.loop-key-preserved
loop-key-preserved g c =
    let test : is_extension (string_bytes c.in-Some-2.key.now) ≡ true = sym (ap is_extension c.as_str.ensures.value) ∙ sym c.is_extension_name.ensures ∙ c.if-not-is_extension_name.false in
    entries_skip _ _ _ _ _ _ _ _ _ c.loop-key.invariant c.in-Some-2.ensures.steps test

pub loop-key-preserved-then-not-is_extension_name : goal.loop-key-preserved-then-not-is_extension_name
loop-key-preserved-then-not-is_extension_name g c =
    let all : c.into_iter-key-iterator.result ≡ c.in-Some.members.now.entries = c.into_iter-key-iterator.ensures.into_iter_gives ∙ c.iter-key-items.ensures.rest in
    let ordered = subst (λ r. IsStrictlySortedBy string_cmp (keys_of r)) (sym all) c.iter-key-items.ensures.ordered in
    let test : is_extension (string_bytes c.in-Some-2.key.now) ≡ false = sym (ap is_extension c.as_str.ensures.value) ∙ sym c.is_extension_name.ensures ∙ c.if-not-is_extension_name.true in
    entries_more _ _ _ _ _ _ _ _ _ _ _ _ _ c.loop-key.invariant c.in-Some-2.ensures.steps test ordered c.in_ok-name.ensures.cases c.in_ok-insert.ensures.entries c.in_ok-value.ensures

pub returns-in_err-name : goal.returns-in_err-name
returns-in_err-name g c =
    let all : c.into_iter-key-iterator.result ≡ c.in-Some.members.now.entries = c.into_iter-key-iterator.ensures.into_iter_gives ∙ c.iter-key-items.ensures.rest in
    let is : Some (members_view c.into_iter-key-iterator.result) ≡ as_object (view c.args.tree.now) = ap (λ vs. Some (members_view vs)) all ∙ c.in-Some.ensures in
    let within = entries_within _ _ _ _ _ _ _ _ c.loop-key.invariant is in
    record { ok = search rules; err = search rules; grows = within.0; at_most = within.1; at_least = search rules }

pub returns-in_err-value : goal.returns-in_err-value
returns-in_err-value g c =
    let all : c.into_iter-key-iterator.result ≡ c.in-Some.members.now.entries = c.into_iter-key-iterator.ensures.into_iter_gives ∙ c.iter-key-items.ensures.rest in
    let is : Some (members_view c.into_iter-key-iterator.result) ≡ as_object (view c.args.tree.now) = ap (λ vs. Some (members_view vs)) all ∙ c.in-Some.ensures in
    let test : is_extension (string_bytes c.in-Some-2.key.now) ≡ false = sym (ap is_extension c.as_str.ensures.value) ∙ sym c.is_extension_name.ensures ∙ c.if-not-is_extension_name.true in
    entries_refused _ _ _ _ _ _ _ _ _ _ _ _ _ _ c.loop-key.invariant c.in-Some-2.ensures.steps test is c.from_residual-in_err-value.ensures.1 c.in_err-value.ensures

pub returns-in_err-insert : goal.returns-in_err-insert
returns-in_err-insert g c =
    let all : c.into_iter-key-iterator.result ≡ c.in-Some.members.now.entries = c.into_iter-key-iterator.ensures.into_iter_gives ∙ c.iter-key-items.ensures.rest in
    let is : Some (members_view c.into_iter-key-iterator.result) ≡ as_object (view c.args.tree.now) = ap (λ vs. Some (members_view vs)) all ∙ c.in-Some.ensures in
    let within = entries_within_next _ _ _ _ _ _ _ _ _ _ _ _ c.loop-key.invariant c.in-Some-2.ensures.steps is c.in_ok-value.ensures in
    record { ok = search rules; err = search rules; grows = within.0; at_most = within.1; at_least = search rules }

pub returns-in_err-extensions : goal.returns-in_err-extensions
returns-in_err-extensions g c =
    let all : c.into_iter-key-iterator.result ≡ c.in-Some.members.now.entries = c.into_iter-key-iterator.ensures.into_iter_gives ∙ c.iter-key-items.ensures.rest in
    let is : Some (members_view c.into_iter-key-iterator.result) ≡ as_object (view c.args.tree.now) = ap (λ vs. Some (members_view vs)) all ∙ c.in-Some.ensures in
    let within = entries_within _ _ _ _ _ _ _ _ c.loop-key.invariant is in
    record { ok = search rules; err = search rules; grows = within.0; at_most = within.1; at_least = search rules }

pub returns : goal.returns
returns g c =
    let all : c.into_iter-key-iterator.result ≡ c.in-Some.members.now.entries = c.into_iter-key-iterator.ensures.into_iter_gives ∙ c.iter-key-items.ensures.rest in
    let is : Some (members_view c.into_iter-key-iterator.result) ≡ as_object (view c.args.tree.now) = ap (λ vs. Some (members_view vs)) all ∙ c.in-Some.ensures in
    entries_read _ _ _ _ _ _ _ _ _ c.loop-key.invariant c.in-None.ensures.steps.0 is c.in_ok-extensions.ensures
