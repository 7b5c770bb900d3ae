use Rattle.std.proofs.Common.{◌≡◌, Some, List, [], ◌∷◌, ◌++◌, ◌∙◌, ap, sym, subst, append_assoc, append-nil, string_cmp, string_bytes, true, false, None, length, BTreeMap, String, Global, refl, arith, true≢false}
use Rattle.std.specs.List.Sorted.{IsStrictlySortedBy}
use Rattle.std.specs.Map.{keys_of}
use Rattle.serde_json.specs.View.{view, members_view}
use Rattle.serde_json.proofs.Views.{Entry, members_view-insert_entry}
use Rattle.utoipa_base.specs.Extensions.{is_extension, extension_members, some_if_any, extensions_at}
use Rattle.serde_json.specs.Data.{Data, null, boolean, number, string, array, object}
use Rattle.serde_json.specs.Find.{as_object}
use Rattle.serde_json.specs.declared.value.Value.{Value}
use Rattle.utoipa_base.proofs.ExtensionMembers.{put_extension}
use Rattle.utoipa_base.proofs.extensions.trees.read_extensions.Goals as goal

pub loop-key-preserved-then-is_extension_name : goal.loop-key-preserved-then-is_extension_name
loop-key-preserved-then-is_extension_name c =
    let l = c.loop-key in
    let done = l.invariant.0 in
    let e : Entry = (c.in-Some-2.key.now, c.in-Some-2.member.now) in
    let left = c.next.new.self in
    let all : c.into_iter-key-iterator.result ≡ done ++ e ∷ left = l.invariant.1 ∙ ap (λ es. done ++ es) c.in-Some-2.ensures.steps in
    let is_all = c.into_iter-key-iterator.ensures.into_iter_gives ∙ c.iter-key-items.ensures.rest in
    let sorted = subst (λ es. IsStrictlySortedBy string_cmp (keys_of es)) (sym is_all ∙ all) c.iter-key-items.ensures.ordered in
    let test : is_extension (string_bytes e.0) ≡ true = sym (ap is_extension c.as_str.ensures.value) ∙ sym c.is_extension_name.ensures ∙ c.if-is_extension_name.true in
    let named : string_bytes c.in_ok-name.name ≡ string_bytes e.0 = c.in_ok-name.ensures.cases in
    let copied : view c.in_ok-value.value ≡ view e.1 = c.in_ok-value.ensures.cases in (
      done ++ e ∷ [],
      all ∙ sym (append_assoc done (e ∷ []) left),
      ap members_view c.in_ok-insert.ensures.entries ∙ members_view-insert_entry l.entries.entries c.in_ok-name.name c.in_ok-value.value ∙ rw (named, copied, l.invariant.2) (sym (put_extension done e left true test sorted)),
    )

pub loop-key-preserved : goal.loop-key-preserved
loop-key-preserved c =
    let l = c.loop-key in
    let done = l.invariant.0 in
    let e : Entry = (c.in-Some-2.key.now, c.in-Some-2.member.now) in
    let left = c.next.new.self in
    let all : c.into_iter-key-iterator.result ≡ done ++ e ∷ left = l.invariant.1 ∙ ap (λ es. done ++ es) c.in-Some-2.ensures.steps in
    let is_all = c.into_iter-key-iterator.ensures.into_iter_gives ∙ c.iter-key-items.ensures.rest in
    let sorted = subst (λ es. IsStrictlySortedBy string_cmp (keys_of es)) (sym is_all ∙ all) c.iter-key-items.ensures.ordered in
    let test : is_extension (string_bytes e.0) ≡ false = sym (ap is_extension c.as_str.ensures.value) ∙ sym c.is_extension_name.ensures ∙ c.if-is_extension_name.false in (
      done ++ e ∷ [],
      all ∙ sym (append_assoc done (e ∷ []) left),
      l.invariant.2 ∙ sym (put_extension done e left false test sorted),
    )

-- what the object's members say of its extensions, once each was looked at
found : (m : BTreeMap (String Global) Value) (d : Data) (es : List Entry) → Some (members_view es) ≡ as_object d → members_view m.entries ≡ extension_members (members_view es)
    → extensions_at true d ≡ some_if_any (members_view m.entries)
found m null es is e = cc
found m (boolean b) es is e = cc
found m (number n) es is e = cc
found m (string s) es is e = cc
found m (array ds) es is e = cc
found m (object ms) es is e =
    let same : ms ≡ members_view es = cc in
    ap some_if_any (ap extension_members same ∙ sym e)

any_entries : (es : List Entry) → length es ≡ 0 → None ≡ some_if_any (members_view es)
any_entries [] e = refl
any_entries (x ∷ es) e = absurd (omega arith)

some_entries : (es : List Entry) → (length es ≡ 0 → ⊥) → Some (members_view es) ≡ some_if_any (members_view es)
some_entries [] e = absurd (e refl)
some_entries (x ∷ es) e = refl

pub returns : goal.returns
returns c =
    let l = c.loop-key in
    let is_all = c.into_iter-key-iterator.ensures.into_iter_gives ∙ c.iter-key-items.ensures.rest in
    let all : l.invariant.0 ≡ c.into_iter-key-iterator.result = sym (l.invariant.1 ∙ ap (λ es. l.invariant.0 ++ es) c.in-None.ensures.steps.0 ∙ append-nil l.invariant.0) in
    let is : Some (members_view l.invariant.0) ≡ as_object (view c.args.tree.now) = ap (λ es. Some (members_view es)) (all ∙ is_all) ∙ c.in-Some.ensures in
    some_entries l.entries.entries (λ h. absurd (true≢false (sym (c.if-is_empty.ensures.1 h)))) ∙ sym (found l.entries _ _ is l.invariant.2)

pub returns-then-is_empty : goal.returns-then-is_empty
returns-then-is_empty c =
    let l = c.loop-key in
    let is_all = c.into_iter-key-iterator.ensures.into_iter_gives ∙ c.iter-key-items.ensures.rest in
    let all : l.invariant.0 ≡ c.into_iter-key-iterator.result = sym (l.invariant.1 ∙ ap (λ es. l.invariant.0 ++ es) c.in-None.ensures.steps.0 ∙ append-nil l.invariant.0) in
    let is : Some (members_view l.invariant.0) ≡ as_object (view c.args.tree.now) = ap (λ es. Some (members_view es)) (all ∙ is_all) ∙ c.in-Some.ensures in
    any_entries l.entries.entries (c.if-is_empty.ensures.0 refl) ∙ sym (found l.entries _ _ is l.invariant.2)
