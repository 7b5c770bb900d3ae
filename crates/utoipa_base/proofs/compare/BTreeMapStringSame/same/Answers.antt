use Rattle.std.proofs.Common.{◌≡◌, ◌↔◌, ◌∙◌, ap, string_bytes, sym}
use Rattle.utoipa_base.specs.Docs.{entry, entries_of_list}
use Rattle.utoipa_base.specs.Views.{pairs_of}
use Rattle.utoipa_base.proofs.SameDocs.{entries_whole, if_true, one_text, same_entries}
use Rattle.utoipa_base.proofs.compare.BTreeMapStringSame.same.Goals as goal

pub loop-name-preserved : goal.loop-name-preserved
loop-name-preserved g c =
    let f = g.T.Documented.doc in
    let l = c.loop-name in
    let x = c.in-Some.member.now in
    let y = c.in-Some-next.other.now in
    let k = string_bytes c.in-Some.name.now in
    let j = string_bytes c.in-Some-next.other_name.now in
    let left = entries_of_list (pairs_of f c.next.new.self) in
    let right = entries_of_list (pairs_of f c.next-in-loop-name.new.self) in
    let here : entries_of_list (pairs_of f l.name-iterator) ≡ entry k (f x) left = ap (λ es. entries_of_list (pairs_of f es)) c.in-Some.ensures.steps in
    let there : entries_of_list (pairs_of f l.others) ≡ entry j (f y) right = ap (λ es. entries_of_list (pairs_of f es)) c.in-Some-next.ensures.steps in
    let equal : f x ≡ f y = if_true c.if-not-same.false c.same.ensures in
    let named : k ≡ j = sym c.as_str.ensures.value ∙ one_text _ _ _ c.ne.ensures c.if-ne.false ∙ c.as_str-in-loop-name.ensures.value in
    let before : (entries_of_list (pairs_of f c.into_iter-name-iterator.result) ≡ entries_of_list (pairs_of f c.iter-others.result)) ↔ (entry k (f x) left ≡ entry j (f y) right) =
    rw (← here, ← there) l.invariant.same in
    record {
      left_whole = entries_whole _ _ _ _ here l.invariant.left_whole;
      right_whole = entries_whole _ _ _ _ there l.invariant.right_whole;
      same = same_entries _ _ _ _ _ _ _ _ before named equal;
    }
