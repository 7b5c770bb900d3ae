use Rattle.std.proofs.Common.{ap, arith, string_bytes}
use Rattle.utoipa_base.specs.Docs.{entries_of_list}
use Rattle.utoipa_base.specs.Views.{pairs_of}
use Rattle.utoipa_base.proofs.UnambiguousParts.{by_parts, entry_split}
use Rattle.utoipa_base.proofs.unambiguous.BTreeMapStringUnambiguous.is_unambiguous.Goals as goal

pub returns-then-not-is_unambiguous : goal.returns-then-not-is_unambiguous
returns-then-not-is_unambiguous g c =
    let f = g.T.Documented.doc in
    let x = c.in-Some.member.now in
    let k = string_bytes c.in-Some.field-0-0.now in
    let here = ap (λ es. entries_of_list (pairs_of f es)) c.in-Some.ensures.steps in
    let split = entry_split _ k (f x) _ _ here (g.met.T.Unambiguous.of_kind x) in
    grind (arith, by_parts, split, c.loop-member.invariant)

pub loop-member-preserved : goal.loop-member-preserved
loop-member-preserved g c =
    let f = g.T.Documented.doc in
    let x = c.in-Some.member.now in
    let k = string_bytes c.in-Some.field-0-0.now in
    let here = ap (λ es. entries_of_list (pairs_of f es)) c.in-Some.ensures.steps in
    let split = entry_split _ k (f x) _ _ here (g.met.T.Unambiguous.of_kind x) in
    grind (arith, by_parts, split, c.loop-member.invariant)
