use Rattle.std.proofs.Common.{◌++◌, map, ap, sym, subst, ◌∙◌, arith}
use Rattle.std.proofs.lemmas.Result.{IfOk-weaker}
use Rattle.utoipa_merging.specs.Merged.{IsMerged}
use Rattle.utoipa.specs.Merging.{leaves_of}
use Rattle.utoipa.specs.OpenApi.{openapi_doc}
use Rattle.utoipa.proofs.Bracketed.{left_fewer, right_fewer, right_plain, left_plain, pair_merged, leaf_merged}
use Rattle.utoipa.proofs.MadeBeside.{made_is}
use Rattle.utoipa.proofs.MergedDocuments.{merged_plain}
use Rattle.utoipa.proofs.bracketing.+merge_pairs.Goals as goal

pub merge_pairs-requires : goal.merge_pairs-requires
merge_pairs-requires t c =
    let both = ap leaves_of c.in-Join.is ∙ (λ i. leaves_of (sym c.into_inner.ensures i) ++ leaves_of c.in-Join.right.value) in
    (omega (arith, left_fewer (leaves_of c.args.bracketing) c.into_inner.result c.in-Join.right.value both), left_plain (leaves_of c.args.bracketing) (leaves_of c.into_inner.result) (leaves_of c.in-Join.right.value) both c.requires.plain)

pub merge_pairs-later-requires : goal.merge_pairs-later-requires
merge_pairs-later-requires t c =
    let both = ap leaves_of c.in-Join.is ∙ (λ i. leaves_of (sym c.into_inner.ensures i) ++ leaves_of (sym c.into_inner-in-Join.ensures i)) in
    (omega (arith, right_fewer (leaves_of c.args.bracketing) c.into_inner.result c.into_inner-in-Join.result both), right_plain (leaves_of c.args.bracketing) (leaves_of c.into_inner.result) (leaves_of c.into_inner-in-Join.result) both c.requires.plain)

pub merged_with-requires-clause-plain : goal.merged_with-requires-clause-plain
merged_with-requires-clause-plain t c =
    let both = ap leaves_of c.in-Join.is ∙ (λ i. leaves_of (sym c.into_inner.ensures i) ++ leaves_of (sym c.into_inner-in-Join.ensures i)) in
    let left = leaves_of c.into_inner.result in
    let merged = subst (λ d. IsMerged (map openapi_doc left) (openapi_doc d)) (sym c.in_ok-merged-in-Join-2.ensures.ok.0) c.in_ok-merged-in-Join.ensures.ok in
    merged_plain left c.in_ok-merged-in-Join-2.merged (left_plain (leaves_of c.args.bracketing) left (leaves_of c.into_inner-in-Join.result) both c.requires.plain) merged

pub merged_with-requires-clause-other_plain : goal.merged_with-requires-clause-other_plain
merged_with-requires-clause-other_plain t c =
    let both = ap leaves_of c.in-Join.is ∙ (λ i. leaves_of (sym c.into_inner.ensures i) ++ leaves_of (sym c.into_inner-in-Join.ensures i)) in
    let right = leaves_of c.into_inner-in-Join.result in
    let later = made_is (λ d. IsMerged (map openapi_doc right) (openapi_doc d)) c.merge_pairs-later.result _ c.merge_pairs-later.ensures.ok c.in_ok-merged-in-Join-2.ensures.ok.1 in
    merged_plain right c.in_ok-merged-in-Join-2.later (right_plain (leaves_of c.args.bracketing) (leaves_of c.into_inner.result) right both c.requires.plain) later

pub returns-in-Leaf : goal.returns-in-Leaf
returns-in-Leaf t c =
    record {
      ok = leaf_merged (leaves_of c.args.bracketing) c.in-Leaf.document (ap leaves_of c.in-Leaf.is);
    }

pub returns-in_ok-merged-in-Join-2 : goal.returns-in_ok-merged-in-Join-2
returns-in_ok-merged-in-Join-2 t c =
    record {
      ok = let both = ap leaves_of c.in-Join.is ∙ (λ i. leaves_of (sym c.into_inner.ensures i) ++ leaves_of (sym c.into_inner-in-Join.ensures i)) in
          let left = leaves_of c.into_inner.result in
          let right = leaves_of c.into_inner-in-Join.result in
          let kept = c.in_ok-merged-in-Join-2.ensures.ok in
          let merged = subst (λ d. IsMerged (map openapi_doc left) (openapi_doc d)) (sym kept.0) c.in_ok-merged-in-Join.ensures.ok in
          let later = made_is (λ d. IsMerged (map openapi_doc right) (openapi_doc d)) c.merge_pairs-later.result _ c.merge_pairs-later.ensures.ok kept.1 in
          IfOk-weaker c.merged_with.result _ _ (λ d h. pair_merged (leaves_of c.args.bracketing) left right c.in_ok-merged-in-Join-2.merged c.in_ok-merged-in-Join-2.later d both merged later h) c.merged_with.ensures.ok;
    }
