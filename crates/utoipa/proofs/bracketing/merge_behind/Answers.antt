use Rattle.std.proofs.Common.{◌∷◌, sym, ap, subst}
use Rattle.std.specs.Vec.Iter.{into_iter_items}
use Rattle.std.proofs.lemmas.Result.{IfOk-weaker}
use Rattle.utoipa.specs.Merging.{IsSameButParts}
use Rattle.utoipa.proofs.MadeBeside.{holds_where_made}
use Rattle.utoipa.proofs.PartsOfDocuments.{all_taken, parts_plain}
use Rattle.utoipa.proofs.bracketing.merge_behind.Goals as goal

pub merged-requires : goal.merged-requires
merged-requires c =
    let others = into_iter_items c.args.others in
    let taken = c.take_parts-taken in
    let kept = c.in_ok-parts.ensures.ok in
    let parts = all_taken c.args.first others c.new-parts.result taken.new.parts c.in_ok-parts.parts taken.result _ taken.ensures.parts kept.1 (ap (λ b. b.0) kept.0) c.new-parts.ensures in
    record { plain = parts_plain (c.args.first ∷ others) c.in_ok-parts.parts parts c.requires.plain }

pub returns : goal.returns
returns c =
    record {
      ok = let others = into_iter_items c.args.others in
          let taken = c.take_parts-taken in
          let kept = c.in_ok-parts.ensures.ok in
          let parts = all_taken c.args.first others c.new-parts.result taken.new.parts c.in_ok-parts.parts taken.result _ taken.ensures.parts kept.1 (ap (λ b. b.0) kept.0) c.new-parts.ensures in
          let same = subst (λ d. IsSameButParts c.args.first d) (ap (λ b. b.1) (sym kept.0)) (holds_where_made (IsSameButParts c.args.first taken.new.first) taken.result _ taken.ensures.fixed kept.1) in
          IfOk-weaker c.merged.result _ _ (λ merged h. h others c.args.first parts same) c.merged.ensures.ok;
    }
