use Rattle.std.proofs.Common.{◌≡◌, ◌∷◌, [], ◌∙◌, false, true≢false, map, ap, sym, arith}
use Rattle.utoipa_merging.proofs.ItemWalks.{none_left}
use Rattle.utoipa.specs.Merging.{any_list_has_fraction}
use Rattle.utoipa.specs.OpenApi.{openapi_doc}
use Rattle.utoipa.proofs.Bracketed.{any_fraction, leaf_merged, any_list_none, any_list_short}
use Rattle.utoipa.proofs.bracketing.merge_all.Goals as goal
use Rattle.utoipa.proofs.bracketing.merge_all.Goals.{else-len-gt1-via-then-len-gt1+else-any_has_fraction, else-len-gt1-via-else-len-gt1}

pub returns-then-len-eq0-clause-ok : goal.returns-then-len-eq0-clause-ok
returns-then-len-eq0-clause-ok c =
    let rest = c.next.new.self.rest in
    let none : rest.items ≡ [] = none_left rest.items rest.len rest.ok.0 (sym c.len-2.ensures ∙ c.if-len-eq0.true) in
    leaf_merged c.args.documents.items c.in-Some.first (sym c.into_iter-documents.ensures.rest ∙ c.in-Some.ensures.items ∙ ap (λ l. c.in-Some.first ∷ l) none)

pub returns-clause-fraction : goal.returns-clause-fraction
returns-clause-fraction c =
    let documents = c.args.documents in
    let none : any_list_has_fraction (map openapi_doc documents.items) ≡ false =
    elim c.else-len-gt1.branch [
      | else-len-gt1-via-then-len-gt1+else-any_has_fraction w ↦ any_list_none documents.items (ap any_fraction (sym w.deref.ensures.value) ∙ sym w.any_has_fraction.ensures ∙ w.if-any_has_fraction.false)
      | else-len-gt1-via-else-len-gt1 w ↦
          let short = w.if-len-gt1.false in
          let len = c.len.ensures in
          let ok = documents.ok.0 in
          any_list_short documents.items (omega arith)
    ] in
    (λ refused. cc, λ has. absurd (true≢false (sym has ∙ none)))
