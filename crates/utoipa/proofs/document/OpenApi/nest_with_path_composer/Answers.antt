use Rattle.std.proofs.Common.{◌≡◌, ◌∷◌, ◌||◌, ℕ, [], List, false, sym, ap, subst}
use Rattle.std.specs.Map.{keys_of}
use Rattle.std.proofs.lemmas.Result.{IfOk-weaker}
use Rattle.utoipa_merging.specs.Merged.{IsInKeyOrder, IsMerged}
use Rattle.utoipa_merging.specs.Slots.{entries_in, paths_of}
use Rattle.utoipa_paths.specs.Items.{AreItemsInOrder}
use Rattle.utoipa.specs.Merging.{lists_have_fraction}
use Rattle.utoipa.specs.Nesting.{ArePathsMounted, MayAnswerEach}
use Rattle.utoipa.specs.OpenApi.{openapi_doc}
use Rattle.utoipa.specs.declared.document.OpenApi.{OpenApi}
use Rattle.utoipa.proofs.MadeBeside.{made_is, holds_where_made}
use Rattle.utoipa.proofs.Mounted.{each_answered, nested_where_mounted, in_order_where_mounted, no_fraction, plain_where_mounted}
use Rattle.utoipa.proofs.document.OpenApi.nest_with_path_composer.Goals as goal

pub merged_with-requires-clause-plain : goal.merged_with-requires-clause-plain
merged_with-requires-clause-plain g c =
    let own = c.args.self in
    let other = c.args.other in
    let put = c.mount_paths-mounted in
    let kept = c.in_ok-document.ensures.ok in
    let paths = keys_of (entries_in (paths_of (openapi_doc other))) in
    let m =
    holds_where_made ((answers : List (List ℕ)) × MayAnswerEach g.F.Fn c.args.composer c.args.base.now paths answers × ArePathsMounted answers own put.new.document other put.new.other)
    put.result _ put.ensures.ok kept.1 in
    let plain = plain_where_mounted m.0 own put.new.document other put.new.other m.2 (no_fraction put.result _ (lists_have_fraction (openapi_doc own) || lists_have_fraction (openapi_doc other)) put.ensures.fraction kept.1) in
    subst (λ d. lists_have_fraction (openapi_doc d) ≡ false) (ap (λ b. b.0) (sym kept.0)) plain.0

pub merged_with-requires-clause-other_plain : goal.merged_with-requires-clause-other_plain
merged_with-requires-clause-other_plain g c =
    let own = c.args.self in
    let other = c.args.other in
    let put = c.mount_paths-mounted in
    let kept = c.in_ok-document.ensures.ok in
    let paths = keys_of (entries_in (paths_of (openapi_doc other))) in
    let m =
    holds_where_made ((answers : List (List ℕ)) × MayAnswerEach g.F.Fn c.args.composer c.args.base.now paths answers × ArePathsMounted answers own put.new.document other put.new.other)
    put.result _ put.ensures.ok kept.1 in
    let plain = plain_where_mounted m.0 own put.new.document other put.new.other m.2 (no_fraction put.result _ (lists_have_fraction (openapi_doc own) || lists_have_fraction (openapi_doc other)) put.ensures.fraction kept.1) in
    subst (λ d. lists_have_fraction (openapi_doc d) ≡ false) (ap (λ b. b.1) (sym kept.0)) plain.1

pub returns-clause-ok : goal.returns-clause-ok
returns-clause-ok g c =
    let own = c.args.self in
    let other = c.args.other in
    let put = c.mount_paths-mounted in
    let kept = c.in_ok-document.ensures.ok in
    let paths = keys_of (entries_in (paths_of (openapi_doc other))) in
    let m =
    holds_where_made ((answers : List (List ℕ)) × MayAnswerEach g.F.Fn c.args.composer c.args.base.now paths answers × ArePathsMounted answers own put.new.document other put.new.other)
    put.result _ put.ensures.ok kept.1 in
    let answered = each_answered g.F.Fn c.args.composer c.args.base.now (entries_in (paths_of (openapi_doc other))) m.0 m.1 in
    IfOk-weaker c.or_memory.result _ _
    (λ nested is.
    let merged =
    made_is (λ d. IsMerged (openapi_doc c.in_ok-document.document ∷ openapi_doc c.in_ok-document.other ∷ []) (openapi_doc d)) c.merged_with.result nested c.merged_with.ensures.ok is in (
      m.0,
      m.1,
      nested_where_mounted m.0 own put.new.document other put.new.other nested answered m.2
          (subst (λ (b : OpenApi × OpenApi). IsMerged (openapi_doc b.0 ∷ openapi_doc b.1 ∷ []) (openapi_doc nested)) kept.0 merged),
    ))
    c.or_memory.ensures.ok

pub returns-clause-ordered : goal.returns-clause-ordered
returns-clause-ordered g c =
    let own = c.args.self in
    let other = c.args.other in
    let put = c.mount_paths-mounted in
    let kept = c.in_ok-document.ensures.ok in
    let paths = keys_of (entries_in (paths_of (openapi_doc other))) in
    let m =
    holds_where_made ((answers : List (List ℕ)) × MayAnswerEach g.F.Fn c.args.composer c.args.base.now paths answers × ArePathsMounted answers own put.new.document other put.new.other)
    put.result _ put.ensures.ok kept.1 in
    let items =
    holds_where_made (AreItemsInOrder own.paths.paths → AreItemsInOrder other.paths.paths → AreItemsInOrder put.new.document.paths.paths) put.result _ put.ensures.ordered kept.1 in
    IfOk-weaker c.or_memory.result _ _
    (λ nested is. λ before.
    let both = in_order_where_mounted m.0 own put.new.document other put.new.other m.2 items before c.in_key_order.ensures in
    let ordered =
    made_is (λ d. IsInKeyOrder (openapi_doc c.in_ok-document.document) → IsInKeyOrder (openapi_doc c.in_ok-document.other) → IsInKeyOrder (openapi_doc d)) c.merged_with.result nested c.merged_with.ensures.ordered is in
    ordered (subst (λ d. IsInKeyOrder (openapi_doc d)) (ap (λ b. b.0) (sym kept.0)) both.0) (subst (λ d. IsInKeyOrder (openapi_doc d)) (ap (λ b. b.1) (sym kept.0)) both.1))
    c.or_memory.ensures.ok
