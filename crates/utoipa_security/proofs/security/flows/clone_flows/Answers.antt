use Rattle.std.proofs.Common.{[], ◌∷◌, ◌++◌, ◌∙◌, ap, sym, String, Global, string_bytes}
use Rattle.std.proofs.lemmas.List.{map-append}
use Rattle.utoipa_base.specs.Docs.{flow_doc}
use Rattle.utoipa_base.specs.Views.{pairs_of}
use Rattle.utoipa_security.specs.OAuth.{flow_view}
use Rattle.utoipa_security.specs.declared.security.flows.Flow.{Flow}
use Rattle.utoipa_security.proofs.KeyedFlows.{flows_next}
use Rattle.utoipa_security.proofs.security.flows.clone_flows.Goals as goal

pub loop-key-preserved : goal.loop-key-preserved
loop-key-preserved c =
    let l = c.loop-key in
    let done = l.invariant.0 in
    let e : String Global × Flow = (c.in-Some.key.now, c.in-Some.member.now) in
    let next = flows_next _ done _ _ _ e _ _ _ l.invariant.1 l.invariant.2 c.in-Some.ensures.steps c.iter-key-items.ensures.ordered c.in_ok-name.ensures.cases c.in_ok-insert.ensures.entries in (
      done ++ e ∷ [],
      next.0,
      next.1,
      next.2 ∙ ap (λ ps. ps ++ (string_bytes e.0, flow_view c.in_ok-value.value) ∷ []) l.invariant.3
          ∙ ap (λ d. pairs_of flow_view done ++ (string_bytes e.0, flow_doc d) ∷ []) c.in_ok-value.ensures
          ∙ sym (map-append _ done (e ∷ [])),
    )
