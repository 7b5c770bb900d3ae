use Rattle.std.proofs.Common.{◌≡◌, ◌∙◌, ◌++◌, IfOk, sym, ap, subst}
use Rattle.std.specs.Str.{IsUtf8}
use Rattle.std.specs.String.{string_vec}
use Rattle.json.specs.Print.{print}
use Rattle.utoipa_base.specs.Printed.{IsJsonOf}
use Rattle.utoipa_base.specs.Writing.{write}
use Rattle.utoipa_base.proofs.SentTokens.{text_of_events, json_of_events, json_alone}
use Rattle.utoipa.proofs.json_text.to_json.Goals as goal

pub unwrap-requires : goal.unwrap-requires
unwrap-requires g c =
    let printed = c.into_inner.ensures.items ∙ ap (λ bs. bs ++ print c.emit.new.out.tokens) (c.in_ok-emit.ensures.before ∙ c.new-out.ensures.before ∙ c.in_ok-with_capacity.ensures.items) in
    c.from_utf8.ensures.succeeds (subst IsUtf8 (sym printed) c.into_inner.ensures.utf8)

pub returns-clause-text : goal.returns-clause-text
returns-clause-text g c = λ plain.
    let bytes = c.into_inner.result in
    let whole = subst (λ r. IfOk r (λ s. string_vec s ≡ bytes)) c.unwrap.ensures c.from_utf8.ensures.ok in
    ap (λ v. v.items) whole
    ∙ text_of_events (write (g.T.Documented.doc c.args.value.now)) _ _ _ _ (c.new-out.ensures.before ∙ c.in_ok-with_capacity.ensures.items) c.new-out.ensures.tokens c.in_ok-emit.ensures c.into_inner.ensures.items plain

pub returns-clause-json : goal.returns-clause-json
returns-clause-json g c =
    let d = write (g.T.Documented.doc c.args.value.now) in
    let bytes = c.into_inner.result in
    let whole = subst (λ r. IfOk r (λ s. string_vec s ≡ bytes)) c.unwrap.ensures c.from_utf8.ensures.ok in
    subst (IsJsonOf d) (sym (ap (λ v. v.items) whole))
    (json_alone d _ _ c.in_ok-with_capacity.ensures.items (json_of_events d _ _ _ _ c.new-out.ensures.before c.new-out.ensures.tokens c.in_ok-emit.ensures c.into_inner.ensures.items c.into_inner.ensures.reads_back))
