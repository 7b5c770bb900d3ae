use Rattle.utoipa_base.specs.Writing.{write}
use Rattle.utoipa_base.proofs.SentTokens.{text_of_events, json_of_events}
use Rattle.utoipa_base.proofs.emit.append_text.Goals as goal

pub returns-clause-text : goal.returns-clause-text
returns-clause-text g c whole =
    text_of_events (write (g.T.Documented.doc c.args.value.now)) _ _ _ _ c.new-out.ensures.before c.new-out.ensures.tokens c.in_ok-emit.ensures c.into_inner.ensures.items whole

pub returns-clause-json : goal.returns-clause-json
returns-clause-json g c =
    json_of_events (write (g.T.Documented.doc c.args.value.now)) _ _ _ _ c.new-out.ensures.before c.new-out.ensures.tokens c.in_ok-emit.ensures c.into_inner.ensures.items c.into_inner.ensures.reads_back
