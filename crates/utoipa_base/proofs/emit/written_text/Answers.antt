use Rattle.std.proofs.lemmas.Result.{IfOk-weaker}
use Rattle.utoipa_base.specs.Writing.{write}
use Rattle.utoipa_base.proofs.SentTokens.{json_alone}
use Rattle.utoipa_base.proofs.emit.written_text.Goals as goal

pub returns-clause-json : goal.returns-clause-json
returns-clause-json g c = IfOk-weaker c.append_text.result _ _ (λ v. json_alone (write (g.T.Documented.doc c.args.value.now)) _ _ c.in_ok-with_capacity.ensures.items) c.append_text.ensures.json
