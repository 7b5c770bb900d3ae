use Rattle.std.proofs.Common.{◌≡◌, ◌∙◌, ◌++◌, ℕ, List, codes, string_bytes, ap}
use Rattle.std.proofs.lemmas.Result.{IfOk-weaker}
use Rattle.utoipa_findings.specs.Sources.{first_byte, looks, text_line}
use Rattle.utoipa_findings.proofs.text.no_json_line.Goals as goal

pub returns : goal.returns
returns c =
    let line : List ℕ → List ℕ = λ said. text_line c.args.name.now c.args.line c.args.column (said ++ codes "\n") in
    let said : c.looks-said.result.now ≡ looks (first_byte c.args.text.now) = c.looks-said.ensures ∙ ap looks (c.first_byte.ensures ∙ ap first_byte c.as_bytes.ensures.value) in
    IfOk-weaker c.format.result (λ told. string_bytes told ≡ line c.looks-said.result.now) _ (λ told is. is ∙ ap line said) c.format.ensures.ok
