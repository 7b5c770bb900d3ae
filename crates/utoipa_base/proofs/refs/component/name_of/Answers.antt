use Rattle.std.proofs.Common.{sym, ◌∙◌, arith, true≢false}
use Rattle.std.proofs.lemmas.Str.Pattern.{contains_char}
use Rattle.serde_json.proofs.Paths.{unescape_plain}
use Rattle.utoipa_base.proofs.refs.component.name_of.Goals as goal

pub returns-clause-value : goal.returns-clause-value
returns-clause-value c =
    let at = contains_char 126 c.args.token.now c.contains.result c.contains.ensures.cases (omega arith) in
    sym (unescape_plain c.args.token.now (λ i less e. true≢false (sym (at.1 i less e) ∙ c.if-contains.false)))

pub returns-then-contains-clause-borrows : goal.returns-then-contains-clause-borrows
returns-then-contains-clause-borrows c all =
    let at = (contains_char 126 c.args.token.now c.contains.result c.contains.ensures.cases (omega arith)).0 c.if-contains.true in
    absurd (all at.0 0 at.1 at.2)
