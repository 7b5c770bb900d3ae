use Rattle.std.proofs.Common.{None, Some, ap, ◌∙◌, ◌∷◌, arith}
use Rattle.std.proofs.lemmas.Str.Pattern.{strip_prefix_char}
use Rattle.serde_json.specs.Find.{unescape}
use Rattle.utoipa_base.proofs.PointerPaths.{unescape_1, unescape_0, unescape_other}
use Rattle.utoipa_base.proofs.refs.component.tilde_of.Goals as goal

pub returns-in-Some-clause-letter : goal.returns-in-Some-clause-letter
returns-in-Some-clause-letter c = ap (λ s. unescape (126 ∷ s)) (strip_prefix_char 49 c.args.after.now (Some c.in-Some.rest) c.in-Some.ensures.cases (omega arith)) ∙ unescape_1 c.in-Some.rest.now

pub returns-in-Some-strip_prefix-clause-letter : goal.returns-in-Some-strip_prefix-clause-letter
returns-in-Some-strip_prefix-clause-letter c =
    ap (λ s. unescape (126 ∷ s)) (strip_prefix_char 48 c.args.after.now (Some c.in-Some-strip_prefix.rest) c.in-Some-strip_prefix.ensures.cases (omega arith)) ∙ unescape_0 c.in-Some-strip_prefix.rest.now

pub returns-in-None-clause-letter : goal.returns-in-None-clause-letter
returns-in-None-clause-letter c =
    unescape_other c.args.after.now (strip_prefix_char 49 c.args.after.now None c.in_default.ensures.cases (omega arith)) (strip_prefix_char 48 c.args.after.now None c.in-None.ensures.cases (omega arith))
