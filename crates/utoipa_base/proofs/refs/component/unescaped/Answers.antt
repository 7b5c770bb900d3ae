use Rattle.std.proofs.Common.{rules, ◌++◌, None, Some, ap, arith}
use Rattle.std.proofs.lemmas.Str.Pattern.{split_parts}
use Rattle.serde_json.specs.Find.{unescape}
use Rattle.utoipa_base.proofs.PointerPaths.{next_tilde, last_part}
use Rattle.utoipa_base.proofs.refs.component.unescaped.Goals as goal

pub loop-front-init : goal.loop-front-init
loop-front-init c = (c.utf8.token, ap (λ l. l ++ unescape c.args.token.now) c.new-name.ensures.bytes)

pub loop-front-preserved : goal.loop-front-preserved
loop-front-preserved c =
    let parts = split_parts 126 c.loop-front.rest.now (Some (c.in-Some.front, c.in-Some.after)) c.in-Some.ensures.cases (omega arith) in
    let next = next_tilde _ _ _ _ _ _ _ _ _ c.in_ok-push_str.ensures.bytes c.in_ok-push_str-2.ensures.bytes parts.0 parts.1 c.tilde_of.ensures.letter c.loop-front.invariant.1 in
    search rules

pub returns : goal.returns
returns c = last_part _ _ _ _ c.in_ok-push_str-3.ensures.bytes (split_parts 126 c.loop-front.rest.now None c.in_default.ensures.cases (omega arith)) c.loop-front.invariant.1
