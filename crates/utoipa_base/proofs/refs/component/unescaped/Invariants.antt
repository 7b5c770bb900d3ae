use Rattle.std.proofs.Common.{◌≡◌, ◌++◌, length, string_bytes}
use denote.Text.{Utf8}
use denote.Shadow.{shadow}
use Rattle.serde_json.specs.Find.{unescape}
use Rattle.utoipa_base.proofs.refs.component.unescaped.Given as goal

-- the name so far, and what the rest of the token stands for
abbrev pub invariant-loop-front : goal.invariant-loop-front
invariant-loop-front l = shadow (Utf8 l.rest) × (string_bytes l.name ++ unescape l.rest ≡ unescape l.token)

abbrev pub decreases-loop-front : goal.decreases-loop-front
decreases-loop-front l = length l.rest
