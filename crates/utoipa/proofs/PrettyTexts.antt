-- A tree's text with a line for each item and member.
use Rattle.std.proofs.Common.{◌≡◌, ◌≤◌, ◌∙◌, Some, false, Result, Ok, Err, IfOk, ap, subst, String, Global, string_bytes}
use Rattle.json.specs.Layout.{pretty}
use Rattle.json.specs.Lex.{tokens}
use Rattle.serde_json.specs.Data.{Data, depth}
use Rattle.serde_json.specs.Read.{read as read_text, max_depth}
use Rattle.serde_json.specs.Written.{has_float, IsInOrder}
use Rattle.serde_json.proofs.Texts.{tokens_from_order}
use Rattle.utoipa.specs.Texts.{pretty_text}

-- the text is that of a tree with another name
pub pretty_as : {E : Type 0} (r : Result (String Global) E) (t u : Data) → t ≡ u → IfOk r (λ s. string_bytes s ≡ pretty (tokens (string_bytes s))) → IfOk r (λ s. IsInOrder (string_bytes s) t) → IfOk r (λ s. has_float u ≡ false → string_bytes s ≡ pretty_text u)
pretty_as (Ok s) t u is layout order = λ plain. layout ∙ ap pretty (tokens_from_order (string_bytes s) u (subst (IsInOrder (string_bytes s)) is order) plain)
pretty_as (Err e) t u is layout order = tt

-- and it reads as that tree
pub reads_back_as : {E : Type 0} (r : Result (String Global) E) (t u : Data) → t ≡ u → IfOk r (λ s. depth t ≤ max_depth → read_text (string_bytes s) ≡ Some t) → IfOk r (λ s. depth u ≤ max_depth → read_text (string_bytes s) ≡ Some u)
reads_back_as r t u is read = subst (λ v. IfOk r (λ s. depth v ≤ max_depth → read_text (string_bytes s) ≡ Some v)) is read
