use Rattle.std.proofs.Common.{◌||◌, None, ap, arith}
use Rattle.std.proofs.lemmas.Str.Pattern.{strip_prefix_char}
use Rattle.std.specs.BTreeSet.{contains_text}
use Rattle.utoipa_outline.specs.Used.{is_token}
use Rattle.utoipa_outline.proofs.Naming.{of_other}
use Rattle.utoipa_outline.proofs.used.note_reference.Goals as goal

pub returns-in-None : goal.returns-in-None
returns-in-None c = λ t.
    ap (λ o. is_token t o || contains_text c.args.used.now t) (of_other c.args.text.now (strip_prefix_char 35 c.args.text.now None c.in-None.ensures.cases (omega arith)))
