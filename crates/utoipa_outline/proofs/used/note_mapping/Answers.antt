use Rattle.std.proofs.Common.{◌≡◌, ◌||◌, ℕ, List, None, OnOk, subst, arith}
use Rattle.std.proofs.lemmas.Str.Pattern.{strip_prefix_char}
use Rattle.std.specs.BTreeSet.{contains_text}
use Rattle.utoipa_outline.specs.Used.{is_token}
use Rattle.utoipa_outline.proofs.Naming.{of_name}
use Rattle.utoipa_outline.proofs.used.note_mapping.Goals as goal

pub returns-in-None : goal.returns-in-None
returns-in-None c =
    subst (λ o. OnOk c.note.result ((t : List ℕ) → contains_text c.note.new.used t ≡ (is_token t o || contains_text c.args.used.now t)))
    (of_name c.args.text.now (strip_prefix_char 35 c.args.text.now None c.in-None.ensures.cases (omega arith))) c.note.ensures
