use Rattle.std.proofs.Common.{◌∙◌, ◌||◌, true, ap, string_bytes}
use Rattle.std.proofs.lemmas.Map.Text.{btree_set_updates_text}
use Rattle.std.specs.BTreeSet.{contains_text}
use Rattle.std.specs.Str.{bytes_eq}
use Rattle.utoipa_outline.proofs.Naming.{as_or}
use Rattle.utoipa_outline.proofs.used.note.Goals as goal

pub returns : goal.returns
returns c = λ t.
    let old = contains_text c.args.used.now t in
    btree_set_updates_text (string_bytes c.in_ok-name.name) c.args.used.now c.insert.new.self true c.in_ok-insert.ensures.updates t
    ∙ as_or (bytes_eq (string_bytes c.in_ok-name.name) t) old ∙ ap (λ bs. bytes_eq bs t || old) c.in_ok-name.ensures.ok
