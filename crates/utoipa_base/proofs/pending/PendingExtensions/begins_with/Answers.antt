use Rattle.std.proofs.Common.{◌∙◌, sym, ap, string_bytes, bytes_eq}
use Rattle.std.proofs.lemmas.Map.Text.{is_eq-slice_cmp}
use Rattle.utoipa_base.proofs.pending.PendingExtensions.begins_with.Goals as goal

pub returns-in-Some : goal.returns-in-Some
returns-in-Some c =
    rw c.in-Some.is (c.eq.ensures ∙ ap (bytes_eq c.args.name.now) c.as_str.ensures.value ∙ sym (is_eq-slice_cmp c.args.name.now (string_bytes c.in-Some.next.name.now)))
