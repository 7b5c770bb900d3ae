use Rattle.std.proofs.Common.{◌∙◌, ap, sym, string_cmp}
use Rattle.std.specs.BTreeMap.{insert_entry}
use Rattle.utoipa_security.proofs.Scopes.{put_descriptions-last}
use Rattle.utoipa_security.proofs.security.scopes.Scopes.from_pairs.Goals as goal

pub loop-scope-preserved : goal.loop-scope-preserved
loop-scope-preserved g c =
    c.in_ok-insert.ensures.entries ∙ ap (λ es. insert_entry string_cmp es c.in-Some.scope c.in-Some.description) c.loop-scope.invariant
    ∙ sym (put_descriptions-last c.loop-scope.yielded (c.in-Some.scope, c.in-Some.description) _)
