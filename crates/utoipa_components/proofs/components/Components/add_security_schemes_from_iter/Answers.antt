use Rattle.std.proofs.Common.{◌∙◌, ap, refl}
use Rattle.std.proofs.lemmas.Result.{on_ok_weaker, on_err_weaker}
use Rattle.utoipa_base.specs.Fill.{put_each}
use Rattle.utoipa_components.proofs.Refused.{on_err_if}
use Rattle.utoipa_components.proofs.PutTwice.{put_twice}
use Rattle.utoipa_components.proofs.components.Components.add_security_schemes_from_iter.Goals as goal

pub returns-in_err-put_each-clause-err : goal.returns-in_err-put_each-clause-err
returns-in_err-put_each-clause-err g c = on_err_if c.from_residual.result (c.args.self.now.security_schemes, refl, refl)

pub returns-clause-ok : goal.returns-clause-ok
returns-clause-ok g c =
    let earlier = c.args.self.now.security_schemes.entries in
    let put = c.in_ok-put_each.ensures in
    on_ok_weaker c.put_all.result
    (λ all.
    let held = all ∙ ap (λ es. put_each es earlier) (put.2 ∙ ap (put_each put.0) c.new-later.ensures.empty) ∙ put_twice put.0 earlier in
    (put.0, put.1, (c.put_all.new.map, held, refl)))
    c.put_all.ensures.ok

pub returns-clause-err : goal.returns-clause-err
returns-clause-err g c = on_err_weaker c.put_all.result (λ kept. (c.put_all.new.map, kept, refl)) c.put_all.ensures.err
