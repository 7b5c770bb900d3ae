use Rattle.std.proofs.Common.{◌≡◌, None, SFits, w64, true, false, decimal, sym, arith, rules}
use Rattle.std.proofs.lemmas.Result.{on_ok_weaker}
use Rattle.std.specs.Float.{float_is_finite}
use Rattle.serde_json.specs.Find.{as_u64, as_i64, to_float}
use Rattle.serde_json.specs.View.{number_view}
use Rattle.serde_json.proofs.Numbers.{number_of-plus}
use Rattle.utoipa_base.proofs.SentTokens.{number_sent, text_by_unsigned, text_by_signed, text_by_fraction, fraction_sent, some_number}
use Rattle.utoipa_base.proofs.print.print_number.Goals as goal

pub returns-in-Some : goal.returns-in-Some
returns-in-Some c =
    let n = c.in-Some.unsigned in
    number_sent c.u64.result _ _ (number_view c.args.value.now) (decimal n) (text_by_unsigned (number_view c.args.value.now) n (sym c.in-Some.ensures) (omega arith)) c.u64.ensures

pub returns-in-Some-as_i64 : goal.returns-in-Some-as_i64
returns-in-Some-as_i64 c =
    let none : as_u64 (number_view c.args.value.now) ≡ None = search rules in
    let fits : SFits w64 c.in-Some-as_i64.signed = search rules in
    number_sent c.i64.result _ _ (number_view c.args.value.now) _ (text_by_signed c.args.value.now.n c.in-Some-as_i64.signed _ c.args.value.now.valid none (sym c.in-Some-as_i64.ensures) (search rules) fits) c.i64.ensures

pub returns-then-is_finite : goal.returns-then-is_finite
returns-then-is_finite c =
    let x = c.unwrap_or-fraction.result in
    let not_unsigned : as_u64 (number_view c.args.value.now) ≡ None = search rules in
    let not_signed : as_i64 (number_view c.args.value.now) ≡ None = search rules in
    let is : to_float (number_view c.args.value.now) ≡ x = search rules in
    let finite : float_is_finite x ≡ true = search rules in
    on_ok_weaker c.float_with_plus.result
    (λ w. fraction_sent _ _ (number_view c.args.value.now) w.0 (text_by_fraction c.args.value.now.n x w.0 not_unsigned not_signed is (number_of-plus 16 4 w.0 x w.2 w.3 finite)) c.float_with_plus.ensures.room.1.0 w.1)
    c.float_with_plus.ensures.layout

pub returns-else-is_finite : goal.returns-else-is_finite
returns-else-is_finite c =
    let x = c.unwrap_or-fraction.result in
    let not_unsigned : as_u64 (number_view c.args.value.now) ≡ None = search rules in
    let not_signed : as_i64 (number_view c.args.value.now) ≡ None = search rules in
    let is : to_float (number_view c.args.value.now) ≡ x = search rules in
    let infinite : float_is_finite x ≡ false = search rules in
    absurd (some_number c.args.value.now.n x c.args.value.now.valid not_unsigned not_signed is infinite)
