use Rattle.std.proofs.Common.{◌≡◌, None, Some, IfOk, option_map, string_bytes, sym, ap, ◌∙◌, subst, arith}
use Rattle.std.proofs.lemmas.Str.Pattern.{strip_prefix_char}
use Rattle.std.specs.Cow.{cow_str_bytes}
use Rattle.std.specs.Str.{IsUtf8}
use Rattle.percent_encoding.specs.Percent.{percent_decode}
use Rattle.utoipa_base.specs.References.{key_of}
use Rattle.utoipa_base.proofs.LocalReferences.{at_other, at_pointer, at_no_pointer}
use Rattle.utoipa_base.proofs.refs.component.component_at_location.Goals as goal

pub returns-in_default : goal.returns-in_default
returns-in_default c = sym (at_other c.args.location.now (strip_prefix_char 35 c.args.location.now None c.in_default.ensures.cases (omega arith)))

pub returns-in-Ok-Borrowed : goal.returns-in-Ok-Borrowed
returns-in-Ok-Borrowed c =
    let local = strip_prefix_char 35 c.args.location.now (Some c.in-Some.fragment) c.in-Some.ensures.cases (omega arith) in
    let same = c.percent_decode.ensures.bytes ∙ ap percent_decode c.as_bytes.ensures.value in
    let at = at_pointer c.args.location.now c.in-Some.fragment.now c.in-Ok-Borrowed.pointer.now local (sym (ap cow_str_bytes c.in-Ok-Borrowed.field-0-is) ∙ c.in-Ok-Borrowed.ensures.value ∙ same) (subst IsUtf8 same c.in-Ok-Borrowed.ensures.ok_only_if_utf8) in
    subst (λ there. IfOk c.key_at.result (λ found. option_map key_of found ≡ there)) at c.key_at.ensures

pub returns-in-Ok-Owned : goal.returns-in-Ok-Owned
returns-in-Ok-Owned c =
    let local = strip_prefix_char 35 c.args.location.now (Some c.in-Some.fragment) c.in-Some.ensures.cases (omega arith) in
    let same = c.percent_decode.ensures.bytes ∙ ap percent_decode c.as_bytes.ensures.value in
    let at = at_pointer c.args.location.now c.in-Some.fragment.now (string_bytes c.in-Ok-Owned.pointer) local (sym (ap cow_str_bytes c.in-Ok-Owned.field-0-is) ∙ c.in-Ok-Owned.ensures.value ∙ same) (subst IsUtf8 same c.in-Ok-Owned.ensures.ok_only_if_utf8) in
    subst (λ there. IfOk c.owned_key_at.result (λ found. option_map key_of found ≡ there)) at c.owned_key_at.ensures

pub returns-in-Err-Utf8 : goal.returns-in-Err-Utf8
returns-in-Err-Utf8 c =
    let local = strip_prefix_char 35 c.args.location.now (Some c.in-Some.fragment) c.in-Some.ensures.cases (omega arith) in
    let same = c.percent_decode.ensures.bytes ∙ ap percent_decode c.as_bytes.ensures.value in
    at_no_pointer c.args.location.now c.in-Some.fragment.now local (λ is. let other = c.in-Err-Utf8.ensures.utf8 (subst IsUtf8 (sym same) is) in cc)
