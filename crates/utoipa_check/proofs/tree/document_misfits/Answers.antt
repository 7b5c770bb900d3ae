use Rattle.std.proofs.Common.{◌≡◌, ◌∙◌, ap, sym, IfOk, subst, rules, string_bytes}
use Rattle.serde_json.specs.Data as value
use Rattle.serde_json.specs.View.{view, items_view, members_view, number_view}
use Rattle.serde_json.specs.declared.value.Value.{the_lemmas}
use Rattle.utoipa_check.specs.Misfits as specs
use Rattle.utoipa_check.specs.Places.{outcomes}
use Rattle.utoipa_check.specs.Views.{misfits_of}
use Rattle.utoipa_tables.specs.Tables.{kind_of}
use Rattle.utoipa_check.proofs.Leaves.{of_null, of_boolean, of_number, of_string, of_array, inside_array, of_object}
use Rattle.utoipa_check.proofs.tree.document_misfits.Goals as goal

pub returns-in-Null : goal.returns-in-Null
returns-in-Null c =
    let seen : value.null ≡ view c.args.tree.now = rw c.in-Null.is (search (rules, the_lemmas)) in
    subst (λ x. IfOk c.expect.result (λ v. misfits_of v.items ≡ x)) (ap (λ b. specs.expect b (kind_of c.own_kind-own.result)) c.null_fits.ensures ∙ sym (of_null (kind_of c.args.kind) _ _ seen c.own_kind-own.ensures.own)) c.expect.ensures

pub returns-in-Bool : goal.returns-in-Bool
returns-in-Bool c =
    let seen : value.boolean c.in-Bool.flag ≡ view c.args.tree.now = rw c.in-Bool.is (search (rules, the_lemmas)) in
    subst (λ x. IfOk c.expect-in-Bool.result (λ v. misfits_of v.items ≡ x)) (ap (λ b. specs.expect b (kind_of c.own_kind-own.result)) c.boolean_fits.ensures ∙ sym (of_boolean (kind_of c.args.kind) _ _ _ seen c.own_kind-own.ensures.own))
    c.expect-in-Bool.ensures

pub returns-in-Number : goal.returns-in-Number
returns-in-Number c =
    let seen : value.number (number_view c.in-Number.number) ≡ view c.args.tree.now = rw c.in-Number.is (search (rules, the_lemmas)) in
    subst (λ x. IfOk c.expect_of.result (λ v. misfits_of v.items ≡ x)) (ap (λ b. specs.expect_of b (kind_of c.own_kind-own.result) (view c.args.tree.now)) c.number_fits.ensures ∙ sym (of_number (kind_of c.args.kind) _ _ _ seen c.own_kind-own.ensures.own))
    c.expect_of.ensures

pub returns-in-String : goal.returns-in-String
returns-in-String c =
    let seen : value.string (string_bytes c.in-String.text) ≡ view c.args.tree.now = rw c.in-String.is (search (rules, the_lemmas)) in
    subst (λ x. IfOk c.text_misfits.result (λ v. misfits_of v.items ≡ x)) (ap (λ s. specs.string_misfits s (kind_of c.own_kind-own.result)) c.as_str.ensures.value ∙ sym (of_string (kind_of c.args.kind) _ _ _ seen c.own_kind-own.ensures.own))
    c.text_misfits.ensures

pub array_misfits-requires-clause-inner : goal.array_misfits-requires-clause-inner
array_misfits-requires-clause-inner c =
    let seen : value.array (items_view c.in-Array.field-0.items) ≡ view c.args.tree.now = rw c.in-Array.is (search (rules, the_lemmas)) in
    c.requires ∙ ap outcomes (inside_array (kind_of c.args.kind) _ _ _ seen c.own_kind-own.ensures.own)

pub returns-in-Array : goal.returns-in-Array
returns-in-Array c =
    let seen : value.array (items_view c.in-Array.field-0.items) ≡ view c.args.tree.now = rw c.in-Array.is (search (rules, the_lemmas)) in
    subst (λ x. IfOk c.array_misfits.result (λ v. misfits_of v.items ≡ x)) (sym (of_array (kind_of c.args.kind) _ _ _ seen c.own_kind-own.ensures.own)) c.array_misfits.ensures

pub returns : goal.returns
returns c =
    let seen : value.object (members_view c.in-Object.field-0.entries) ≡ view c.args.tree.now = rw c.in-Object.is (search (rules, the_lemmas)) in
    subst (λ x. IfOk c.object_misfits.result (λ v. misfits_of v.items ≡ x)) (sym (of_object (kind_of c.args.kind) _ _ seen)) c.object_misfits.ensures
