use Rattle.std.proofs.Common.{◌≡◌, ◌∙◌, ap, subst, sym}
use Rattle.serde_json.specs.View.{view}
use Rattle.utoipa_base.specs.Kinds as kinds
use Rattle.utoipa_check.specs.Misfits as specs
use Rattle.utoipa_check.proofs.Leaves.{text_fits, flag_fits, otherwise_fits}
use Rattle.utoipa_tables.specs.Tables.{kind_of}
use Rattle.utoipa_check.proofs.leaf.fits_plain.Goals as goal

pub returns-in-Text : goal.returns-in-Text
returns-in-Text c =
    let k : kind_of c.args.kind ≡ kinds.text = ap kind_of c.in-Text.is in
    subst (λ k. specs.misfits k (view c.args.tree.now) ≡ specs.expect_of c.is_string.result k (view c.args.tree.now)) (sym k) (text_fits (view c.args.tree.now) ∙ ap (λ b. specs.expect_of b kinds.text (view c.args.tree.now)) (sym c.is_string.ensures))

pub returns-in-Flag : goal.returns-in-Flag
returns-in-Flag c =
    let k : kind_of c.args.kind ≡ kinds.flag = ap kind_of c.in-Flag.is in
    subst (λ k. specs.misfits k (view c.args.tree.now) ≡ specs.expect_of c.is_boolean.result k (view c.args.tree.now)) (sym k) (flag_fits (view c.args.tree.now) ∙ ap (λ b. specs.expect_of b kinds.flag (view c.args.tree.now)) (sym c.is_boolean.ensures))

pub returns-in_default : goal.returns-in_default
returns-in_default c = otherwise_fits c.args.kind (view c.args.tree.now) c.requires c.in_default.not-Text c.in_default.not-Flag
