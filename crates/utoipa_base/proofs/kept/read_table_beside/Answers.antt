use Rattle.std.proofs.Common.{◌≡◌, ◌∙◌, is_some, true, refl, sym, arith}
use Rattle.serde_json.specs.Find.{as_object}
use Rattle.serde_json.specs.View.{view}
use Rattle.utoipa_base.specs.Rows.{rows_woven, texts}
use Rattle.utoipa_base.specs.declared.fault.ReadFault.TheVariants.{Memory}
use Rattle.utoipa_base.proofs.ByRows.{read-no_object}
use Rattle.utoipa_base.proofs.PartsRead.{part_as, part_among, part_refused, parts_fewer, table_read}
use Rattle.utoipa_base.proofs.Readers.{passes_refusal}
use Rattle.utoipa_base.proofs.RowLists.{reads_as}
use Rattle.utoipa_base.proofs.kept.read_table_beside.Goals as goal

pub returns-then-not-is_object : goal.returns-then-not-is_object
returns-then-not-is_object g c = λ n order others docs start is extended before.
    record {
      ok = tt;
      err = read-no_object n _ (sym c.is_object.ensures ∙ c.if-not-is_object.true);
      grows = before.grows;
      at_most = omega (arith, before.at_most, parts_fewer n order _ others (view c.args.tree.now) is);
      at_least = tt;
    }

pub returns-in_err-fields : goal.returns-in_err-fields
returns-in_err-fields g c = λ n order others docs start is extended before.
    part_refused _ _ n order _ others _ _ _ _ start _ _ is before c.from_residual.ensures.1 c.in_err-fields.ensures

pub returns-in_err-extensions : goal.returns-in_err-extensions
returns-in_err-extensions g c = λ n order others docs start is extended before.
    let less = parts_fewer n order _ others (view c.args.tree.now) is in
    passes_refusal _ _ Memory _ start _ _ c.from_residual-in_err-extensions.ensures.1 tt
    (omega (arith, before.grows, c.in_ok-fields.ensures.grows))
    (omega (arith, before.at_most, c.in_ok-fields.ensures.at_most, less))

pub returns : goal.returns
returns g c = λ n order others docs start is extended before.
    let object : is_some (as_object (view c.args.tree.now)) ≡ true = sym c.is_object.ensures ∙ c.if-not-is_object.false in
    let rows = g.R.RowFields.rows (texts c.args.names.now) in
    let fields = c.in_ok-fields.fields in
    let all = table_read n (rows_woven order rows others) _ _ _ start _ is extended object c.in_ok-extensions.ensures
    (part_among order rows others _ _ _ start _ _ before (part_as _ rows _ fields _ _ c.in_ok-fields.ensures)) in
    reads_as _ _ _ _ _ _ _ _ refl all
