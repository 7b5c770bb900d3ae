use Rattle.std.proofs.Common.{◌≡◌, ◌∙◌, is_some, true, sym, arith}
use Rattle.serde_json.specs.Find.{as_object}
use Rattle.serde_json.specs.View.{view}
use Rattle.utoipa_base.proofs.ByRows.{read-no_object}
use Rattle.utoipa_base.proofs.RowLists.{table_alone}
use Rattle.utoipa_base.proofs.table.read_table_alone.Goals as goal

pub returns-then-not-is_object : goal.returns-then-not-is_object
returns-then-not-is_object g c = λ n is alone.
    record { ok = tt; err = read-no_object n _ (sym c.is_object.ensures ∙ c.if-not-is_object.true); grows = omega arith; at_most = omega arith; at_least = tt }

pub returns : goal.returns
returns g c = λ n is alone.
    let object : is_some (as_object (view c.args.tree.now)) ≡ true = sym c.is_object.ensures ∙ c.if-not-is_object.false in
    table_alone g.R.RowFields.docs n _ _ _ _ _ is alone object c.read.ensures
