use Rattle.std.proofs.Common.{◌≡◌, ◌∙◌, is_some, true, sym, arith, rules}
use Rattle.serde_json.specs.Find.{as_object}
use Rattle.serde_json.specs.View.{view}
use Rattle.utoipa_base.proofs.ByRows.{read-no_object}
use Rattle.utoipa_base.proofs.TableParts.{fields_of_part}
use Rattle.utoipa_base.proofs.RowLists.{rows_refused, rows_fewer, rows_fit, list_as_table, passes_reads}
use Rattle.utoipa_base.proofs.table.read_table.Goals as goal

pub returns-then-not-is_object : goal.returns-then-not-is_object
returns-then-not-is_object g c = λ n is extended.
    record { ok = tt; err = read-no_object n _ (sym c.is_object.ensures ∙ c.if-not-is_object.true); grows = omega arith; at_most = omega arith; at_least = tt }

pub returns-in_err-fields : goal.returns-in_err-fields
returns-in_err-fields g c = λ n is extended.
    passes_reads _ _ _ _ _ _ _ _ _ _ _ c.from_residual.ensures.1 c.in_err-fields.ensures (rows_refused n _ _ is) (omega arith) (omega (arith, rows_fewer n _ (view c.args.tree.now) is))

pub returns-in_err-extensions : goal.returns-in_err-extensions
returns-in_err-extensions g c = λ n is extended.
    let less = rows_fewer n _ (view c.args.tree.now) is in
    record { ok = search rules; err = search rules; grows = c.in_ok-fields.ensures.grows; at_most = omega (arith, c.in_ok-fields.ensures.at_most, less); at_least = search rules }

pub returns : goal.returns
returns g c = λ n is extended.
    let object : is_some (as_object (view c.args.tree.now)) ≡ true = sym c.is_object.ensures ∙ c.if-not-is_object.false in
    let less = rows_fewer n _ (view c.args.tree.now) is in
    record {
      ok = rows_fit true n _ _ _ _ is extended object (fields_of_part _ _ _ c.in_ok-fields.ensures.ok) c.in_ok-extensions.ensures;
      err = tt;
      grows = c.in_ok-fields.ensures.grows;
      at_most = omega (arith, c.in_ok-fields.ensures.at_most, less);
      at_least = list_as_table n _ _ _ _ c.in_ok-fields.ensures.at_least;
    }
