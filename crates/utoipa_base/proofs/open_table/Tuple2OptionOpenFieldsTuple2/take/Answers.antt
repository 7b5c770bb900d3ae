use Rattle.std.proofs.Common.{◌≡◌, ◌∙◌, true, get_or, is_some, false, bytes_eq, refl, sym, rules}
use Rattle.std.proofs.lemmas.Slice.Eq.{bytes_eq-Decides}
use Rattle.utoipa_base.proofs.RowLists.{rows_from-first, nameless}
use Rattle.utoipa_base.proofs.TokenTables.{holds, none_held, take_here}
use Rattle.utoipa_base.proofs.open_table.Tuple2OptionOpenFieldsTuple2.take.Goals as goal

pub returns-clause-taken : goal.returns-clause-taken
returns-clause-taken g c =
    let name = c.args.name.now in
    let own = (get_or c.args.names.now 0 nameless).now in
    let equal : bytes_eq name own ≡ true = holds (bytes_eq name own) (sym c.ne.ensures ∙ c.if-ne.false) in
    let same : own ≡ name = sym ((bytes_eq-Decides name own).0 equal) in
    let none : is_some c.args.self.now.0 ≡ false = search rules in
    λ _. rw (rows_from-first g.H.RowField.line g.R.RowFields.rows c.args.names.now _ c.requires)
    (take_here g.H.RowField.doc (g.H.RowField.line own) _ name _ _ _ _ c.in_ok-field.field _ _ _ _ _ (g.met.H.OpenField.is_named own ∙ same) (none_held g.H.RowField.doc c.args.self.now.0 none) refl refl (c.in_ok-field.ensures.read own))
