use Rattle.std.proofs.Common.{option_map, string_bytes, ap, ◌∙◌}
use Rattle.std.proofs.lemmas.Result.{err_from_is_err_and}
use Rattle.serde_json.specs.View.{view, members_view}
use Rattle.serde_json.proofs.Views.{members_view-insert_entry, view-lookup}
use Rattle.utoipa_base.proofs.extensions.Extensions.insert.Goals as goal

pub returns-in_err-insert-clause-err : goal.returns-in_err-insert-clause-err
returns-in_err-insert-clause-err c =
    let p = err_from_is_err_and c.from_residual.result c.from_residual.ensures.1 in
    rw p.1 (ap members_view c.in_err-insert.ensures.err)

pub returns-clause-ok : goal.returns-clause-ok
returns-clause-ok c = ap members_view c.in_ok-insert.ensures.entries ∙ members_view-insert_entry c.args.self.now.entries.entries c.args.name c.args.value

pub returns-clause-earlier : goal.returns-clause-earlier
returns-clause-earlier c = ap (option_map view) c.in_ok-insert.ensures.old ∙ view-lookup (string_bytes c.args.name) c.args.self.now.entries.entries
