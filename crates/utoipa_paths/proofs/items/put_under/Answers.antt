use Rattle.std.proofs.Common.{◌∙◌, ap, cond, Some, string_bytes}
use Rattle.std.specs.Str.{bytes_eq}
use Rattle.std.specs.BTreeMap.{get_by_text}
use Rattle.std.proofs.lemmas.Map.Text.{btree_map_updates_text}
use Rattle.utoipa_paths.proofs.items.put_under.Goals as goal

pub returns-clause-ok : goal.returns-clause-ok
returns-clause-ok g c = record {
  values = λ q.
      btree_map_updates_text (string_bytes c.in_ok-from_str.field-0) c.args.map.now c.insert.new.self _ c.in_ok-insert.ensures.updates q
      ∙ ap (λ t. cond (bytes_eq t q) (Some c.args.value) (get_by_text c.args.map.now q)) c.in_ok-from_str.ensures.ok;
  ordered = c.in_ok-insert.ensures.ordered;
}
